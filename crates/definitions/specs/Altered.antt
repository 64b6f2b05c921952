-- The calls as they are defined, but for one of them: of these the leaks of paper 01 are made, and most of its wrong versions.
use Rattle.std.specs.Prelude.{ℕ, ◌≡◌, Bool, cond, not, ◌||◌, [], ◌∷◌, leb, ltb, length}
use Rattle.definitions.specs.declared.Packet.{Packet}
use Rattle.definitions.specs.Event.{Event, Open, Join, Change, Leave, Load, Arrive, Tick}
use Rattle.definitions.specs.declared.Answer.TheVariants.{Slot}
use Rattle.definitions.specs.Sizes.{places, shares, shortest, longest}
use Rattle.definitions.specs.State.{State, Core, running, updated, put}
use Rattle.definitions.specs.Checks.{Result, check, accepted, checked, unchanged, within, active_checks}
use Rattle.definitions.specs.Calls.{side_after_arrival, on_arrive}
use Rattle.definitions.specs.Client.{is_indifferent, charged}
use Rattle.definitions.specs.Tick.{Turn, turn, outcome_by, slotted, on_tick}
use Rattle.definitions.specs.Core.{when_opened, step}
use Rattle.definitions.specs.History.{Scheduler, scheduler_by}
use Rattle.definitions.specs.Sameness.{is_tick}

-- another tick
unfoldable pub with_tick : (State → Result) → Core → Event → Result
with_tick tick core c = cond (is_tick c) (when_opened core tick) (step core c)

-- a slot that is another turn's
unfoldable pub slot_by : (State → Turn) → State → Result
slot_by turn_of s = record {
  answer = Slot (outcome_by (turn_of s).rule (turn_of s).id s);
  core = running (slotted s (turn_of s));
}

abbrev pub by_turn : (State → Turn) → Scheduler
by_turn turn_of = scheduler_by (with_tick (slot_by turn_of)) turn_of

-- another arrive
unfoldable pub with_arrive : (State → ℕ → Packet → Result) → Core → Event → Result
with_arrive arrive core (Arrive id p) = when_opened core (λ s. arrive s id p)
with_arrive arrive core (Open threshold discipline seed) = step core (Open threshold discipline seed)
with_arrive arrive core (Join id kind rate burst) = step core (Join id kind rate burst)
with_arrive arrive core (Change id kind rate burst) = step core (Change id kind rate burst)
with_arrive arrive core (Leave id) = step core (Leave id)
with_arrive arrive core (Load id dummies) = step core (Load id dummies)
with_arrive arrive core Tick = step core Tick

-- what checks 14 and 15 ask for, where every id has so many places
unfoldable pub room_of : ℕ → State → ℕ → Bool
room_of n s id = ltb (length (s.side.stocks id).queue) n

unfoldable pub token_left : State → ℕ → Bool
token_left s id = not (is_indifferent (s.clients id).kind) || leb shares (s.clients id).level

-- an arrive whose checks 14 and 15 ask for something else
unfoldable pub arrive_if : (State → ℕ → Bool) → (State → ℕ → Bool) → State → ℕ → Packet → Result
arrive_if room token s id p =
    checked
    (active_checks s id (check 13 (within shortest longest p.length) ∷ check 14 (room s id) ∷ check 15 (token s id) ∷ []))
    (unchanged (running s))
    (accepted (updated s (put s.clients id (charged (s.clients id))) (side_after_arrival s id p)))

-- another change
unfoldable pub with_change : (State → ℕ → ℕ → ℕ → ℕ → Result) → Core → Event → Result
with_change change core (Change id kind rate burst) = when_opened core (λ s. change s id kind rate burst)
with_change change core (Open threshold discipline seed) = step core (Open threshold discipline seed)
with_change change core (Join id kind rate burst) = step core (Join id kind rate burst)
with_change change core (Leave id) = step core (Leave id)
with_change change core (Load id dummies) = step core (Load id dummies)
with_change change core (Arrive id p) = step core (Arrive id p)
with_change change core Tick = step core Tick

-- With the turn, the room and the token of the definitions, these are the tick and the arrive that they alter.
pub record Unaltered : Type 0 where
  pub tick : (s : State) → slot_by turn s ≡ on_tick s
  pub arrive : (s : State) (id : ℕ) (p : Packet) → arrive_if (room_of places) token_left s id p ≡ on_arrive s id p
