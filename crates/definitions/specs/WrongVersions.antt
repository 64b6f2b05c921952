-- The versions that "have to break the contract" (paper 01, "Conditions of acceptance"), each written down as a scheduler that
-- deals in that wrong way with the calls that it is about, and with all others as they are defined. `AllDiffer` claims of each
-- that some history shows it: a call behind it gets another answer than the calls define.
use Rattle.std.specs.Prelude.{ℕ, ◌-◌, ◌≢◌, Bool, false, cond, not, ◌||◌, ltb}
use Rattle.definitions.specs.declared.Packet.{Packet}
use Rattle.definitions.specs.declared.Outcome.{Outcome}
use Rattle.definitions.specs.declared.Outcome.TheVariants.{Dummy, Idle, None}
use Rattle.definitions.specs.Event.{Event}
use Rattle.definitions.specs.declared.Answer.TheVariants.{Slot}
use Rattle.definitions.specs.Sizes.{ids, places, shares}
use Rattle.definitions.specs.Draw.{first_from}
use Rattle.definitions.specs.Client.{Client, is_indifferent, is_private}
use Rattle.definitions.specs.Stock.{Stock}
use Rattle.definitions.specs.State.{State, Core, unopened, running}
use Rattle.definitions.specs.Checks.{Result, refused}
use Rattle.definitions.specs.Calls.{on_arrive}
use Rattle.definitions.specs.Tick.{Rule, rule1, rule2, rule3, Turn, with_id, undrawn, contends, turn, slotted, on_tick}
use Rattle.definitions.specs.Core.{step}
use Rattle.definitions.specs.History.{History, Scheduler, answer_at, pick_of, draws_of, holdings_of, scheduler_by, scheduler}
use Rattle.definitions.specs.Sameness.{is_tick}
use Rattle.definitions.specs.Altered.{with_tick, by_turn, with_arrive, room_of, arrive_if}
use Rattle.definitions.specs.Editions.{edition}

-- a history, and a call behind it that gets another answer than the calls define
pub record Differs (S : Scheduler) : Type 0 where
  pub history : History
  pub event : Event
  pub differs : answer_at S history event ≢ answer_at scheduler history event

-- a slot with an outcome, in which nothing is sent
unfoldable pub unsent : State → Outcome → Result
unsent s outcome = record {
  answer = Slot outcome;
  core = running (slotted s (undrawn rule3 0 (turn s).generator));
}

-- "every private slot a dummy though packets wait"
abbrev pub dummy_by : Rule → State → Result
dummy_by rule1 s = on_tick s
dummy_by rule2 s = unsent s (Dummy (turn s).id)
dummy_by rule3 s = on_tick s

abbrev pub always_dummy : Scheduler
always_dummy = scheduler_by (with_tick (λ s. dummy_by (turn s).rule s)) turn

-- "the first tick by the rule and every later one idle": it remembers whether it has ticked
unfoldable pub idle_once_ticked : Core × Bool → Event → Result
idle_once_ticked inside c = cond inside.1 (with_tick (λ s. unsent s (Idle (turn s).id)) inside.0 c) (step inside.0 c)

abbrev pub later_idle : Scheduler
later_idle = record {
  Inside = Core × Bool;
  unopened_core = (unopened, false);
  answer = λ inside c. (idle_once_ticked inside c).answer;
  next = λ inside c. ((idle_once_ticked inside c).core, inside.1 || is_tick c);
  pick = λ inside. pick_of inside.0;
  draws = λ inside. draws_of inside.0;
  holdings = λ inside. holdings_of inside.0;
}

-- "14 or 15 with places and tokens left": the last place is not given, or the last token
abbrev pub full_early : Scheduler
full_early = edition (places - 1)

unfoldable pub more_than_token : State → ℕ → Bool
more_than_token s id = not (is_indifferent (s.clients id).kind) || ltb shares (s.clients id).level

abbrev pub drained_early : Scheduler
drained_early = scheduler_by (with_arrive (arrive_if (room_of places) more_than_token)) turn

-- "each slot given to the lowest id" of those that its rule is about
abbrev pub concerns : Rule → Client → Stock → Bool
concerns rule1 c k = contends c k
concerns rule2 c k = is_private c.kind
concerns rule3 c k = false

unfoldable pub lowest_turn : State → Turn
lowest_turn s = with_id (turn s) (first_from 0 ids (λ id. concerns (turn s).rule (s.clients id) (s.side.stocks id)))

abbrev pub lowest_id : Scheduler
lowest_id = by_turn lowest_turn

-- "arrivals said to be accepted and not kept"
unfoldable pub forgotten : State → ℕ → Packet → Result
forgotten s id p = record { answer = (on_arrive s id p).answer; core = running s }

abbrev pub not_kept : Scheduler
not_kept = scheduler_by (with_arrive forgotten) turn

-- "a refusal to every call", with any numbers
abbrev pub refuses_all : (Core → Event → ℕ) → Scheduler
refuses_all number = scheduler_by (λ core c. refused (number core c) core) turn

-- "`none` always"
abbrev pub always_none : Scheduler
always_none = scheduler_by (with_tick (λ s. unsent s None)) turn

pub record AllDiffer : Type 0 where
  pub always_dummy_differs : Differs always_dummy
  pub later_idle_differs : Differs later_idle
  pub full_early_differs : Differs full_early
  pub drained_early_differs : Differs drained_early
  pub lowest_id_differs : Differs lowest_id
  pub not_kept_differs : Differs not_kept
  pub refuses_all_differs : (number : Core → Event → ℕ) → Differs (refuses_all number)
  pub always_none_differs : Differs always_none
