-- Editions that differ in their number of places make the same of a history without a 14: the first call of which they would not
-- is refused with 14 in the one of fewer places. By induction over the history. Assumes nothing.
use Prim.Native.Nat.{ℕ, ◌+◌}
use native.Mathlib.Omega.{arith}
use mathlib.Core.Path.{◌≡◌, refl, ap, ap₂, ◌∙◌}
use mathlib.Core.Bool.{Bool, true, false, cond, ◌&&◌}
use lib.Dec.{eqb, ltb}
use lib.ListN.{length}
use borrow.Author.Tests.{lt-ltb, ltb-true}
use Rattle.definitions.specs.declared.Packet.{Packet}
use Rattle.definitions.specs.Event.{Event, Open, Join, Change, Leave, Load, Arrive, Tick}
use Rattle.definitions.specs.Sizes.{ids, places, shortest, longest}
use Rattle.definitions.specs.State.{State, Core, unopened, running}
use Rattle.definitions.specs.Client.{is_active}
use Rattle.definitions.specs.Answers.{number}
use Rattle.definitions.specs.Checks.{Result, refused, checked, within, active_checks}
use Rattle.definitions.specs.Core.{step}
use Rattle.definitions.specs.Tick.{turn}
use Rattle.definitions.specs.History.{History, start, ◌then◌, Dealing, ◌and◌, after, answer_at, dealing_at, trace_of, pick_of, draws_of, scheduler_by}
use Rattle.definitions.specs.Sameness.{is_arrival, names}
use Rattle.definitions.specs.Stretch.{is_offer}
use Rattle.definitions.specs.Greedy.{is_refused, refused_ever}
use Rattle.definitions.specs.Altered.{with_arrive, room_of, token_left, arrive_if}
use Rattle.definitions.specs.Editions.{in_edition, edition, Alike, Editions}
use Rattle.definitions.proofs.Laws.Tests.{true-false, or-false, eqb_same}
use Rattle.definitions.proofs.WrongVersions.{unaltered}

-- One of a list of checks may be passed more easily, where it is not the one that refuses.
module _ (s : State) (id : ℕ) (p : Packet) (n more : ℕ) where
  room_grows : room_of n s id ≡ true → room_of (n + more) s id ≡ true
  unfolding room_of
  room_grows e =
      lt-ltb (length (s.side.stocks id).queue) (n + more) (omega (arith, ltb-true (length (s.side.stocks id).queue) n e))

  arrive_grows : eqb (number (arrive_if (room_of n) token_left s id p).answer) 14 ≡ false
      → arrive_if (room_of n) token_left s id p ≡ arrive_if (room_of (n + more)) token_left s id p
  unfolding arrive_if checked active_checks number
  arrive_grows other =
      go (ltb id ids) (is_active (s.clients id).kind) (within shortest longest p.length) (room_of n s id)
      (room_of (n + more) s id) _ room_grows other
    where
      -- what the checks 4, 5, 13 and 14 leave of what is done behind them
      refusing : Bool → Bool → Bool → Bool → Result → Result
      refusing known active fits room done =
          cond known (cond active (cond fits (cond room done (refused 14 (running s))) (refused 13 (running s)))
          (refused 5 (running s))) (refused 4 (running s))

      go : (known active fits room wider : Bool) (done : Result)
          → (room ≡ true → wider ≡ true)
          → eqb (number (refusing known active fits room done).answer) 14 ≡ false
          → refusing known active fits room done ≡ refusing known active fits wider done
      go false active fits room wider done grows e = refl
      go true false fits room wider done grows e = refl
      go true true false room wider done grows e = refl
      go true true true true wider done grows e = rw (grows refl)
      go true true true false wider done grows e = true-false refl e

step_grows : (n more : ℕ) (core : Core) (c : Event)
    → ((id : ℕ) → (is_offer id c && eqb (number (in_edition n core c).answer) 14) ≡ false)
    → in_edition n core c ≡ in_edition (n + more) core c
unfolding in_edition with_arrive is_offer is_arrival names
step_grows n more core (Open threshold discipline seed) other = refl
step_grows n more core (Join id kind rate burst) other = refl
step_grows n more core (Change id kind rate burst) other = refl
step_grows n more core (Leave id) other = refl
step_grows n more core (Load id dummies) other = refl
step_grows n more unopened (Arrive id p) other = refl
step_grows n more (running s) (Arrive id p) other = arrive_grows s id p n more (rw (eqb_same id) at (other id))
step_grows n more core Tick other = refl

step_present : (core : Core) (c : Event) → in_edition places core c ≡ step core c
unfolding in_edition with_arrive step
step_present core (Open threshold discipline seed) = refl
step_present core (Join id kind rate burst) = refl
step_present core (Change id kind rate burst) = refl
step_present core (Leave id) = refl
step_present core (Load id dummies) = refl
step_present unopened (Arrive id p) = refl
step_present (running s) (Arrive id p) = unaltered.arrive s id p
step_present core Tick = refl

-- two ways to deal with calls that make the same of a history and of a call behind it
module _ {one other : Core → Event → Result} {h : History} {c : Event} (same : Alike one other h)
    (alike : one (after (scheduler_by one turn) h) c ≡ other (after (scheduler_by one turn) h) c) where
  results : one (after (scheduler_by one turn) h) c ≡ other (after (scheduler_by other turn) h) c
  results = alike ∙ ap (λ core. other core c) same.cores

  alike_then : Alike one other (h then c)
  unfolding after answer_at dealing_at trace_of
  alike_then = record {
    traces = ap₂ (λ t d. t and d) same.traces (ap₂ dealt same.cores results);
    cores = ap (λ r. r.core) results;
  }
    where
      dealt : Core → Result → Dealing
      dealt core r = record { event = c; answer = r.answer; pick = pick_of core; draws = draws_of core }

grown_alike : (n more : ℕ) (h : History)
    → ((id : ℕ) → refused_ever id 14 (trace_of (edition n) h) ≡ false)
    → Alike (in_edition n) (in_edition (n + more)) h
unfolding after trace_of dealing_at answer_at refused_ever is_refused
grown_alike n more start never = record { traces = refl; cores = refl }
grown_alike n more (h then c) never =
    alike_then (grown_alike n more h (λ id. (apart id).0)) (step_grows n more (after (edition n) h) c (λ id. (apart id).1))
  where
    apart : (id : ℕ)
        → (refused_ever id 14 (trace_of (edition n) h) ≡ false) × (is_refused id 14 (dealing_at (edition n) h c) ≡ false)
    apart id = or-false _ _ (never id)

present_alike : (h : History) → Alike (in_edition places) step h
unfolding after trace_of
present_alike start = record { traces = refl; cores = refl }
present_alike (h then c) = alike_then (present_alike h) (step_present (after (edition places) h) c)

pub editions : Editions
editions = record { present = present_alike; grown = grown_alike }
