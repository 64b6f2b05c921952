-- The facts of specs/Facts on ticks, changes and checks. Each holds by opening the definitions and putting in what is given; the
-- laws that they share stand in Laws. Those on turns, which need the limits, stand in Limits/Turns. Assumes nothing.
use Prim.Native.Nat.{ℕ, ◌+◌}
use mathlib.Core.Path.{◌≡◌, refl, sym, fun_ext}
use mathlib.Core.Logic.{◌≢◌}
use mathlib.Core.List.{List}
use native.Mathlib.Omega.{arith}
use native.Mathlib.Nat.{le_of_eq}
use lib.Dec.{eqb_refl}
use borrow.Author.Tests.{eq-eqb, ne_eqb, le-leb, lt-leb, le-ltb}
use Rattle.definitions.specs.Event.{Open, Join, Change, Leave, Load, Arrive, Tick}
use Rattle.definitions.specs.declared.Answer.TheVariants.{Accepted, Refused}
use Rattle.definitions.specs.Sizes.{pool_limit, first_come}
use Rattle.definitions.specs.Draw.{draw}
use Rattle.definitions.specs.Client.{kind_of, retuned, joining, changed, refilled}
use Rattle.definitions.specs.Stock.{bare}
use Rattle.definitions.specs.State.{State, Core, unopened, running, updated, emptied}
use Rattle.definitions.specs.Answers.{is_departure}
use Rattle.definitions.specs.Checks.{Check, accepted, checked, unchanged, open_checks, term_checks, join_checks, active_checks, change_checks, leave_checks, load_checks, arrive_checks}
use Rattle.definitions.specs.Calls.{on_open, on_join, side_after_change, on_change, on_leave, on_load, on_arrive}
use Rattle.definitions.specs.Tick.{rule2, first_turn, turn_by, turn, outcome_by, side_after, refill_all, slotted, on_tick}
use Rattle.definitions.specs.Core.{when_opened, step}
use Rattle.definitions.specs.History.{client_of, stock_of, generator_of}
use Rattle.definitions.specs.Stretch.{is_open}
use Rattle.definitions.specs.Facts.{TickFacts, ChangeFacts, CheckFacts}
use Rattle.definitions.proofs.Laws.Checked.{checked-accepted, checked-kept, refused_differs}
use Rattle.definitions.proofs.Laws.Rules.{sent-bears}
use Rattle.definitions.proofs.Laws.Kinds.{same_kind-refl, same_kind-false}
use Rattle.definitions.proofs.Laws.Clients.{put_same}

-- after any tick, whoever was picked, every client is that of before, refilled
pub tick_client : (s : State) (id : ℕ) → client_of (on_tick s).core id ≡ refilled (s.clients id)
unfolding client_of on_tick slotted updated refill_all
tick_client s id = refl

pub tick_facts : TickFacts
unfolding generator_of on_tick slotted updated side_after turn turn_by first_turn draw is_departure outcome_by refilled
tick_facts = record {
  tick_rule1_first_come = λ s r d. rw (r, eq-eqb s.discipline first_come d);
  tick_rule1_drawn = λ s r d. rw (r, ne_eqb s.discipline first_come d);
  tick_rule2_generator = λ s r. rw r;
  tick_rule3_generator = λ s r. rw r;
  tick_rule2_id = λ s r. rw r;
  tick_rule2_alike = λ s t r q g same. rw (r, q, g, fun_ext same);
  tick_rule2_bears = λ s r. rw (r, sent-bears) (eqb_refl (turn_by rule2 s).id);
  tick_refills = λ s id k. rw (tick_client, k);
  tick_private_level = λ s id k. rw (tick_client, k);
}

-- an accepted change makes of its client what `changed` says
change_client : (s : State) (id kind rate burst : ℕ)
    → (on_change s id kind rate burst).answer ≡ Accepted
    → client_of (on_change s id kind rate burst).core id ≡ changed (s.clients id) kind rate burst
unfolding on_change client_of updated
change_client s id kind rate burst ok =
    rw (checked-accepted (change_checks s id kind rate burst) (unchanged (running s)) _ ok) (put_same s.clients id _)

-- and of its stock what `side_after_change` says
change_stock : (s : State) (id kind rate burst : ℕ)
    → (on_change s id kind rate burst).answer ≡ Accepted
    → stock_of (on_change s id kind rate burst).core id ≡ (side_after_change s id kind).stocks id
unfolding on_change stock_of updated
change_stock s id kind rate burst ok = rw (checked-accepted (change_checks s id kind rate burst) (unchanged (running s)) _ ok)

pub change_facts : ChangeFacts
unfolding changed retuned joining side_after_change emptied on_change checked change_checks active_checks term_checks
change_facts = record {
  change_keeps = λ s id kind rate burst ok k.
      record {
        stock_is = rw (change_stock s id kind rate burst ok, ← k, same_kind-refl);
        level_is = rw (change_client s id kind rate burst ok, ← k, same_kind-refl);
      };
  change_empties = λ s id kind rate burst ok k.
      record {
        stock_is = rw (change_stock s id kind rate burst ok, same_kind-false (s.clients id).kind (kind_of kind) k)
            (put_same s.side.stocks id bare);
        level_is = rw (change_client s id kind rate burst ok, same_kind-false (s.clients id).kind (kind_of kind) k);
      };
  change_within = λ s id kind rate burst p h. rw (p.named, p.active, p.kinded, p.rated, p.fits, le-leb _ _ h);
  change_past = λ s id kind rate burst p h. rw (p.named, p.active, p.kinded, p.rated, p.fits, lt-leb _ _ h);
}

-- a call with checks that is refused, by 19 or by a check, leaves the core as it was
when_opened-kept : (core : Core) (checks : State → List Check) (made : State → State)
    → (when_opened core (λ s. checked (checks s) (unchanged (running s)) (accepted (made s)))).answer ≢ Accepted
    → (when_opened core (λ s. checked (checks s) (unchanged (running s)) (accepted (made s)))).core ≡ core
when_opened-kept unopened checks made n = refl
when_opened-kept (running s) checks made n = checked-kept (checks s) (running s) (made s) n

pub check_facts : CheckFacts
unfolding step on_open on_join on_change on_leave on_load on_arrive on_tick checked load_checks arrive_checks active_checks is_open
check_facts = record {
  arrive_full = λ s id p named active fits full. rw (named, active, fits, le-ltb _ _ (le_of_eq (sym full)));
  load_none = λ s id named k full. rw (named, k, le-leb ((s.side.stocks id).pool + 0) pool_limit (omega arith));
  open_kept = λ core threshold discipline seed. checked-kept (open_checks threshold discipline seed) core _;
  unopened_refuses = elim [
    | Open threshold discipline seed ↦ λ e. cc
    | Join id kind rate burst ↦ λ e. refl
    | Change id kind rate burst ↦ λ e. refl
    | Leave id ↦ λ e. refl
    | Load id dummies ↦ λ e. refl
    | Arrive id packet ↦ λ e. refl
    | Tick ↦ λ e. refl
  ];
  step-refused = λ core. elim [
    | Open threshold discipline seed ↦ λ n e. checked-kept (open_checks threshold discipline seed) core _ (refused_differs e)
    | Join id kind rate burst ↦ λ n e. when_opened-kept core (λ s. join_checks s id kind rate burst) _ (refused_differs e)
    | Change id kind rate burst ↦ λ n e. when_opened-kept core (λ s. change_checks s id kind rate burst) _ (refused_differs e)
    | Leave id ↦ λ n e. when_opened-kept core (λ s. leave_checks s id) _ (refused_differs e)
    | Load id dummies ↦ λ n e. when_opened-kept core (λ s. load_checks s id dummies) _ (refused_differs e)
    | Arrive id packet ↦ λ n e. when_opened-kept core (λ s. arrive_checks s id packet) _ (refused_differs e)
    | Tick ↦ elim core as (λ (k : Core). (n : ℕ) → (step k Tick).answer ≡ Refused n → (step k Tick).core ≡ k) [ unopened ↦ λ n e. refl | running s ↦ λ n e. cc ]
  ];
}
