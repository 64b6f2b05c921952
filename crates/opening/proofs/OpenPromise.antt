-- An open keeps its promise: refused, it keeps the core; accepted, it leaves the empty tables, which mean a fresh core.
-- Assumes nothing.
use Prim.Native.Nat.{ℕ}
use mathlib.Core.Path.{◌≡◌, refl, sym, ap, subst, ◌∙◌}
use mathlib.Core.Logic.{◌≢◌}
use mathlib.Core.Bool.{Bool, true, false, cond}
use mathlib.Core.List.{List}
use lib.Dec.{ltb}
use Rattle.definitions.specs.Sizes.{ids}
use Rattle.definitions.specs.Event.{Event, Open}
use Rattle.definitions.specs.declared.Answer.TheVariants.{Accepted, Refused}
use Rattle.definitions.specs.State.{State, unopened, running, fresh}
use Rattle.definitions.specs.Checks.{Result, Check, accepted, refused, open_checks}
use Rattle.definitions.specs.Calls.{on_open}
use Rattle.definitions.specs.Core.{step}
use Rattle.definitions.specs.Counts.{Count, zeros, entry_of_accepted, entry_of_refused, entry_of, entered, counts_after}
use Rattle.definitions.specs.Limits.{StateLimits, CoreLimits}
use Rattle.definitions.proofs.Limits.{step-limits}
use Rattle.counts.specs.CountTable.{count_in}
use Rattle.tables.specs.declared.Control.{Control}
use Rattle.tables.specs.declared.Answered.{Answered}
use Rattle.tables.specs.declared.Tables.{Tables}
use Rattle.tables.specs.Meaning.{state_of, core_of, counts_of}
use Rattle.tables.specs.Invariant.{Valid}
use Rattle.tables.specs.Numbers.{first_failed}
use Rattle.tables.specs.Promise.{Meets}
use Rattle.tables.specs.Counting.{Counts}
use Rattle.tables.proofs.Countings.{counts_refused}
use Rattle.tables.proofs.Promises.{checked_refused, checked_done, core_of-opened}
use Rattle.opening.proofs.EmptyTables.{empty_control, empty_tables, count_zero, empty_state, empty_shape}

module _ (c : Control) (t : Tables) (valid : Valid c t) (threshold discipline seed : ℕ) where
  abbrev call : Event
  call = Open threshold discipline seed

  abbrev checks : List Check
  checks = open_checks threshold discipline seed

  abbrev made : State
  made = fresh threshold discipline seed

  pub open_refused : (r : Answered) (n : ℕ) → r ≡ record { control = c; answer = Refused n }
      → n ≡ first_failed (open_checks threshold discipline seed)
      → n ≢ 0
      → Meets (Open threshold discipline seed) c t r t
  open_refused r n e f some = rw (e, f) (record {
    answer = ap (λ (q : Result). q.answer) (sym ran);
    core = ap (λ (q : Result). q.core) (sym ran);
    valid = valid;
  })
    where
      ran : step (core_of c t) call ≡ refused (first_failed checks) (core_of c t)
      ran = unfold step on_open in checked_refused (core_of c t) (accepted made) checks (λ z. some (f ∙ z))

  limits_before : CoreLimits (core_of c t)
  unfolding core_of
  limits_before = go c.opened refl
    where
      go : (b : Bool) → c.opened ≡ b → CoreLimits (cond b (running (state_of c t)) unopened)
      go true e = (valid e).limits
      go false e = tt

  pub open_refused_counts : (r : Answered) (n : ℕ) → r ≡ record { control = c; answer = Refused n }
      → Counts (Open threshold discipline seed) c t r t
  unfolding entry_of_refused
  open_refused_counts r n e = counts_refused n e refl (λ id indifferent waiting. refl)

  pub open_accepted : (r : Answered)
      → r ≡ record { control = empty_control true threshold discipline seed; answer = Accepted }
      → first_failed (open_checks threshold discipline seed) ≡ 0
      → Meets (Open threshold discipline seed) c t r empty_tables
  open_accepted r e none = rw e (record {
    answer = ap (λ (q : Result). q.answer) (sym ran);
    core = core_of-opened d empty_tables refl ∙ ap running means ∙ ap (λ (q : Result). q.core) (sym ran);
    valid = λ w. record { shape = empty_shape threshold discipline seed; limits = rw means limits };
  })
    where
      d : Control
      d = empty_control true threshold discipline seed

      means : state_of d empty_tables ≡ made
      means = empty_state threshold discipline seed

      ran : step (core_of c t) call ≡ accepted made
      ran = unfold step on_open open_checks in checked_done (core_of c t) (accepted made) checks tt none

      limits : StateLimits made
      limits = subst (λ (q : Result). CoreLimits q.core) ran (step-limits (core_of c t) limits_before call)

  -- every sheet begins anew
  pub open_counts : (r : Answered)
      → r ≡ record { control = empty_control true threshold discipline seed; answer = Accepted }
      → Counts (Open threshold discipline seed) c t r empty_tables
  unfolding counts_of counts_after entry_of entry_of_accepted entered
  open_counts r e = rw e (record { each = λ id count. go (ltb id ids) id count })
    where
      go : (b : Bool) (id : ℕ) (count : Count) → cond b (count_in empty_tables.counts id) zeros count ≡ 0
      go true id count = count_zero id count
      go false id count = refl
