-- An earlier history shows in no answer of a run whose first call is an open that is accepted: it leaves the same core whatever
-- core it is made on. By its checks, which ask nothing of the core, and by induction over the calls. The tests run from such a
-- seed. Assumes nothing.
use Prim.Native.Nat.{ℕ, zero, suc}
use mathlib.Core.Path.{◌≡◌, refl, sym, ap, ◌∙◌}
use mathlib.Core.Bool.{Bool, true, false, cond}
use lib.Dec.{eqb}
use Rattle.definitions.specs.Sizes.{shares, weighted_draw}
use Rattle.definitions.specs.Generator.{xor_left, xor_right, stepped}
use Rattle.definitions.specs.State.{Core, unopened, fresh}
use Rattle.definitions.specs.Checks.{checked, unchanged, within, open_checks}
use Rattle.definitions.specs.Calls.{on_open}
use Rattle.definitions.specs.Core.{step}
use Rattle.definitions.proofs.Laws.Checked.{checked_anyway, checked-accepted}
use Rattle.grammar.specs.Calls.{event_of}
use Rattle.runs.specs.Calls.{by_upper, call_at}
use Rattle.runs.specs.LongRun.{begun_on, begun, nth_draw, call_from, taken, next, after, block}
use Rattle.runs.specs.Advance.{repeated}
use Rattle.remains.specs.Started.{behind, started, OpensFirst, EarlierUnseen}

module _ (seed : ℕ) (first : OpensFirst seed) where
  step_anywhere : (core : Core) → step core (event_of (call_from false seed)) ≡ step unopened (event_of (call_from false seed))
  unfolding step on_open
  step_anywhere core =
      let checks = open_checks first.threshold first.discipline first.generator in
      let made = fresh first.threshold first.discipline first.generator in
      rw first.opens
      (checked_anyway checks (unchanged unopened) (unchanged core) made first.accepts
      ∙ sym (checked-accepted checks (unchanged unopened) made first.accepts))

  next-behind : (earlier : ℕ) → next (behind earlier seed) ≡ next (begun seed)
  unfolding next behind begun_on
  next-behind earlier = ap (taken (begun seed)) (step_anywhere (after earlier block).core)

  next-started : (earlier : ℕ) → next (started earlier seed) ≡ next (begun seed)
  unfolding started
  next-started earlier = go (eqb earlier 0)
    where
      go : (none : Bool) → next (cond none (begun seed) (behind earlier seed)) ≡ next (begun seed)
      go true = refl
      go false = next-behind earlier

pub earlier_unseen : EarlierUnseen
unfolding after repeated
earlier_unseen earlier seed zero first = next-started seed first earlier
earlier_unseen earlier seed (suc calls) first = ap next (earlier_unseen earlier seed calls first)

-- the seed of the tests
pub tested_opens : OpensFirst 17476
unfolding call_from call_at by_upper nth_draw stepped xor_left xor_right step on_open checked open_checks within shares weighted_draw
tested_opens = record { threshold = 1024; discipline = 1; generator = 316840187; opens = refl; accepts = refl }
