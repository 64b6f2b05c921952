-- A turn of the writing, and its end.
use Rattle.std.proofs.Common.{sym, ◌∙◌, ℕ, ◌≤◌, ltb, get_or, arith}
use Rattle.std.proofs.Math.Nat.{min_comm}
use Rattle.definitions.specs.Sizes.{shares}
use Rattle.definitions.specs.FairRates.{extra}
use Rattle.definitions.proofs.Laws.Tests.{cond_both}
use Rattle.maxmin.proofs.DemandWalk.{rates-next, rates-none}
use Rattle.maxmin.proofs.put_rates.Goals as goal

-- what a share of what is left comes to
extra_most : (level left demand : ℕ) → (extra level left demand ≤ 1) × (extra level left demand ≤ left)
unfolding extra
extra_most level left demand =
    cond_both (λ n. (n ≤ 1) × (n ≤ left)) (ltb level demand) (omega arith, omega arith) (omega arith, omega arith)

pub overflow_add-rates : goal.overflow_add-rates
unfolding shares
overflow_add-rates c = omega (arith, extra_most c.args.level c.loop-i.rest (get_or c.args.demands.now c.loop-i.i 0))

pub overflow_sub-rest : goal.overflow_sub-rest
overflow_sub-rest c = omega (arith, extra_most c.args.level c.loop-i.rest (get_or c.args.demands.now c.loop-i.i 0))

pub loop-i-preserved : goal.loop-i-preserved
loop-i-preserved c =
    rw (c.min.ensures, min_comm c.args.level _, c.extra-more.ensures)
    (sym (rates-next c.args.demands.now c.loop-i.i c.loop-i-test.true c.args.level c.loop-i.rest c.loop-i.rates) ∙ c.loop-i.invariant)

pub returns : goal.returns
returns c =
    sym (rates-none c.args.demands.now c.loop-i.i c.args.level c.loop-i.rest c.loop-i.rates c.loop-i-test.false) ∙ c.loop-i.invariant
