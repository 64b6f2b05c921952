-- A turn of the sum, and its end.
use Rattle.std.proofs.Common.{arith}
use Rattle.definitions.specs.Sizes.{ids, shares}
use Rattle.maxmin.proofs.DemandWalk.{cut-next, cut-none, cut_fits}
use Rattle.maxmin.proofs.cut_sum.Goals as goal

pub overflow_add-sum : goal.overflow_add-sum
unfolding ids shares
overflow_add-sum c =
    omega (
      arith,
      c.loop-demand.invariant,
      cut-next c.args.demands.now c.loop-demand.demand-index c.loop-demand-test.true c.args.level,
      cut_fits c.args.demands.now c.args.level c.requires.0 c.requires.1,
    )

pub loop-demand-preserved : goal.loop-demand-preserved
loop-demand-preserved c =
    omega (arith, c.loop-demand.invariant, cut-next c.args.demands.now c.loop-demand.demand-index c.loop-demand-test.true c.args.level)

pub returns : goal.returns
returns c = omega (arith, c.loop-demand.invariant, cut-none c.args.demands.now c.loop-demand.demand-index c.args.level c.loop-demand-test.false)
