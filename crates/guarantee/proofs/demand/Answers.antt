-- What each turn of the walk and its end come to.
use Rattle.std.proofs.Common.{◌≤◌, ◌^◌, arith}
use Rattle.definitions.specs.Sizes.{ids}
use Rattle.marks.proofs.MarksWalk.{walked_lt, walked_small, walked_all}
use Rattle.guarantee.specs.Demands.{demand_at}
use Rattle.guarantee.proofs.demand.Goals as goal

pub demand_at-sum-requires : goal.demand_at-sum-requires
demand_at-sum-requires c = walked_lt (rw c.in-Some.ensures.steps at c.loop-id.invariant.2)

pub overflow_add-sum : goal.overflow_add-sum
unfolding ids
overflow_add-sum c =
    let bound : demand_at c.args.terms.now c.args.stocks.now c.args.ticks c.in-Some.id ≤ 2 ^ 55 = omega arith in
    omega (arith, walked_small (rw c.in-Some.ensures.steps at c.loop-id.invariant.2) bound)

pub returns : goal.returns
returns c = walked_all (rw c.in-None.ensures.steps.0 at c.loop-id.invariant.2)
