-- What each turn of the walk and its end come to.
use Rattle.std.proofs.Common.{◌≤◌, ◌^◌, arith}
use Rattle.definitions.specs.Sizes.{ids}
use Rattle.marks.proofs.MarksWalk.{walked_lt, walked_small, walked_all}
use Rattle.draw.specs.Weights.{weight_at, own_rate}
use Rattle.draw.proofs.total.Goals as goal

pub bounds-terms-id : goal.bounds-terms-id
unfolding ids
bounds-terms-id c =
    let w = rw c.in-Some.ensures.steps at c.loop-id.invariant.2 in
    omega (arith, walked_lt w)

pub overflow_add-sum : goal.overflow_add-sum
unfolding ids
overflow_add-sum c =
    let w = rw c.in-Some.ensures.steps at c.loop-id.invariant.2 in
    let bound : own_rate c.args.terms.now c.in-Some.id ≤ 2 ^ 32 = omega arith in
    omega (arith, walked_small w bound)

pub returns : goal.returns
unfolding weight_at
returns c =
    let w = rw c.in-None.ensures.steps.0 at c.loop-id.invariant.2 in
    walked_all w
