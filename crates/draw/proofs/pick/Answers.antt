-- What each turn of the walk and its end come to.
use Rattle.std.proofs.Common.{◌≤◌, ◌^◌, arith}
use Rattle.definitions.specs.Sizes.{ids}
use Rattle.marks.proofs.MarksWalk.{walked_lt, walked_small, walked_drawn, walked_none}
use Rattle.draw.specs.Weights.{weight_at, own_rate}
use Rattle.draw.proofs.pick.Goals as goal

pub bounds-terms-id : goal.bounds-terms-id
unfolding ids
bounds-terms-id c = omega (arith, walked_lt (rw c.in-Some.ensures.steps at c.loop-id.invariant.2))

pub overflow_add-reached : goal.overflow_add-reached
unfolding ids
overflow_add-reached c =
    let bound : own_rate c.args.terms.now c.in-Some.id ≤ 2 ^ 32 = omega arith in
    omega (arith, walked_small (rw c.in-Some.ensures.steps at c.loop-id.invariant.2) bound)

pub returns-then-limit-reached : goal.returns-then-limit-reached
unfolding weight_at
returns-then-limit-reached c =
    walked_drawn (rw c.in-Some.ensures.steps at c.loop-id.invariant.2) c.args.target (omega arith) (omega arith)

pub returns : goal.returns
unfolding ids weight_at
returns c = walked_none (rw c.in-None.ensures.steps.0 at c.loop-id.invariant.2) c.args.target (omega arith)
