-- `remains::overwrite_unused`: at the end the places passed are all.
use Rattle.std.proofs.Common.{◌≡◌, arith}
use Rattle.definitions.specs.Sizes.{ids, places}
use Rattle.order.specs.Order.{sentinel}
use Rattle.remains.specs.Remains.{overwritten_unused}
use Rattle.remains.proofs.overwrite_unused.Goals as goal

pub returns-clause-handles_after : goal.returns-clause-handles_after
unfolding sentinel ids places overwritten_unused
returns-clause-handles_after c =
    let all : c.loop-place.place ≡ sentinel = omega arith in
    rw all at c.loop-place.invariant.0

pub returns-clause-lengths_after : goal.returns-clause-lengths_after
unfolding sentinel ids places overwritten_unused
returns-clause-lengths_after c =
    let all : c.loop-place.place ≡ sentinel = omega arith in
    rw all at c.loop-place.invariant.1
