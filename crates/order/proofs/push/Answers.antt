-- `order::push` meets its contract: the last node is followed by the new place, and that by the sentinel.
-- Assumes nothing.
use Rattle.std.proofs.Common.{arith}
use Rattle.definitions.specs.Sizes.{ids, places}
use Rattle.order.specs.Order.{sentinel, prev_of}
use Rattle.order.proofs.PushAndUnlink.{prev_node, pushed_sound, pushed_ordered}
use Rattle.order.proofs.push.Goals as goal

pub join-requires : goal.join-requires
unfolding prev_of sentinel ids places
join-requires c = omega (arith, prev_node _ c.requires sentinel)

pub join-requires-2 : goal.join-requires-2
unfolding prev_of sentinel ids places
join-requires-2 c = omega (arith, prev_node _ c.requires sentinel)

pub returns : goal.returns
unfolding prev_of sentinel ids places
returns c =
    rw (c.join-2.ensures, c.join.ensures)
    (record { sound = pushed_sound _ c.requires _; by_index = pushed_ordered _ c.requires _ })
