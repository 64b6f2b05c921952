-- The node before the place is followed by the one behind it.
use Rattle.definitions.specs.Sizes.{ids, places}
use Rattle.order.specs.Order.{sentinel, next_of, prev_of}
use Rattle.order.proofs.PushAndUnlink.{unlinked_sound, unlinked_ordered}
use Rattle.order.proofs.unlink.Goals as goal

pub returns : goal.returns
unfolding next_of prev_of sentinel ids places
returns c = rw c.join.ensures (record { sound = unlinked_sound _ c.requires _; by_index = unlinked_ordered _ c.requires _ })
