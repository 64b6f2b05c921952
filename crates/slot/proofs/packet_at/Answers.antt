-- A place is an index of either table.
use Rattle.std.proofs.Common.{arith}
use Rattle.definitions.specs.Sizes.{ids, places}
use Rattle.order.specs.Order.{sentinel}
use Rattle.tables.specs.Meaning.{packet_at}
use Rattle.slot.proofs.packet_at.Goals as goal

pub bounds-handles-at : goal.bounds-handles-at
unfolding sentinel ids places
bounds-handles-at c = omega arith

pub bounds-lengths-at : goal.bounds-lengths-at
unfolding sentinel ids places
bounds-lengths-at c = omega arith

pub returns : goal.returns
unfolding packet_at
returns c es ks ns ms = rw c.lengthened.ensures
