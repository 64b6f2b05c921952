-- `remains::fill`: each array holds the number throughout.
use Rattle.definitions.specs.Sizes.{ids, places}
use Rattle.order.specs.Order.{sentinel, link_count}
use Rattle.remains.proofs.fill.Goals as goal

pub returns : goal.returns
unfolding ids places sentinel link_count
returns c = rw c.lower_half-tables.ensures
