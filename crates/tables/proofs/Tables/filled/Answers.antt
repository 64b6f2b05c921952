-- `tables::Tables::filled` meets its contract: each array holds the number throughout. Assumes nothing.
use Rattle.std.proofs.Common.{refl}
use Rattle.definitions.specs.Sizes.{ids, places}
use Rattle.order.specs.Order.{sentinel, link_count}
use Rattle.tables.proofs.Tables.filled.Goals as goal

pub returns : goal.returns
unfolding ids places sentinel link_count
returns c = refl
