-- `settings::place_client` meets its contract: the id's terms are written, then the control follows.
-- Assumes nothing.
use Rattle.std.proofs.Common.{rules}
use Rattle.definitions.specs.Sizes.{ids}
use Rattle.tables.specs.Tables.{field}
use Rattle.settings.proofs.place_client.Goals as goal

pub bounds-terms-id : goal.bounds-terms-id
unfolding ids
bounds-terms-id c = search rules

pub trade-requires : goal.trade-requires
unfolding ids field
trade-requires c = search rules

pub returns-clause-recast : goal.returns-clause-recast
unfolding ids field
returns-clause-recast c = rw c.trade.ensures at c.recast.ensures
