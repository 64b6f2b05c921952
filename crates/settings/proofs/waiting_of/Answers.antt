-- `settings::waiting_of` meets its contract: the entry is within the table. Assumes nothing.
use Rattle.std.proofs.Common.{rules}
use Rattle.definitions.specs.Sizes.{ids}
use Rattle.tables.specs.Tables.{field}
use Rattle.settings.proofs.waiting_of.Goals as goal

pub overflow_add-id : goal.overflow_add-id
unfolding ids
overflow_add-id c = search rules

pub bounds-stocks-id : goal.bounds-stocks-id
unfolding ids
bounds-stocks-id c = search rules

pub returns : goal.returns
unfolding ids field
returns c = c.wide.ensures.0
