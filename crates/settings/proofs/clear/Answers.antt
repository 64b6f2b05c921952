-- `settings::clear` meets its contract: two stores within the table, and a mark is taken. Assumes nothing.
use Rattle.std.proofs.Common.{rules}
use Rattle.definitions.specs.Sizes.{ids}
use Rattle.settings.proofs.clear.Goals as goal

pub overflow_add-stocks : goal.overflow_add-stocks
unfolding ids
overflow_add-stocks c = search rules

pub bounds-stocks-id : goal.bounds-stocks-id
unfolding ids
bounds-stocks-id c = search rules

pub overflow_add-stocks-2 : goal.overflow_add-stocks-2
unfolding ids
overflow_add-stocks-2 c = search rules

pub bounds-stocks-id-2 : goal.bounds-stocks-id-2
unfolding ids
bounds-stocks-id-2 c = search rules

pub returns-clause-stocks_after : goal.returns-clause-stocks_after
unfolding ids
returns-clause-stocks_after c = search rules
