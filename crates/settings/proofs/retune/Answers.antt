-- `settings::retune` meets its contract: the three numbers are written, and the rates held together follow. Assumes nothing.
use Rattle.std.proofs.Common.{rules}
use mathlib.Core.Path.{◌∙◌}
use Rattle.definitions.specs.Sizes.{ids, shares, burst_limit}
use Rattle.tables.specs.Tables.{field}
use Rattle.settings.proofs.retune.Goals as goal

pub bounds-terms-id : goal.bounds-terms-id
unfolding ids
bounds-terms-id c = search rules

pub overflow_add-id : goal.overflow_add-id
unfolding ids
overflow_add-id c = search rules

pub bounds-terms-id-2 : goal.bounds-terms-id-2
unfolding ids
bounds-terms-id-2 c = search rules

pub overflow_mul-burst : goal.overflow_mul-burst
unfolding burst_limit
overflow_mul-burst c = search rules

pub trade-requires : goal.trade-requires
unfolding ids field
trade-requires c = search rules

pub returns-clause-value : goal.returns-clause-value
unfolding ids field
returns-clause-value c = c.trade.ensures

pub returns-clause-terms_after : goal.returns-clause-terms_after
unfolding ids shares field
returns-clause-terms_after c = c.set_terms.ensures ∙ rw c.min-level.ensures
