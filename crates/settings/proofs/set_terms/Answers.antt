-- `settings::set_terms` meets its contract: three stores within the table. Assumes nothing.
use Rattle.std.proofs.Common.{rules}
use Rattle.definitions.specs.Sizes.{ids}
use Rattle.settings.proofs.set_terms.Goals as goal

pub bounds-terms-id : goal.bounds-terms-id
unfolding ids
bounds-terms-id c = search rules

pub overflow_add-terms-2 : goal.overflow_add-terms-2
unfolding ids
overflow_add-terms-2 c = search rules

pub bounds-terms-id-2 : goal.bounds-terms-id-2
unfolding ids
bounds-terms-id-2 c = search rules

pub overflow_add-terms-3 : goal.overflow_add-terms-3
unfolding ids
overflow_add-terms-3 c = search rules

pub bounds-terms-id-3 : goal.bounds-terms-id-3
unfolding ids
bounds-terms-id-3 c = search rules

pub returns : goal.returns
unfolding ids
returns c = search rules
