-- Both numbers are read before they are written.
use Rattle.std.proofs.Common.{arith, refl}
use Rattle.definitions.specs.Sizes.{ids, places}
use Rattle.tables.specs.Tables.{field}
use Rattle.slot.specs.Sends.{popped}
use Rattle.slot.proofs.pop.Goals as goal

pub overflow_add-count : goal.overflow_add-count
unfolding ids
overflow_add-count c = omega arith

pub bounds-stocks-head : goal.bounds-stocks-head
unfolding ids
bounds-stocks-head c = omega arith

pub bounds-stocks-count : goal.bounds-stocks-count
unfolding ids
bounds-stocks-count c = omega arith

pub overflow_add-stocks : goal.overflow_add-stocks
unfolding ids places field
overflow_add-stocks c = omega arith

pub bounds-stocks-head-2 : goal.bounds-stocks-head-2
unfolding ids
bounds-stocks-head-2 c = omega arith

pub overflow_sub-stocks : goal.overflow_sub-stocks
unfolding ids field
overflow_sub-stocks c = omega arith

pub bounds-stocks-count-2 : goal.bounds-stocks-count-2
unfolding ids
bounds-stocks-count-2 c = omega arith

pub returns : goal.returns
unfolding ids places field popped
returns c = refl
