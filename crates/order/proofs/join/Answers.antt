-- A node is at most the sentinel, so both indices are in the table, and the two stores are those of `joined`.
use Rattle.std.proofs.Common.{arith, refl}
use Rattle.definitions.specs.Sizes.{ids, places}
use Rattle.order.specs.Order.{sentinel, joined}
use Rattle.order.proofs.join.Goals as goal

pub bounds-links-a : goal.bounds-links-a
unfolding sentinel ids places
bounds-links-a c = omega arith

pub bounds-links-b : goal.bounds-links-b
unfolding sentinel ids places
bounds-links-b c = omega arith

pub returns : goal.returns
unfolding joined sentinel ids places
returns c = refl
