-- No length is above the longest.
use Rattle.std.proofs.Common.{arith, sym, ◌∙◌}
use Rattle.definitions.specs.Sizes.{longest}
use Rattle.slot.proofs.padding.Goals as goal

pub overflow_sub-result : goal.overflow_sub-result
unfolding longest
overflow_sub-result c = omega arith

pub returns-then-has : goal.returns-then-has
unfolding longest
returns-then-has c = rw (sym c.has.ensures ∙ c.if-has.true)
