-- The definition of a step is written with what the logic says of `^`, `<<` and `>>`, so once it is unfolded both sides are the same number.
use Rattle.std.proofs.Common.{refl}
use Rattle.definitions.specs.Generator.{stepped, xor_left, xor_right}
use Rattle.generator.proofs.Generator.step.Goals as goal

pub returns : goal.returns
unfolding stepped xor_left xor_right
returns c = refl
