-- `parser::gap_of` meets its contract: each arm says which gap the byte is. Assumes nothing.
use mathlib.Core.Path.{refl}
use Rattle.definitions.specs.Sizes.{number_limit, handle_limit}
use Rattle.parser.proofs.gap_of.Goals as goal

pub returns-in-35 : goal.returns-in-35
unfolding number_limit
returns-in-35 c = rw c.in-35.is refl

pub returns-in-64 : goal.returns-in-64
unfolding handle_limit
returns-in-64 c = rw c.in-64.is refl
