-- A number is read as the kind whose type it is. Assumes nothing.
use native.Mathlib.Omega.{arith}
use mathlib.Core.Path.{refl}
use borrow.Author.Tests.{ne_eqb}
use Rattle.definitions.specs.Sizes.{indifferent_kind, private_kind}
use Rattle.definitions.specs.Client.{kind_of}
use Rattle.definitions.proofs.ClientKindTryFromU32.try_from.Goals as goal

pub returns-in-1 : goal.returns-in-1
unfolding indifferent_kind
returns-in-1 c = c.in-1.is

pub returns-in-2 : goal.returns-in-2
unfolding private_kind
returns-in-2 c = c.in-2.is

pub returns-in_default : goal.returns-in_default
unfolding kind_of indifferent_kind private_kind
returns-in_default c = (
  refl,
  rw (ne_eqb c.args.number 1 (omega (arith, c.in_default)), ne_eqb c.args.number 2 (omega (arith, c.in_default))),
)
