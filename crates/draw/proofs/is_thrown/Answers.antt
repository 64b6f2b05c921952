-- No value is thrown away after the last throw.
use Rattle.std.proofs.Common.{ap, not}
use borrow.Author.Tests.{le-leb, lt-leb}
use Rattle.definitions.specs.Sizes.{throws}
use Rattle.draw.proofs.is_thrown.Goals as goal

pub returns-then-steps-le-THROWS : goal.returns-then-steps-le-THROWS
unfolding throws
returns-then-steps-le-THROWS c = rw (le-leb c.args.steps throws c.if-steps-le-THROWS.true) (ap not c.counts.ensures)

pub returns-else-steps-le-THROWS : goal.returns-else-steps-le-THROWS
unfolding throws
returns-else-steps-le-THROWS c = rw (lt-leb c.args.steps throws c.if-steps-le-THROWS.false)
