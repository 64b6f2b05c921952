-- The one bit that is or-ed in is the mark of the id, and an id from 64 on has none.
use Rattle.std.proofs.Common.{rules}
use Rattle.definitions.specs.Sizes.{ids}
use Rattle.marks.proofs.Bits.{marked-put, marked-put_past}
use Rattle.marks.proofs.mark.Goals as goal

pub returns-then-id-lt-IDS : goal.returns-then-id-lt-IDS
unfolding ids
returns-then-id-lt-IDS c = marked-put 64 c.args.word c.args.id (search rules)

pub returns-else-id-lt-IDS : goal.returns-else-id-lt-IDS
unfolding ids
returns-else-id-lt-IDS c = marked-put_past 64 c.args.word c.args.id (search rules)
