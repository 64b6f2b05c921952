-- The complement of the id's one bit has every mark but the id's, and an id from 64 on has none to take out.
use Rattle.std.proofs.Common.{rules}
use Rattle.marks.proofs.Bits.{marked-taken, marked-taken_past}
use Rattle.marks.proofs.unmark.Goals as goal

pub returns-then-id-lt-IDS : goal.returns-then-id-lt-IDS
returns-then-id-lt-IDS c = marked-taken 64 c.args.word c.args.id (search rules) (search rules)

pub returns-else-id-lt-IDS : goal.returns-else-id-lt-IDS
returns-else-id-lt-IDS c = marked-taken_past 64 c.args.word c.args.id (search rules) (search rules)
