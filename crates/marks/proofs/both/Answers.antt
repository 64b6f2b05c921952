-- `&` goes digit by digit.
use Rattle.marks.proofs.Bits.{marked-and}
use Rattle.marks.proofs.both.Goals as goal

pub returns : goal.returns
returns c = marked-and c.args.a c.args.b
