-- As many zeros as stand below the first mark are the id of that mark.
use Rattle.definitions.specs.Sizes.{ids}
use Rattle.marks.proofs.FirstMark.{trailing_first}
use Rattle.marks.proofs.first.Goals as goal

pub returns : goal.returns
unfolding ids
returns c = trailing_first 64 c.args.word
