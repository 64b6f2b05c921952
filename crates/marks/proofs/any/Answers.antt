-- A word has a one where it has a mark, and the sum of its ones is above 0 where one of them is there.
use Rattle.std.proofs.Common.{rules}
use Rattle.definitions.specs.Sizes.{ids}
use Rattle.marks.proofs.FirstMark.{ones_any}
use Rattle.marks.proofs.any.Goals as goal

pub returns : goal.returns
unfolding ids
returns c = ones_any 64 c.args.word (search rules)
