-- A word and one less than it have in common all marks but the word's first, and both are at most one less than it.
use Rattle.std.proofs.Common.{◌-◌, rules, arith}
use lib.Bits.{and_le_r}
use Rattle.definitions.specs.Sizes.{ids}
use Rattle.marks.proofs.Bits.{marked-none}
use Rattle.marks.proofs.FirstMark.{marked_rest}
use Rattle.marks.proofs.rest.Goals as goal

pub returns-then-word-eq0 : goal.returns-then-word-eq0
returns-then-word-eq0 c = record { marks = λ j. rw (c.if-word-eq0.true, marked-none); falls = search rules }

pub returns-else-word-eq0 : goal.returns-else-word-eq0
unfolding ids
returns-else-word-eq0 c =
    let w = c.args.word in
    record { marks = marked_rest 64 w (search rules) (search rules); falls = λ p. omega (arith, and_le_r w (w - 1)) }
