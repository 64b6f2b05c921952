-- `printer::put_told` meets its contract: the reason goes on where the outcome ended, and both have room in a line. Assumes nothing.
use native.Mathlib.Omega.{arith}
use Rattle.grammar.specs.Sentences.{sentence}
use Rattle.printer.proofs.Appending.{appended_length, appended_more}
use Rattle.printer.proofs.put_told.Goals as goal

pub put_outcome-end-requires : goal.put_outcome-end-requires
put_outcome-end-requires c = omega (arith, c.requires)

pub put_reason-requires : goal.put_reason-requires
put_reason-requires c =
    omega (arith, c.put_outcome-end.ensures.1, appended_length c.put_outcome-end.ensures.0, c.requires)

pub returns : goal.returns
unfolding sentence
returns c = appended_more c.put_outcome-end.ensures.0 c.put_reason.ensures
