-- `printer::put_reason` meets its contract: where there was a draw its words are written. Assumes nothing.
use Rattle.grammar.specs.Sentences.{reason_text}
use Rattle.printer.proofs.put_reason.Goals as goal

pub returns-in-Some : goal.returns-in-Some
unfolding reason_text
returns-in-Some c = rw c.in-Some.is c.put_drawn.ensures
