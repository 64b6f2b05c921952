-- `printer::put_drawn` meets its contract: the template of a draw, filled, which has room. Assumes nothing.
use native.Mathlib.Omega.{arith}
use Rattle.grammar.specs.Sentences.{drawn_text}
use Rattle.printer.proofs.FilledLength.{drawn_room}
use Rattle.printer.proofs.put_drawn.Goals as goal

pub put_filled-requires : goal.put_filled-requires
unfolding drawn_text
put_filled-requires c = rw c.from.ensures (drawn_room c.args.target c.args.sum (omega arith) (omega arith) _ c.requires)

pub returns : goal.returns
unfolding drawn_text
returns c = rw c.from.ensures at c.put_filled.ensures
