-- The invariant is the walk of Filling.
use Rattle.printer.proofs.Filling.{Filling}
use Rattle.printer.proofs.put_filled.Given as goal

abbrev pub invariant-loop-byte : goal.invariant-loop-byte
invariant-loop-byte l = Filling l.template l.numbers l.initial.out l.at l.out l.end l.used l.byte-index
