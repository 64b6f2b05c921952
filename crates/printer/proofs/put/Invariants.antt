-- `printer::put`: the bytes from `i` on are what is left to write.
use Rattle.std.proofs.Common.{◌+◌, drop}
use Rattle.printer.proofs.Appending.{Left}
use Rattle.printer.proofs.put.Given as goal

abbrev pub invariant-loop-i : goal.invariant-loop-i
invariant-loop-i l = Left l.text l.initial.out l.at (drop l.i l.text) l.out (l.at + l.i)
