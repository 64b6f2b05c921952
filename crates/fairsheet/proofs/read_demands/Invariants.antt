-- The rows so far stand before those of the lines ahead. The measure is what is left of the text.
use Rattle.std.proofs.Common.{◌-◌, length}
use Rattle.fairsheet.proofs.RowsRead.{RowsRead}
use Rattle.fairsheet.proofs.read_demands.Given as goal

abbrev pub invariant-loop-at : goal.invariant-loop-at
invariant-loop-at l = RowsRead l.text l.from l.listed l.demands l.large l.count l.at

abbrev pub decreases-loop-at : goal.decreases-loop-at
decreases-loop-at l = length l.text - l.at
