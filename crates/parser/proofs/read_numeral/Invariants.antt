-- The digits that are left, behind the number so far, spell what all of them spell, and nothing but digits was passed. The measure is
-- what is left of the line.
use Rattle.std.proofs.Common.{length}
use Rattle.parser.proofs.NumeralWalk.{Passed}
use Rattle.parser.proofs.read_numeral.Given as goal

abbrev pub invariant-loop-digit : goal.invariant-loop-digit
invariant-loop-digit l = Passed l.line l.first l.behind l.rest l.amount

abbrev pub decreases-loop-digit : goal.decreases-loop-digit
decreases-loop-digit l = length l.rest
