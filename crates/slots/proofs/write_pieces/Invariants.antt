-- `slots::write_pieces`: between two pieces what was handed on is counted, and with what is ahead it is the printout. The measure is what is
-- left of the text.
use Rattle.std.proofs.Common.{◌≡◌, ◌-◌, length}
use Rattle.slots.proofs.PiecesCounted.{Counted}
use Rattle.slots.proofs.write_pieces.Given as goal

abbrev pub invariant-loop-out : goal.invariant-loop-out
invariant-loop-out g l =
    (length l.out ≡ length l.fn.out)
    × Counted l.audience l.text l.out l.control l.tables l.at l.written l.total

abbrev pub decreases-loop-out : goal.decreases-loop-out
decreases-loop-out g l = length l.text - l.at
