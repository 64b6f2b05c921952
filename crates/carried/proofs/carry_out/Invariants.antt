-- `carried::carry_out`: between two pieces core and counts are those behind the text so far. The measure is what is left of the text, of which
-- each piece takes a byte at least.
use Rattle.std.proofs.Common.{◌≡◌, ℕ, ◌-◌, ◌≤◌, List, length}
use Rattle.grammar.specs.declared.Audience.TheVariants.{Caller}
use Rattle.grammar.specs.Bytes.{text_limit}
use Rattle.printer.specs.Printed.{line_room}
use Rattle.script.proofs.PiecesReached.{Reached}
use Rattle.carried.proofs.carry_out.Given as goal

abbrev pub invariant-loop-at : goal.invariant-loop-at
invariant-loop-at l =
    (length l.out ≡ length l.initial.out) × (line_room ≤ length l.out) × (length l.text ≤ text_limit)
    × (bytes : List ℕ) × Reached Caller l.text bytes l.control l.tables l.at

abbrev pub decreases-loop-at : goal.decreases-loop-at
decreases-loop-at l = length l.text - l.at
