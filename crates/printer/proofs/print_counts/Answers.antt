-- `printer::print_counts` meets its contract: without room nothing is written, and with it the template of the counts, filled.
-- Assumes nothing.
use native.Mathlib.Omega.{arith}
use Prim.Native.Nat.{◌+◌}
use native.Mathlib.Nat.{le_refl}
use mathlib.Core.Path.{ap}
use mathlib.Core.Bool.{not}
use Rattle.grammar.specs.CountLines.{count_line}
use Rattle.printer.specs.Printed.{line_room}
use Rattle.printer.proofs.FilledLength.{filled_room, NarrowCounts, counts_digits, counts_room}
use Rattle.printer.proofs.LineRoom.{roomy, unwritten, wrote}
use Rattle.printer.proofs.print_counts.Goals as goal

pub returns-then-not-has_room : goal.returns-then-not-has_room
returns-then-not-has_room c =
    (unwritten c.args.out.now c.args.at c.has_room.ensures _ (ap not c.if-not-has_room.true), omega arith)

pub put_filled-requires : goal.put_filled-requires
put_filled-requires c =
    let narrow : NarrowCounts c.args.id c.args.counts = omega arith in
    rw c.from.ensures
    (filled_room _ _ (omega (arith, counts_digits _ _ narrow)) _
    (roomy c.args.out.now c.args.at c.has_room.ensures (ap not c.if-not-has_room.false)))

pub returns : goal.returns
unfolding count_line
returns c =
    let narrow : NarrowCounts c.args.id c.args.counts = omega arith in
    let written = rw c.from.ensures at c.put_filled.ensures in (
      wrote c.args.out.now c.args.at c.has_room.ensures (ap not c.if-not-has_room.false) written,
      omega (arith, written.place, counts_room _ _ narrow c.args.at (le_refl (c.args.at + line_room))),
    )
