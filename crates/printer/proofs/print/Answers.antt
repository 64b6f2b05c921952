-- `printer::print` meets its contract: it writes nothing where a line may not fit, and else the line of the answer's case.
-- Assumes nothing.
use native.Mathlib.Omega.{arith}
use mathlib.Core.Path.{ap}
use mathlib.Core.Bool.{not}
use Rattle.grammar.specs.Printout.{printed}
use Rattle.printer.proofs.Appending.{appended_as}
use Rattle.printer.proofs.LineRoom.{roomy, unwritten, wrote}
use Rattle.printer.proofs.print.Goals as goal

pub returns-then-not-has_room : goal.returns-then-not-has_room
returns-then-not-has_room c = unwritten c.args.out.now c.args.at c.has_room.ensures _ (ap not c.if-not-has_room.true)

pub put-requires : goal.put-requires
put-requires c = omega (arith, roomy c.args.out.now c.args.at c.has_room.ensures (ap not c.if-not-has_room.false))

pub put_slot-requires : goal.put_slot-requires
put_slot-requires c = roomy c.args.out.now c.args.at c.has_room.ensures (ap not c.if-not-has_room.false)

pub returns-in-Accepted : goal.returns-in-Accepted
unfolding printed
returns-in-Accepted c =
    wrote c.args.out.now c.args.at c.has_room.ensures (ap not c.if-not-has_room.false)
    (appended_as (ap printed c.in-Accepted.is) c.put.ensures)

pub returns-in-Refused : goal.returns-in-Refused
returns-in-Refused c = rw c.in-Refused.is c.print_refused.ensures

pub returns-in-Slot : goal.returns-in-Slot
returns-in-Slot c =
    wrote c.args.out.now c.args.at c.has_room.ensures (ap not c.if-not-has_room.false)
    (appended_as (ap printed c.in-Slot.is) c.put_slot.ensures)
