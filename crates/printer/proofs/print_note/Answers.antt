-- `printer::print_note` meets its contract: without room nothing is written, and with it an arm of the code writes the sentence of its
-- note. Assumes nothing.
use native.Mathlib.Omega.{arith}
use mathlib.Core.Path.{ap}
use mathlib.Core.Bool.{not}
use Rattle.grammar.specs.Sentences.{sentence}
use Rattle.printer.proofs.Appending.{appended_as}
use Rattle.printer.proofs.LineRoom.{roomy, unwritten, wrote}
use Rattle.printer.proofs.print_note.Goals as goal

pub returns-then-not-has_room : goal.returns-then-not-has_room
returns-then-not-has_room c =
    unwritten c.args.out.now c.args.at c.has_room.ensures _ (ap not c.if-not-has_room.true)

pub put_told-requires : goal.put_told-requires
put_told-requires c = roomy c.args.out.now c.args.at c.has_room.ensures (ap not c.if-not-has_room.false)

pub put-requires : goal.put-requires
put-requires c = omega (arith, roomy c.args.out.now c.args.at c.has_room.ensures (ap not c.if-not-has_room.false))

pub put-requires-in-ToAnother : goal.put-requires-in-ToAnother
put-requires-in-ToAnother c =
    omega (arith, roomy c.args.out.now c.args.at c.has_room.ensures (ap not c.if-not-has_room.false))

pub returns-in-Refusal : goal.returns-in-Refusal
unfolding sentence
returns-in-Refusal c = rw c.in-Refusal.is c.print_refused.ensures

pub returns-in-Told : goal.returns-in-Told
returns-in-Told c =
    wrote c.args.out.now c.args.at c.has_room.ensures (ap not c.if-not-has_room.false)
    (appended_as (ap sentence c.in-Told.is) c.put_told.ensures)

pub returns-in-ToIndifferent : goal.returns-in-ToIndifferent
unfolding sentence
returns-in-ToIndifferent c =
    wrote c.args.out.now c.args.at c.has_room.ensures (ap not c.if-not-has_room.false)
    (appended_as (ap sentence c.in-ToIndifferent.is) c.put.ensures)

pub returns-in-ToAnother : goal.returns-in-ToAnother
unfolding sentence
returns-in-ToAnother c =
    wrote c.args.out.now c.args.at c.has_room.ensures (ap not c.if-not-has_room.false)
    (appended_as (ap sentence c.in-ToAnother.is) c.put-in-ToAnother.ensures)
