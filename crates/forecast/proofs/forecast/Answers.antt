-- `forecast::forecast` meets its contract: without room for a line nothing is done, of a text that is too long the line is written, and
-- else it is the line of the core behind the text. Assumes nothing.
use Rattle.std.proofs.Common.{rules, ◌≤◌, length, ap, not}
use Rattle.grammar.specs.Bytes.{text_limit}
use Rattle.printer.proofs.LineRoom.{roomy}
use Rattle.forecast.proofs.TellingLine.{told-bare, told-long, told_line}
use Rattle.forecast.proofs.forecast.Goals as goal

pub returns-then-not-has_room : goal.returns-then-not-has_room
returns-then-not-has_room c = told-bare _ _ _ _ c.has_room.ensures (ap not c.if-not-has_room.true)

pub returns-then-text-gt-TEXT_LIMIT : goal.returns-then-text-gt-TEXT_LIMIT
unfolding text_limit
returns-then-text-gt-TEXT_LIMIT c =
    told-long _ _ _ _ (roomy c.args.out.now 0 c.has_room.ensures (ap not c.if-not-has_room.false)) (search rules) c.carry_out-carried.ensures
    c.if-text-gt-TEXT_LIMIT.true

pub returns : goal.returns
unfolding text_limit
returns c =
    told_line _ _ _ _ (roomy c.args.out.now 0 c.has_room.ensures (ap not c.if-not-has_room.false)) (search rules) c.if-text-gt-TEXT_LIMIT.false
    c.carry_out-carried.ensures (c.print_line.ensures _ _ _ _ c.carry_out-carried.ensures.valid)
