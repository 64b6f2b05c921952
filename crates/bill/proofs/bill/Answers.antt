-- `bill::bill` meets its contract: without room for a line of every id nothing is done, of a text that is too long the line is written,
-- and else the lines of the core and the counts behind the text. Assumes nothing.
use Rattle.std.proofs.Common.{arith, rules, ◌≤◌, length, refl}
use Rattle.definitions.specs.Sizes.{ids}
use Rattle.grammar.specs.Bytes.{text_limit}
use Rattle.bill.specs.Billed.{bill_room}
use Rattle.bill.proofs.Billing.{billed_bare, billed_long, billed_lines}
use Rattle.bill.proofs.bill.Goals as goal

pub returns-then-out-lt-BILL_ROOM : goal.returns-then-out-lt-BILL_ROOM
unfolding bill_room ids
returns-then-out-lt-BILL_ROOM c = billed_bare _ _ _ c.if-out-lt-BILL_ROOM.true

pub returns-then-text-gt-TEXT_LIMIT : goal.returns-then-text-gt-TEXT_LIMIT
unfolding text_limit bill_room ids
returns-then-text-gt-TEXT_LIMIT c =
    billed_long _ _ _ (omega (arith, c.if-out-lt-BILL_ROOM.false)) (search rules) c.carry_out-carried.ensures c.if-text-gt-TEXT_LIMIT.true

pub print_lines-requires : goal.print_lines-requires
unfolding bill_room ids
print_lines-requires c = omega (arith, c.if-out-lt-BILL_ROOM.false, c.carry_out-carried.auto.out)

pub returns : goal.returns
unfolding text_limit bill_room ids
returns c =
    billed_lines _ _ _ (omega (arith, c.if-out-lt-BILL_ROOM.false)) (search rules) c.if-text-gt-TEXT_LIMIT.false c.carry_out-carried.ensures
    (c.print_lines.ensures _ refl)
