-- `fairsheet::print` meets its contract: without room nothing is done, a text that is too long or is refused has one line, and
-- else it is what its threshold and its demands print. Assumes nothing.
use native.Mathlib.Omega.{arith}
use borrow.Author.Rules.{rules}
use Prim.Native.Nat.{◌≤◌}
use lib.ListN.{length}
use mathlib.Core.Path.{sym}
use Rattle.definitions.specs.Sizes.{ids}
use Rattle.grammar.specs.Bytes.{text_limit}
use Rattle.printer.proofs.Appending.{appended_as}
use Rattle.fairsheet.specs.Written.{sheet_room}
use Rattle.fairsheet.proofs.SheetTold.{read_refused, read_rows, rows_many, rows_few, line_written}
use Rattle.fairsheet.proofs.SheetTold.{sheet-bare, told-long, told_read}
use Rattle.fairsheet.proofs.print.Goals as goal

pub returns-then-out-lt-SHEET_ROOM : goal.returns-then-out-lt-SHEET_ROOM
unfolding ids
returns-then-out-lt-SHEET_ROOM c = sheet-bare _ _ (omega arith)

pub returns-then-text-gt-TEXT_LIMIT : goal.returns-then-text-gt-TEXT_LIMIT
unfolding text_limit ids
returns-then-text-gt-TEXT_LIMIT c =
    let space : sheet_room ≤ length c.args.out.now = omega (arith, c.if-out-lt-SHEET_ROOM.false) in
    told-long _ _ space (omega (arith, c.if-text-gt-TEXT_LIMIT.true)) (line_written space c.print_refused.ensures)

pub returns-in-Err : goal.returns-in-Err
unfolding text_limit ids
returns-in-Err c =
    let space : sheet_room ≤ length c.args.out.now = omega (arith, c.if-out-lt-SHEET_ROOM.false) in
    told_read _ _ space (omega (arith, c.if-text-gt-TEXT_LIMIT.false))
    (appended_as (sym (read_refused _ c.in-Err.ensures)) (line_written space (rw c.number.ensures at c.print_refused-in-Err.ensures)))

pub returns-then-count-gt-ROWS : goal.returns-then-count-gt-ROWS
unfolding text_limit ids
returns-then-count-gt-ROWS c =
    let space : sheet_room ≤ length c.args.out.now = omega (arith, c.if-out-lt-SHEET_ROOM.false) in
    told_read _ _ space (omega (arith, c.if-text-gt-TEXT_LIMIT.false))
    (appended_as (sym (rows_many (read_rows _ c.in-Ok.ensures) (omega (arith, c.if-count-gt-ROWS.true))))
    (line_written space (rw c.number-then-count-gt-ROWS.ensures at c.print_refused-then-count-gt-ROWS.ensures)))

pub print_rates-requires : goal.print_rates-requires
unfolding ids
print_rates-requires c = omega (arith, c.if-out-lt-SHEET_ROOM.false)

pub returns : goal.returns
unfolding text_limit ids
returns c =
    let space : sheet_room ≤ length c.args.out.now = omega (arith, c.if-out-lt-SHEET_ROOM.false) in
    told_read _ _ space (omega (arith, c.if-text-gt-TEXT_LIMIT.false))
    (appended_as (sym (rows_few (read_rows _ c.in-Ok.ensures) (search rules) (search rules))) c.print_rates.ensures)
