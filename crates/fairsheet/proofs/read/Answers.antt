-- `fairsheet::read` meets its contract: the first line is judged, and the demands are read behind it. Assumes nothing.
use mathlib.Core.Path.{sym}
use native.Mathlib.Omega.{arith}
use lib.Seq.{length-take-le}
use Rattle.std.proofs.lemmas.Result.{err_from_is_err_and}
use Rattle.reader.proofs.LinesAhead.{span_within}
use Rattle.fairsheet.proofs.PairsFound.{line_holds, line_large}
use Rattle.fairsheet.proofs.SheetsRead.{sheet_unformed, sheet_demands, sheet_large, sheet_whole}
use Rattle.fairsheet.proofs.read.Goals as goal

pub slice_bounds-threshold-end : goal.slice_bounds-threshold-end
slice_bounds-threshold-end c = sym (length-take-le _ _ (span_within _ _ _ c.line_at-next.ensures (omega arith)))

pub returns-in_err-count-in-Ok : goal.returns-in_err-count-in-Ok
returns-in_err-count-in-Ok c =
    let p = err_from_is_err_and c.from_residual.result c.from_residual.ensures.1 in
    rw (p.1, p.2)
    (sheet_demands _ _ c.line_at-next.ensures (line_holds _ _ _ c.in-Ok.ensures).found c.in_err-count-in-Ok.ensures)

pub returns-in_ok-count-in-Ok : goal.returns-in_ok-count-in-Ok
returns-in_ok-count-in-Ok c = sheet_whole _ _ c.line_at-next.ensures c.in-Ok.ensures c.in_ok-count-in-Ok.ensures

pub returns-in_err-read_demands-in-Err-TooLarge : goal.returns-in_err-read_demands-in-Err-TooLarge
returns-in_err-read_demands-in-Err-TooLarge c =
    let p = err_from_is_err_and c.from_residual-in_err-read_demands-in-Err-TooLarge.result c.from_residual-in_err-read_demands-in-Err-TooLarge.ensures.1 in
    rw (p.1, p.2)
    (sheet_demands _ _ c.line_at-next.ensures (line_large _ _ (rw c.in-Err-TooLarge.field-0-is at c.in-Err-TooLarge.ensures))
    c.in_err-read_demands-in-Err-TooLarge.ensures)

pub returns-in_ok-read_demands-in-Err-TooLarge : goal.returns-in_ok-read_demands-in-Err-TooLarge
returns-in_ok-read_demands-in-Err-TooLarge c =
    sheet_large _ _ c.line_at-next.ensures (rw c.in-Err-TooLarge.field-0-is at c.in-Err-TooLarge.ensures) c.in_ok-read_demands-in-Err-TooLarge.ensures

pub returns-in-Err-NoForm : goal.returns-in-Err-NoForm
returns-in-Err-NoForm c = sheet_unformed _ _ c.line_at-next.ensures (rw c.in-Err-NoForm.field-0-is at c.in-Err-NoForm.ensures)
