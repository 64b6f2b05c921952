-- `fairsheet::read_demands` meets its contract: each line is a row more, one whose size refuses it, or one of another shape.
-- Assumes nothing.
use native.Mathlib.Omega.{arith}
use Rattle.reader.proofs.LinesAhead.{span_passed}
use Rattle.fairsheet.proofs.PairsFound.{line_holds, line_large, line_unformed}
use Rattle.fairsheet.proofs.RowsRead.{rows_none, rows_large, rows_done, rows_unformed, row_large, row_kept}
use Rattle.fairsheet.proofs.read_demands.Goals as goal
use Rattle.fairsheet.proofs.read_demands.Goals.{in-Ok, in-Err-TooLarge}

pub loop-at-init : goal.loop-at-init
loop-at-init c = rows_none _ _ _ _

pub slice_bounds-demand-count : goal.slice_bounds-demand-count
slice_bounds-demand-count c = omega (arith, (span_passed _ _ _ c.line_at-next.ensures c.loop-at-test.true).forth)

pub slice_bounds-demand-start : goal.slice_bounds-demand-start
slice_bounds-demand-start c = omega (arith, (span_passed _ _ _ c.line_at-next.ensures c.loop-at-test.true).forth)

pub slice_bounds-demand-end : goal.slice_bounds-demand-end
slice_bounds-demand-end c = omega (arith, (span_passed _ _ _ c.line_at-next.ensures c.loop-at-test.true).within)

pub returns-in-Err-NoForm : goal.returns-in-Err-NoForm
returns-in-Err-NoForm c =
    rows_unformed c.loop-at.invariant (span_passed _ _ _ c.line_at-next.ensures c.loop-at-test.true)
    (line_unformed _ _ (rw c.in-Err-NoForm.field-0-is at c.in-Err-NoForm.ensures))

pub loop-at-smaller : goal.loop-at-smaller
loop-at-smaller c =
    let passed = span_passed _ _ _ c.line_at-next.ensures c.loop-at-test.true in omega (arith, passed.forth, passed.within)

pub loop-at-preserved : goal.loop-at-preserved
loop-at-preserved c =
    let passed = span_passed _ _ _ c.line_at-next.ensures c.loop-at-test.true in
    elim c.match-demand.branch [
      | in-Ok w ↦
          rw (w.listed-is, w.demands-is, w.large-is)
          (row_kept c.loop-at.invariant passed (line_holds _ _ _ w.in-Ok.ensures) w.keep.ensures w.keep-in-Ok.ensures)
      | in-Err-TooLarge w ↦
          rw (w.listed-is, w.demands-is, w.large-is)
          (row_large c.loop-at.invariant passed (line_large _ _ (rw w.in-Err-TooLarge.field-0-is at w.in-Err-TooLarge.ensures)))
    ]

pub returns-then-large : goal.returns-then-large
returns-then-large c = rows_large c.loop-at.invariant c.loop-at-test.false c.if-large.true

pub returns : goal.returns
returns c = rows_done c.loop-at.invariant c.loop-at-test.false c.if-large.false
