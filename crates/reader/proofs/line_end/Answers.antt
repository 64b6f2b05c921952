-- `reader::line_end` meets its contract: from each byte that was passed the line goes on to the same end. Assumes nothing.
use Rattle.std.proofs.Common.{◌∙◌, sym, length, arith, inl, inr}
use Rattle.std.proofs.lemmas.Bool.{cases_lt}
use Rattle.reader.proofs.LineEnds.{end_last, end_feed, end_other}
use Rattle.reader.proofs.line_end.Goals as goal

pub returns-then-text-end-eq-LINE_FEED : goal.returns-then-text-end-eq-LINE_FEED
returns-then-text-end-eq-LINE_FEED c =
    end_feed c.args.text.now c.loop-end.end c.loop-end-test.true c.if-text-end-eq-LINE_FEED.true ∙ c.loop-end.invariant

pub loop-end-preserved : goal.loop-end-preserved
loop-end-preserved c =
    sym (end_other c.args.text.now c.loop-end.end c.loop-end-test.true c.if-text-end-eq-LINE_FEED.false)
    ∙ c.loop-end.invariant

pub returns : goal.returns
returns c =
    let text = c.args.text.now in
    elim (cases_lt c.args.at (length text)) [
      | inl less ↦
          omega (arith, end_last text c.loop-end.end c.loop-end-test.false, c.loop-end.invariant, c.max.ensures, c.loop-end.auto.end-end)
      | inr past ↦ omega (arith, end_last text c.args.at past, c.max.ensures)
    ]
