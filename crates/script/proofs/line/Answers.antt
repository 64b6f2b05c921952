-- `script::line` meets its contract: a line goes one of three ways. Assumes nothing.
use native.Mathlib.Omega.{arith}
use mathlib.Core.Path.{sym}
use Rattle.reader.proofs.LineEnds.{span_end}
use Rattle.script.proofs.LineWalked.{walked_open, walked_unread, walked_form}
use Rattle.script.proofs.line.Goals as goal

pub returns-then-end-text : goal.returns-then-end-text
returns-then-end-text c =
    walked_open _ _ _ _ _ _ _ c.requires.1 c.requires.2 _ c.line_at-span.ensures c.requires.0 c.if-end-text.true c.print_unread.ensures

pub slice_bounds-parse-count : goal.slice_bounds-parse-count
slice_bounds-parse-count c = let end = span_end _ _ _ c.line_at-span.ensures (omega arith) in omega arith

pub slice_bounds-parse-start : goal.slice_bounds-parse-start
slice_bounds-parse-start c = let end = span_end _ _ _ c.line_at-span.ensures (omega arith) in omega arith

pub slice_bounds-parse-end : goal.slice_bounds-parse-end
slice_bounds-parse-end c = let end = span_end _ _ _ c.line_at-span.ensures (omega arith) in omega arith

pub returns-in-Err : goal.returns-in-Err
returns-in-Err c =
    let within = (span_end _ _ _ c.line_at-span.ensures (omega arith)).within in
    let more = c.if-end-text.false in
    walked_unread _ _ _ _ _ _ _ c.requires.1 c.requires.2 _ c.line_at-span.ensures (omega (arith, within)) _ c.requires.0
    (sym c.in-Err.ensures) c.print_unread-in-Err.ensures

pub returns : goal.returns
returns c =
    let within = (span_end _ _ _ c.line_at-span.ensures (omega arith)).within in
    let more = c.if-end-text.false in
    walked_form _ _ _ _ _ _ _ c.requires.1 c.requires.2 _ c.line_at-span.ensures (omega (arith, within)) _
    (sym c.in-Ok.ensures) c.requires.0 _ _ c.perform_told-performed.ensures _ c.is_tick-ticked.ensures (c.show.ensures _)
