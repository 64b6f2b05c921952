-- `script::start` meets its contract: a text is read from its first byte, or answered at once. Assumes nothing.
use native.Mathlib.Omega.{arith}
use Rattle.grammar.specs.Bytes.{text_limit}
use Rattle.script.proofs.PiecesPrinted.{start_read, start_long}
use Rattle.script.proofs.start.Goals as goal

pub returns-then-text-gt-TEXT_LIMIT : goal.returns-then-text-gt-TEXT_LIMIT
unfolding text_limit
returns-then-text-gt-TEXT_LIMIT c =
    start_long _ _ c.unopened-control.ensures _ _ _ (omega arith) c.print_refused-written.ensures c.print_refused-written.auto.out

pub returns : goal.returns
unfolding text_limit
returns c = start_read _ _ c.unopened-control.ensures _ (omega arith)
