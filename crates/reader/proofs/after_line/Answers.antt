-- `reader::after_line` meets its contract: the test says whether a line feed is passed. Assumes nothing.
use Rattle.reader.proofs.LineEnds.{after_line_feed, after_line_last}
use Rattle.reader.proofs.after_line.Goals as goal

pub returns-then-end-text : goal.returns-then-end-text
returns-then-end-text c = after_line_feed _ _ c.if-end-text.true

pub returns-else-end-text : goal.returns-else-end-text
returns-else-end-text c = after_line_last _ _ c.if-end-text.false
