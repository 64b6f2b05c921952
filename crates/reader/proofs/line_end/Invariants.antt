-- `reader::line_end`: from each byte that was passed the line goes on to the same end.
use Rattle.std.proofs.Common.{◌≡◌}
use Rattle.reader.specs.LineSpans.{line_end}
use Rattle.reader.proofs.line_end.Given as goal

abbrev pub invariant-loop-end : goal.invariant-loop-end
invariant-loop-end l = line_end l.text l.end ≡ line_end l.text l.at
