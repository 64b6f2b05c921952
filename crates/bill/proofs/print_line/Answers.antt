-- `bill::print_line` meets its contract: the counts of an active id are its line, and another has none. Assumes nothing.
use native.Mathlib.Omega.{arith}
use Rattle.grammar.specs.CountLines.{sheet_line}
use Rattle.tables.specs.Meaning.{whole_of}
use Rattle.printer.proofs.LineRoom.{line_as}
use Rattle.script.proofs.LineShown.{nothing_written}
use Rattle.bill.proofs.Billing.{sheet_line_lem}
use Rattle.bill.proofs.print_line.Goals as goal

pub returns-in-Ok : goal.returns-in-Ok
unfolding sheet_line
returns-in-Ok c = (
  λ t e. line_as (sheet_line_lem (whole_of c.args.control t) c.args.id (c.in-Ok.ensures t e)) c.print_counts.ensures.0,
  c.print_counts.ensures.1,
)

pub returns-in-Err : goal.returns-in-Err
unfolding sheet_line
returns-in-Err c = (
  λ t e. line_as (sheet_line_lem (whole_of c.args.control t) c.args.id (c.in-Err.ensures t e)) (nothing_written _ _),
  omega arith,
)
