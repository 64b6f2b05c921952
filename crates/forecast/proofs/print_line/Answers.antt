-- `forecast::print_line` meets its contract: the printer writes the line of the core, by whether it is opened. Assumes nothing.
use Rattle.std.proofs.Common.{sym}
use borrow.Author.Tests.{not-true, not-false}
use Rattle.tables.specs.Tables.{tables}
use Rattle.printer.proofs.LineRoom.{line_as}
use Rattle.forecast.proofs.TellingLine.{line_unopened, line_opened}
use Rattle.forecast.proofs.print_line.Goals as goal

pub returns-then-not-control : goal.returns-then-not-control
returns-then-not-control c handles lengths links counts valid =
    let a = c.args in
    line_as
    (line_unopened a.control (tables a.terms.now a.stocks.now handles lengths links counts) a.ticks (not-true a.control.opened c.if-not-control.true))
    (rw (sym c.number.ensures) c.print_refused.ensures)

pub returns : goal.returns
returns c handles lengths links counts valid =
    let a = c.args in
    line_as
    (line_opened a.control (tables a.terms.now a.stocks.now handles lengths links counts) a.ticks
    (not-false a.control.opened c.if-not-control.false) (c.sure-picks.ensures handles lengths links counts valid))
    c.print_sure.ensures
