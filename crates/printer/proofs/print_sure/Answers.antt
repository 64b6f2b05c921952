-- `printer::print_sure` meets its contract: the line of a figure is its text and two numbers. Assumes nothing.
use borrow.Author.Rules.{rules}
use Rattle.grammar.specs.Templates.{filled}
use Rattle.grammar.specs.Forecast.{sure_line}
use Rattle.printer.proofs.print_sure.Goals as goal

pub returns : goal.returns
unfolding sure_line filled
returns c = search rules
