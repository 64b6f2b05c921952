-- `printer::print_rate` meets its contract: the line of a rate is its text and two numbers. Assumes nothing.
use borrow.Author.Rules.{rules}
use Rattle.grammar.specs.Templates.{filled}
use Rattle.grammar.specs.FairSheet.{rate_line}
use Rattle.printer.proofs.print_rate.Goals as goal

pub returns : goal.returns
unfolding rate_line filled
returns c = search rules
