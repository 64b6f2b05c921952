-- `parser::number` meets its contract: at each return the tests that led there say what the word is. Assumes nothing.
use native.Mathlib.Omega.{arith}
use mathlib.Core.Path.{sym, ◌∙◌}
use Rattle.definitions.specs.Sizes.{number_limit}
use Rattle.parser.proofs.Digits.{some_left, none_left}
use Rattle.parser.proofs.Words.{word_unspelled, word-longer, word_over, word_fits, word_number}
use Rattle.parser.proofs.number.Goals as goal

pub returns-in_err-numeral : goal.returns-in_err-numeral
returns-in_err-numeral c = rw c.from_residual.ensures (word_unspelled _ c.in_err-numeral.ensures)

pub returns-then-not-is_empty : goal.returns-then-not-is_empty
unfolding number_limit
returns-then-not-is_empty c = word-longer c.in_ok-numeral.ensures (some_left _ (sym c.is_empty.ensures ∙ c.if-not-is_empty.true))

pub returns-in_err-value : goal.returns-in_err-value
unfolding number_limit
returns-in_err-value c = rw c.from_residual-in_err-value.ensures (word_over c.in_ok-numeral.ensures (none_left _ (sym c.is_empty.ensures ∙ c.if-not-is_empty.false)) c.in_err-value.was)

pub overflow_cast-result : goal.overflow_cast-result
unfolding number_limit
overflow_cast-result c = omega (arith, word_fits c.in_ok-numeral.ensures (none_left _ (sym c.is_empty.ensures ∙ c.if-not-is_empty.false)) c.in_ok-value.was)

pub returns : goal.returns
unfolding number_limit
returns c = word_number c.in_ok-numeral.ensures (none_left _ (sym c.is_empty.ensures ∙ c.if-not-is_empty.false)) c.in_ok-value.was
