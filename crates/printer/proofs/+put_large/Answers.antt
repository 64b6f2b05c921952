-- `printer::put_large` meets its contract: its call of itself writes the digits of n / 100, and the last two go behind them.
-- Assumes nothing.
use Rattle.std.proofs.Common.{ℕ, ◌+◌, ◌/◌, ◌≤◌, ◌≡◌, ap, ◌∙◌, length, length-append, arith}
use Rattle.grammar.specs.Numerals.{decimal}
use Rattle.grammar.proofs.Decimals.{decimal_hundreds}
use Rattle.printer.proofs.Appending.{appended_as, appended_more, appended_length}
use Rattle.printer.proofs.+put_large.Goals as goal

longer : (n : ℕ) → 100 ≤ n → length (decimal n) ≡ length (decimal (n / 100)) + 2
longer n high = ap length (decimal_hundreds n high) ∙ length-append (decimal (n / 100)) _

pub put_large-end-requires : goal.put_large-end-requires
put_large-end-requires t c = (omega arith, omega (arith, longer c.args.n c.if-n-lt100.false))

pub put_two-requires : goal.put_two-requires
put_two-requires t c =
    omega (arith, longer c.args.n c.if-n-lt100.false, appended_length c.put_large-end.ensures)

pub returns : goal.returns
returns t c =
    appended_as (decimal_hundreds c.args.n c.if-n-lt100.false) (appended_more c.put_large-end.ensures c.put_two.ensures)
