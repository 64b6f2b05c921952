-- `parser::split_digit` meets its contract: the test says whether the first byte is a digit. Assumes nothing.
use native.Mathlib.Omega.{arith}
use Rattle.parser.proofs.Digits.{no_byte, other_byte}
use Rattle.parser.proofs.split_digit.Goals as goal

pub returns-in_err-byte : goal.returns-in_err-byte
returns-in_err-byte c = rw c.from_residual.ensures (no_byte _ c.in_err-byte.ensures.cases)

pub returns-else-is_ascii_digit : goal.returns-else-is_ascii_digit
returns-else-is_ascii_digit c =
    other_byte c.in_ok-byte.ensures.cases.0 (λ low high. omega (arith, c.if-is_ascii_digit.ensures.cases))
