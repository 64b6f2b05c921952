-- "A number has no sign and no leading zero, except 0 itself" (paper 01, "Script and printout").
-- Numbers as the parser finds them: digit by digit, and none where 64 bits are passed, so that any number of digits is read and any
-- limit of 64 bits can be told. The grammar's own words for them are `leading`, `is_numeral`, `value_from` and `behind`.
use Rattle.std.specs.Prelude.{ℕ, ◌+◌, ◌*◌, ◌≤◌, ◌<◌, ◌≡◌, true, false, cond, List, [], ◌∷◌, leb, Option, Some, None, MatchOption}
use denote.Ref.{Bor}
use Rattle.grammar.specs.Numerals.{leading, behind, is_numeral, value_from}
use Rattle.parser.specs.declared.Numeral.{Numeral}

-- a digit at the front of some bytes, and what stands behind it
abbrev pub DigitSplit : List ℕ → Option (ℕ × Bor (List ℕ)) → Type 0
DigitSplit bytes split = MatchOption split (leading bytes ≡ []) (λ p. (bytes ≡ (48 + p.0) ∷ p.1.now) × (p.0 < 10))

-- the largest number of 64 bits
abbrev pub largest64 : ℕ
largest64 = 18446744073709551615

-- a number, where it is not above a limit
abbrev pub within_limit : ℕ → ℕ → Option ℕ
within_limit limit n = cond (leb n limit) (Some n) None

-- one digit more, of whatever number the amount stands for
abbrev pub Grows : Option ℕ → ℕ → Option ℕ → Type 0
Grows amount digit grown = (n : ℕ) → amount ≡ within_limit largest64 n → grown ≡ within_limit largest64 (n * 10 + digit)

-- that number, where it is not above a limit of 64 bits
abbrev pub Holds : Option ℕ → ℕ → Option ℕ → Type 0
Holds amount limit kept = (n : ℕ) → limit ≤ largest64 → amount ≡ within_limit largest64 n → kept ≡ within_limit limit n

-- a numeral at the front of some bytes, held to a limit
pub record Spelled (limit : ℕ) (bytes : List ℕ) (numeral : Numeral) : Type 0 where
  pub right : is_numeral (leading bytes) ≡ true
  pub amount : numeral.value ≡ within_limit limit (value_from 0 (leading bytes))
  pub after : numeral.rest.now ≡ behind bytes

abbrev pub Spells : ℕ → List ℕ → Option Numeral → Type 0
Spells limit bytes found = MatchOption found (is_numeral (leading bytes) ≡ false) (λ numeral. Spelled limit bytes numeral)
