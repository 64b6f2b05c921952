-- Numbers as the script spells them (paper 01: "A number has no sign and no leading zero, except 0 itself").
use Rattle.std.specs.Prelude.{ℕ, zero, suc, ◌+◌, ◌-◌, ◌*◌, ◌/◌, ◌%◌, Bool, true, false, cond, not, List, [], ◌∷◌, ◌++◌, eqb, ltb}
use Rattle.definitions.specs.Checks.{within}

-- the digits 0 to 9 are the bytes 48 to 57
unfoldable pub is_digit : ℕ → Bool
is_digit byte = within 48 57 byte

-- the digits at the front of some bytes, and what stands behind them
unfoldable pub leading : List ℕ → List ℕ
leading [] = []
leading (b ∷ bs) = cond (is_digit b) (b ∷ leading bs) []

unfoldable pub behind : List ℕ → List ℕ
behind [] = []
behind (b ∷ bs) = cond (is_digit b) (behind bs) (b ∷ bs)

-- whether digits are a number: there is one, and the first of several is not 0
unfoldable pub is_numeral : List ℕ → Bool
is_numeral [] = false
is_numeral (d ∷ []) = true
is_numeral (d ∷ e ∷ ds) = not (eqb d 48)

-- the number that digits spell, after those that spell n
unfoldable pub value_from : ℕ → List ℕ → ℕ
value_from n [] = n
value_from n (d ∷ ds) = value_from (n * 10 + (d - 48)) ds

-- the digits of a number, with as much fuel as it may have digits
unfoldable pub digits : ℕ → ℕ → List ℕ
digits zero n = []
digits (suc fuel) n = elim (ltb n 10) [ true ↦ (48 + n) ∷ [] | false ↦ digits fuel (n / 10) ++ ((48 + n % 10) ∷ []) ]

unfoldable pub decimal : ℕ → List ℕ
decimal n = digits (suc n) n
