-- The numbers that a program's arguments are, where `gives i n` says that argument `i` was read, and is the number `n` or none. No
-- contract can say what an argument is; this says which arguments the numbers are of, and when there are none.
use Rattle.std.specs.Prelude.{ℕ, ◌+◌, ◌<◌, ◌≡◌, ◌≢◌, ◌⊎◌, List, Option, Some, None, get_or}

-- each argument behind the program's name is a number, in their order
abbrev pub AllNumbers : (ℕ → Option ℕ → Type 0) → ℕ → ℕ → List ℕ → Type 0
AllNumbers gives many count numbers = (count ≡ many + 1) × ((i : ℕ) → i < many → gives (i + 1) (Some (get_or numbers i 0)))

-- there are not so many arguments, or one is no number
abbrev pub NotAllNumbers : (ℕ → Option ℕ → Type 0) → ℕ → ℕ → Type 0
NotAllNumbers gives many count = (count ≢ many + 1) ⊎ ((i : ℕ) × (i < many) × gives (i + 1) None)
