-- The round trip (paper 01, "Script and printout"): what a form of the grammar writes is read as that form, for as many numbers
-- as it takes, none above the limit of its gap. "right shape, but a number above 4294967295", or above that of a handle (paper 02,
-- S-6), is read as 17. Both hold in every edition, whatever its limit for handles; the present one is that of `handle_limit`.
use Rattle.std.specs.Prelude.{ℕ, ◌≡◌, true, false, length}
use mathlib.Core.List.{List, Memᴰ}
use Rattle.std.specs.Prelude.{Ok, Err}
use Rattle.grammar.specs.declared.Unread.TheVariants.{TooLarge as Above}
use Rattle.grammar.specs.Templates.{limits_in, gaps, numbers_fit, filled}
use Rattle.grammar.specs.Grammar.{Rule, rules, parsed_in}

-- what a rule writes
unfoldable pub written : Rule → List ℕ → List ℕ
written r numbers = filled r.template numbers

-- as many numbers as a rule takes
abbrev pub Takes : Rule → List ℕ → Type 0
Takes r numbers = length numbers ≡ gaps r.template

unfoldable pub RoundTrip : Type 0
RoundTrip =
    (handles : ℕ) (r : Rule)
    → Memᴰ r rules
    → (numbers : List ℕ)
    → Takes r numbers
    → numbers_fit (limits_in handles r.template) numbers ≡ true
    → parsed_in handles (written r numbers) ≡ Ok (r.makes numbers)

unfoldable pub TooLarge : Type 0
TooLarge =
    (handles : ℕ) (r : Rule)
    → Memᴰ r rules
    → (numbers : List ℕ)
    → Takes r numbers
    → numbers_fit (limits_in handles r.template) numbers ≡ false
    → parsed_in handles (written r numbers) ≡ Err Above
