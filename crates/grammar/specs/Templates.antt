-- "One blank between parts, none elsewhere" (paper 01, "Script and printout").
-- Templates: a text with gaps for numbers. One template says how a form is written and how it is read.
use Rattle.std.specs.Prelude.{ℕ, Bool, true, false, cond, ◌&&◌, ◌||◌, List, [], ◌∷◌, ◌++◌, eqb, leb, length}
use Rattle.std.proofs.Math.Option.{Option, none, some}
use Rattle.definitions.specs.Sizes.{number_limit, handle_limit}
use Rattle.grammar.specs.Numerals.{leading, behind, is_numeral, value_from, decimal}

-- The gaps: the byte # for a number of a call, @ for a handle. Any other byte is fixed.
abbrev pub is_gap : ℕ → Bool
is_gap byte = eqb byte 35 || eqb byte 64

-- The largest number that may stand in a gap. A handle has a limit of its own, in which editions differ (specs/HandleEditions).
abbrev pub limit_in : ℕ → ℕ → ℕ
limit_in handles byte = cond (eqb byte 35) number_limit (cond (eqb byte 64) handles 0)

-- the limits of a template's gaps, one after the other
unfoldable pub limits_in : ℕ → List ℕ → List ℕ
limits_in handles [] = []
limits_in handles (b ∷ bs) =
    elim (is_gap b) [ true ↦ limit_in handles b ∷ limits_in handles bs | false ↦ limits_in handles bs ]

abbrev pub limits : List ℕ → List ℕ
limits template = limits_in handle_limit template

-- how many numbers a template takes
abbrev pub gaps : List ℕ → ℕ
gaps template = length (limits template)

-- whether no number is above its limit
unfoldable pub numbers_fit : List ℕ → List ℕ → Bool
numbers_fit [] numbers = true
numbers_fit (l ∷ ls) [] = true
numbers_fit (l ∷ ls) (n ∷ ns) = leb n l && numbers_fit ls ns

-- a template with numbers in its gaps, one after the other
unfoldable pub filled : List ℕ → List ℕ → List ℕ
filled [] numbers = []
filled (b ∷ bs) [] = b ∷ filled bs []
filled (b ∷ bs) (n ∷ ns) = elim (is_gap b) [ true ↦ decimal n ++ filled bs ns | false ↦ b ∷ filled bs (n ∷ ns) ]

abbrev pub with_number : ℕ → Option (List ℕ) → Option (List ℕ)
with_number n none = none
with_number n (some ns) = some (n ∷ ns)

-- the numbers in the gaps of some bytes that fit a template from end to end
unfoldable pub matched : List ℕ → List ℕ → Option (List ℕ)
matched [] [] = some []
matched [] (x ∷ xs) = none
matched (b ∷ bs) [] = none
matched (b ∷ bs) (x ∷ xs) =
    elim (is_gap b) [
      | true ↦ elim (is_numeral (leading (x ∷ xs))) [
        | true ↦ with_number (value_from 0 (leading (x ∷ xs))) (matched bs (behind (x ∷ xs)))
        | false ↦ none
      ]
      | false ↦ elim (eqb b x) [ true ↦ matched bs xs | false ↦ none ]
    ]

-- a phrase: how it is written, and what its numbers make
pub record Phrase (A : Type 0) : Type 0 where
  pub template : List ℕ
  pub makes : List ℕ → A
