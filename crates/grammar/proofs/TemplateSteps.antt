-- What a byte of a template adds to its limits. One step of a template against a line, for each way that it can go: a fixed byte goes by the line's first byte, and a gap by
-- the digits at the front, wherever they end. What `matched` says at each outcome of its tests.
use Prim.Native.Nat.{ℕ}
use mathlib.Core.Path.{◌≡◌, refl, sym}
use mathlib.Core.Bool.{true, false, true≢false}
use mathlib.Core.List.{List, [], ◌∷◌}
use mathlib.Core.Option.{none}
use lib.Dec.{eqb}
use Rattle.grammar.specs.Numerals.{leading, behind, is_numeral, value_from}
use Rattle.grammar.specs.Templates.{is_gap, limit_in, limits_in, with_number, matched}

pub limits_gap : (handles b : ℕ) (bs : List ℕ) → is_gap b ≡ true
    → limits_in handles (b ∷ bs) ≡ limit_in handles b ∷ limits_in handles bs
unfolding limits_in
limits_gap handles b bs g = rw (limits_in, g)

pub limits_byte : (handles b : ℕ) (bs : List ℕ) → is_gap b ≡ false → limits_in handles (b ∷ bs) ≡ limits_in handles bs
unfolding limits_in
limits_byte handles b bs g = rw (limits_in, g)

matched-step : (b : ℕ) (bs : List ℕ) (x : ℕ) (xs : List ℕ)
    → matched (b ∷ bs) (x ∷ xs)
    ≡ elim (is_gap b) [
      | true ↦ elim (is_numeral (leading (x ∷ xs))) [
        | true ↦ with_number (value_from 0 (leading (x ∷ xs))) (matched bs (behind (x ∷ xs)))
        | false ↦ none
      ]
      | false ↦ elim (eqb b x) [ true ↦ matched bs xs | false ↦ none ]
    ]
unfolding matched
matched-step b bs x xs = refl

pub gap_fits : (b : ℕ) (bs l : List ℕ) → is_gap b ≡ true → is_numeral (leading l) ≡ true
    → matched (b ∷ bs) l ≡ with_number (value_from 0 (leading l)) (matched bs (behind l))
unfolding leading is_numeral
gap_fits b bs [] g e = absurd (true≢false (sym e))
gap_fits b bs (x ∷ xs) g e = rw (matched-step, g, e)

pub gap_misfits : (b : ℕ) (bs l : List ℕ) → is_gap b ≡ true → is_numeral (leading l) ≡ false → matched (b ∷ bs) l ≡ none
unfolding matched leading is_numeral
gap_misfits b bs [] g e = refl
gap_misfits b bs (x ∷ xs) g e = rw (matched-step, g, e)

pub byte_fits : (b : ℕ) (bs : List ℕ) (x : ℕ) (xs : List ℕ) → is_gap b ≡ false → eqb b x ≡ true
    → matched (b ∷ bs) (x ∷ xs) ≡ matched bs xs
byte_fits b bs x xs g e = rw (matched-step, g, e)

pub byte_misfits : (b : ℕ) (bs : List ℕ) (x : ℕ) (xs : List ℕ) → is_gap b ≡ false → eqb b x ≡ false
    → matched (b ∷ bs) (x ∷ xs) ≡ none
byte_misfits b bs x xs g e = rw (matched-step, g, e)
