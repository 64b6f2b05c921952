-- The laws of digits that the parser's loop goes by: what a digit at the front of some bytes does to the digits there and to what
-- stands behind them. Assumes nothing.
use Prim.Native.Nat.{ℕ, ◌+◌, ◌≤◌, ◌<◌}
use mathlib.Core.Path.{◌≡◌, refl, ap, ◌∙◌}
use mathlib.Core.Bool.{Bool, true, false}
use mathlib.Core.List.{List, [], ◌∷◌}
use mathlib.Core.Logic.{◌≢◌}
use native.Mathlib.Omega.{arith}
use borrow.Author.Tests.{le-leb, leb-true, eqb-true, eqb-false}
use lib.Dec.{leb, eqb}
use lib.ListN.{length}
use Rattle.definitions.specs.Checks.{within}
use Rattle.grammar.specs.Numerals.{is_digit, leading, behind}

-- no byte is there, or one that is no digit
pub no_byte : (l : List ℕ) → length l ≡ 0 → leading l ≡ []
unfolding leading
no_byte [] h = refl
no_byte (b ∷ bs) h = absurd (omega arith)

pub other_byte : {l : List ℕ} {b : ℕ} {bs : List ℕ} → l ≡ b ∷ bs → (48 ≤ b → b ≤ 57 → ⊥) → leading l ≡ []
unfolding leading is_digit within
other_byte {l} {b} {bs} e other = ap leading e ∙ go (leb 48 b) (leb b 57) refl refl
  where
    go : (s t : Bool) → leb 48 b ≡ s → leb b 57 ≡ t → leading (b ∷ bs) ≡ []
    go true true p q = absurd (other (leb-true 48 b p) (leb-true b 57 q))
    go true false p q = rw (p, q)
    go false t p q = rw p

digit_there : (d : ℕ) → d < 10 → is_digit (48 + d) ≡ true
unfolding is_digit within
digit_there d h = rw (le-leb 48 (48 + d) (omega arith), le-leb (48 + d) 57 (omega arith))

module _ {l : List ℕ} {d : ℕ} {bs : List ℕ} (e : l ≡ (48 + d) ∷ bs) (h : d < 10) where
  pub digit_leading : leading l ≡ (48 + d) ∷ leading bs
  unfolding leading
  digit_leading = ap leading e ∙ rw (digit_there d h)

  pub digit_behind : behind l ≡ behind bs
  unfolding behind
  digit_behind = ap behind e ∙ rw (digit_there d h)

-- where no digit is there, all stands behind
pub none_behind : (l : List ℕ) → leading l ≡ [] → behind l ≡ l
unfolding leading behind
none_behind [] e = refl
none_behind (b ∷ bs) e = go (is_digit b) refl
  where
    go : (t : Bool) → is_digit b ≡ t → behind (b ∷ bs) ≡ b ∷ bs
    go true q = absurd (let f = rw q at e in cc)
    go false q = rw q

-- whether bytes are left
pub some_left : (l : List ℕ) → eqb (length l) 0 ≡ false → 0 < length l
some_left l e = let some : length l ≢ 0 = eqb-false (length l) 0 e in omega arith

pub none_left : (l : List ℕ) → eqb (length l) 0 ≡ true → l ≡ []
none_left [] e = refl
none_left (b ∷ bs) e = absurd (omega (arith, eqb-true (length (b ∷ bs)) 0 e))
