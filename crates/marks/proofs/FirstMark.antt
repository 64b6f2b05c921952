-- What counting a word's ones, counting its trailing zeros and taking one off it tell of its marks, at any width k.
-- Each is an induction on the width: a word is its lowest digit and its half, and so is what is said of it. Assumes nothing.
use Prim.Native.Nat.{ℕ, zero, suc, ◌+◌, ◌-◌, ◌/◌, ◌%◌, ◌^◌, ◌≤◌, ◌<◌}
use mathlib.Core.Path.{◌≡◌, refl, sym, ap, ◌∙◌, fun_ext}
use mathlib.Core.Bool.{Bool, true, cond, not, ◌&&◌, ◌||◌, and_self, and-true}
use native.Mathlib.Nat.{mod-lt, zero-lt-suc, zero-add, lt_of_not-le, le_refl, lt_irrefl}
use native.Mathlib.Omega.{arith}
use lib.Dec.{eqb, ltb, eqb-suc-zero, eqb-suc-suc}
use lib.Bits.{bit_and}
use lib.Count.{ones, ones_step, count_trailing_zeros, under}
use borrow.Author.Tests.{lt-ltb}
use Rattle.definitions.specs.Draw.{first_from}
use Rattle.definitions.specs.Tick.{any_below}
use Rattle.marks.specs.Marks.{marked}
use Rattle.marks.proofs.IdSearch.{first_from-suc, first_from_holds, first_from_before, first_from_is, any_below-suc}
use Rattle.marks.proofs.Bits.{marked-zero, marked-suc, marked-none, marked-and, half_lt, word_unmarked}

-- the marks of the half are those of the word, one id down
pub marked_half : (w : ℕ) → (λ (j : ℕ). marked w (suc j)) ≡ marked (w / 2)
marked_half w = fun_ext (marked-suc w)

-- ---- the count of ones says whether there is a mark

digit_any : (x y : ℕ) → x < 2 → ltb 0 (x + y) ≡ eqb x 1 || ltb 0 y
digit_any zero y h = ap (ltb 0) (zero-add y)
digit_any (suc zero) y h = lt-ltb 0 (1 + y) (omega arith)
digit_any (suc (suc x)) y h = absurd (omega arith)

pub ones_any : (k w : ℕ) → w < 2 ^ k → ltb 0 (ones w) ≡ any_below k (marked w)
unfolding any_below ones
ones_any zero w h = let e : w ≡ 0 = omega arith in rw e
ones_any (suc k) w h =
    ap (ltb 0) (ones_step w)
    ∙ digit_any (w % 2) (ones (w / 2)) (mod-lt w (zero-lt-suc 1))
    ∙ ap (λ (b : Bool). eqb (w % 2) 1 || b) (ones_any k (w / 2) (half_lt k w h))
    ∙ sym (any_below-suc k (marked w) ∙ rw (marked-zero, marked_half w))

-- ---- the trailing zeros stand below the first mark

digit_first : (x n : ℕ) → x < 2 → under x n ≡ cond (eqb x 1) 0 (suc n)
digit_first zero n h = refl
digit_first (suc zero) n h = refl
digit_first (suc (suc x)) n h = absurd (omega arith)

-- the first mark is that of id 0, or stands one past the first mark of the half
pub marked_first_suc : (k w : ℕ)
    → first_from 0 (suc k) (marked w) ≡ cond (eqb (w % 2) 1) 0 (suc (first_from 0 k (marked (w / 2))))
marked_first_suc k w = first_from-suc k (marked w) ∙ rw (marked-zero, marked_half w)

pub trailing_first : (k w : ℕ) → count_trailing_zeros k w ≡ first_from 0 k (marked w)
unfolding count_trailing_zeros first_from
trailing_first zero w = refl
trailing_first (suc k) w =
    digit_first (w % 2) (count_trailing_zeros k (w / 2)) (mod-lt w (zero-lt-suc 1))
    ∙ ap (λ (n : ℕ). cond (eqb (w % 2) 1) 0 (suc n)) (trailing_first k (w / 2))
    ∙ sym (marked_first_suc k w)

-- a word that is not 0 has its first mark within its digits
pub marked_first_lt : (k w : ℕ) → 0 < w → w < 2 ^ k → first_from 0 k (marked w) < k
marked_first_lt k w p h =
    lt_of_not-le (λ (g : k ≤ first_from 0 k (marked w)).
    let none : w ≡ 0 = word_unmarked k w h (λ j l. first_from_before k (marked w) j (omega arith)) in
    omega arith)

pub marked_first : (k w : ℕ) → 0 < w → w < 2 ^ k → marked w (first_from 0 k (marked w)) ≡ true
marked_first k w p h = first_from_holds k (marked w) (marked_first_lt k w p h)

-- and 0 has none
pub marked_first_none : (k : ℕ) → first_from 0 k (marked 0) ≡ k
marked_first_none k = first_from_is k (marked 0) k (le_refl k) (λ l. absurd (lt_irrefl k l)) (λ j l. marked-none j)

-- ---- one less than a word has no mark at the word's first, and above it the same marks

marked-pred : (k w : ℕ) → 0 < w → w < 2 ^ k → (j : ℕ)
    → marked w j && marked (w - 1) j ≡ marked w j && not (eqb j (first_from 0 k (marked w)))
marked-pred zero w p h j = absurd (omega arith)
marked-pred (suc k) w p h j =
    rw marked_first_suc (go (w % 2) refl (mod-lt w (zero-lt-suc 1)) j (λ q. marked-pred k (w / 2) q (half_lt k w h)))
  where
    go : (x : ℕ) → w % 2 ≡ x → x < 2 → (j : ℕ)
        → (0 < w / 2 → (i : ℕ)
        → marked (w / 2) i && marked (w / 2 - 1) i ≡ marked (w / 2) i && not (eqb i (first_from 0 k (marked (w / 2)))))
        → marked w j && marked (w - 1) j
        ≡ marked w j && not (eqb j (cond (eqb x 1) 0 (suc (first_from 0 k (marked (w / 2))))))
    go zero e l zero half = rw (marked-zero w, e)
    go zero e l (suc j) half =
        let less : (w - 1) / 2 ≡ w / 2 - 1 = omega arith in
        rw (marked-suc w, marked-suc (w - 1), less, eqb-suc-suc) (half (omega arith) j)
    go (suc zero) e l zero half =
        let even : (w - 1) % 2 ≡ 0 = omega arith in
        rw (marked-zero w, marked-zero (w - 1), even)
    go (suc zero) e l (suc j) half =
        let same : (w - 1) / 2 ≡ w / 2 = omega arith in
        rw (marked-suc w, marked-suc (w - 1), same, eqb-suc-zero, and_self, and-true)
    go (suc (suc x)) e l j half = absurd (omega arith)

pub marked_rest : (k w : ℕ) → 0 < w → w < 2 ^ k → (j : ℕ)
    → marked (bit_and w (w - 1)) j ≡ marked w j && not (eqb j (first_from 0 k (marked w)))
marked_rest k w p h j = marked-and w (w - 1) j ∙ marked-pred k w p h j
