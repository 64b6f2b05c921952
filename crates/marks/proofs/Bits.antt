-- What the mark of an id is under the operations on words: each goes digit by digit, and a mark is a digit.
-- The laws hold at any width k; 64 is put in where a function's proof cites them. Assumes nothing.
use Prim.Native.Nat.{ℕ, zero, suc, ◌-◌, ◌*◌, ◌/◌, ◌%◌, ◌^◌, ◌≤◌, ◌<◌}
use mathlib.Core.Path.{◌≡◌, refl, sym, ap, ◌∙◌}
use mathlib.Core.Bool.{Bool, true, false, not, ◌&&◌, ◌||◌, and-true, and-false, or-false}
use native.Mathlib.Nat.{le_of_suc-le-suc, not-suc-le-zero, lt_of_lt_of_le, zero-lt-suc, one-mul, pow-succ', pow-suc}
use native.Mathlib.Nat.{div-one, zero-div, div-div-eq-div-mul, div-eq_of_lt, mod-lt, mod-eq_of_lt}
use native.Mathlib.Omega.{arith}
use lib.Dec.{eqb, ltb, eqb-zero-suc, eqb-suc-zero, eqb-suc-suc}
use lib.Pow.{pow_pos, pow_mono, pow-lt}
use lib.Bits.{bit_and, bit_or, and_shr, and_mod, or_shr, or_mod}
use borrow.Author.Tests.{lt-ltb, le-ltb, ltb-true, ltb-false, eqb-true}
use Rattle.marks.specs.Marks.{marked}

-- ---- digit by digit: id 0 has the lowest, and the others have those of the half

pub marked-zero : (w : ℕ) → marked w 0 ≡ eqb (w % 2) 1
unfolding marked
marked-zero w = ap (λ (x : ℕ). eqb (x % 2) 1) (div-one w)

pub marked-suc : (w j : ℕ) → marked w (suc j) ≡ marked (w / 2) j
unfolding marked
marked-suc w j =
    ap (λ (x : ℕ). eqb (x % 2) 1) (ap (λ (x : ℕ). w / x) (pow-succ' 2 j) ∙ sym (div-div-eq-div-mul w 2 (2 ^ j)))

-- half of a word of one digit more
pub half_lt : (k w : ℕ) → w < 2 ^ suc k → w / 2 < 2 ^ k
half_lt k w h = omega (arith, pow-suc 2 k)

two_pos : 0 < 2
two_pos = zero-lt-suc 1

-- ---- words without a mark, and words with the same marks

pub marked-none : (j : ℕ) → marked 0 j ≡ false
unfolding marked
marked-none j = rw zero-div

-- a word of k digits has no mark from k on
pub marked_past : (k w j : ℕ) → w < 2 ^ k → k ≤ j → marked w j ≡ false
unfolding marked
marked_past k w j h l = rw (div-eq_of_lt (lt_of_lt_of_le h (pow_mono l)))

digit_ext : (x y : ℕ) → x < 2 → y < 2 → eqb x 1 ≡ eqb y 1 → x ≡ y
digit_ext zero zero hx hy e = refl
digit_ext zero (suc zero) hx hy e = cc
digit_ext zero (suc (suc y)) hx hy e = omega arith
digit_ext (suc zero) zero hx hy e = cc
digit_ext (suc zero) (suc zero) hx hy e = refl
digit_ext (suc zero) (suc (suc y)) hx hy e = omega arith
digit_ext (suc (suc x)) y hx hy e = omega arith

-- two words with the same marks are equal
pub marked_ext : (k a b : ℕ) → a < 2 ^ k → b < 2 ^ k → ((j : ℕ) → j < k → marked a j ≡ marked b j) → a ≡ b
marked_ext zero a b ha hb same = omega arith
marked_ext (suc k) a b ha hb same =
    let low : a % 2 ≡ b % 2 =
    digit_ext (a % 2) (b % 2) (mod-lt a two_pos) (mod-lt b two_pos)
    (sym (marked-zero a) ∙ same 0 (zero-lt-suc k) ∙ marked-zero b) in
    let high : a / 2 ≡ b / 2 =
    marked_ext k (a / 2) (b / 2) (half_lt k a ha) (half_lt k b hb)
    (λ j l. sym (marked-suc a j) ∙ same (suc j) (omega arith) ∙ marked-suc b j) in
    omega arith

-- so a word without a mark is 0
pub word_unmarked : (k w : ℕ) → w < 2 ^ k → ((j : ℕ) → j < k → marked w j ≡ false) → w ≡ 0
word_unmarked k w h none = marked_ext k w 0 h (pow_pos k) (λ j l. none j l ∙ sym (marked-none j))

-- ---- and, or

module _ (op : ℕ → ℕ → ℕ) (test : Bool → Bool → Bool)
    (op_shr : (a b k : ℕ) → op a b / 2 ^ k ≡ op (a / 2 ^ k) (b / 2 ^ k))
    (op-mod : (a b k : ℕ) → op a b % 2 ^ k ≡ op (a % 2 ^ k) (b % 2 ^ k))
    (digit : (x y : ℕ) → x < 2 → y < 2 → eqb (op x y) 1 ≡ test (eqb x 1) (eqb y 1)) where
  -- an operation on words that goes digit by digit is the test on the marks that it is on digits
  marked_op : (a b j : ℕ) → marked (op a b) j ≡ test (marked a j) (marked b j)
  unfolding marked
  marked_op a b j =
      ap (λ (x : ℕ). eqb (x % 2) 1) (op_shr a b j)
      ∙ ap (λ (x : ℕ). eqb x 1) (op-mod (a / 2 ^ j) (b / 2 ^ j) 1)
      ∙ digit (a / 2 ^ j % 2) (b / 2 ^ j % 2) (mod-lt (a / 2 ^ j) two_pos) (mod-lt (b / 2 ^ j) two_pos)

and_digit : (x y : ℕ) → x < 2 → y < 2 → eqb (bit_and x y) 1 ≡ eqb x 1 && eqb y 1
and_digit zero y hx hy = refl
and_digit (suc zero) zero hx hy = refl
and_digit (suc zero) (suc zero) hx hy = refl
and_digit (suc zero) (suc (suc y)) hx hy = absurd (omega arith)
and_digit (suc (suc x)) y hx hy = absurd (omega arith)

or_digit : (x y : ℕ) → x < 2 → y < 2 → eqb (bit_or x y) 1 ≡ eqb x 1 || eqb y 1
or_digit zero y hx hy = refl
or_digit (suc zero) zero hx hy = refl
or_digit (suc zero) (suc zero) hx hy = refl
or_digit (suc zero) (suc (suc y)) hx hy = absurd (omega arith)
or_digit (suc (suc x)) y hx hy = absurd (omega arith)

pub marked-and : (a b j : ℕ) → marked (bit_and a b) j ≡ marked a j && marked b j
marked-and = marked_op bit_and ◌&&◌ and_shr and_mod and_digit

pub marked-or : (a b j : ℕ) → marked (bit_or a b) j ≡ marked a j || marked b j
marked-or = marked_op bit_or ◌||◌ or_shr or_mod or_digit

-- ---- a single mark, and the word of all others

pub marked_power : (i j : ℕ) → marked (2 ^ i) j ≡ eqb j i
marked_power zero zero = marked-zero 1
marked_power zero (suc j) = marked-suc 1 j ∙ marked-none j ∙ sym (eqb-suc-zero j)
marked_power (suc i) zero =
    let even : 2 ^ suc i % 2 ≡ 0 = omega (arith, pow-suc 2 i) in
    marked-zero (2 ^ suc i) ∙ ap (λ (x : ℕ). eqb x 1) even ∙ sym (eqb-zero-suc i)
marked_power (suc i) (suc j) =
    let half : 2 ^ suc i / 2 ≡ 2 ^ i = omega (arith, pow-suc 2 i) in
    marked-suc (2 ^ suc i) j ∙ ap (λ (x : ℕ). marked x j) half ∙ marked_power i j ∙ sym (eqb-suc-suc j i)

complement_digit : (x : ℕ) → x < 2 → eqb (1 - x) 1 ≡ not (eqb x 1)
complement_digit zero h = refl
complement_digit (suc zero) h = refl
complement_digit (suc (suc x)) h = absurd (omega arith)

-- the complement of a word of k digits has the marks that the word lacks
pub marked_complement : (k a j : ℕ) → a < 2 ^ k → j < k → marked ((2 ^ k - 1) - a) j ≡ not (marked a j)
marked_complement zero a j h l = absurd (not-suc-le-zero l)
marked_complement (suc k) a zero h l =
    let low : ((2 ^ suc k - 1) - a) % 2 ≡ 1 - a % 2 = omega (arith, pow-suc 2 k) in
    marked-zero ((2 ^ suc k - 1) - a) ∙ ap (λ (x : ℕ). eqb x 1) low
    ∙ complement_digit (a % 2) (mod-lt a two_pos) ∙ ap not (sym (marked-zero a))
marked_complement (suc k) a (suc j) h l =
    let half : ((2 ^ suc k - 1) - a) / 2 ≡ (2 ^ k - 1) - a / 2 = omega (arith, pow-suc 2 k) in
    marked-suc ((2 ^ suc k - 1) - a) j ∙ ap (λ (x : ℕ). marked x j) half
    ∙ marked_complement k (a / 2) j (half_lt k a h) (le_of_suc-le-suc l) ∙ ap not (sym (marked-suc a j))

-- ---- a mark put in and a mark taken out, in words of k digits

shifted_one : (k i : ℕ) → i < k → 1 * 2 ^ i % 2 ^ k ≡ 2 ^ i
shifted_one k i l = ap (λ (x : ℕ). x % 2 ^ k) (one-mul (2 ^ i)) ∙ mod-eq_of_lt (pow-lt l)

pub marked-put : (k w i : ℕ) → i < k → (j : ℕ)
    → marked (bit_or w (1 * 2 ^ i % 2 ^ k)) j ≡ marked w j || (eqb j i && ltb i k)
marked-put k w i l j = rw (shifted_one k i l, marked-or, marked_power, lt-ltb i k l, and-true)

pub marked-put_past : (k w i : ℕ) → k ≤ i → (j : ℕ) → marked w j ≡ marked w j || (eqb j i && ltb i k)
marked-put_past k w i l j = rw (le-ltb i k l, and-false, or-false)

-- an id past the digits has no mark that could be taken out
pub marked-taken_past : (k w i : ℕ) → w < 2 ^ k → k ≤ i → (j : ℕ) → marked w j ≡ marked w j && not (eqb j i)
marked-taken_past k w i h l j = go (eqb j i) refl
  where
    go : (b : Bool) → eqb j i ≡ b → marked w j ≡ marked w j && not b
    go true e = marked_past k w j h (omega (arith, eqb-true j i e)) ∙ sym (and-false (marked w j))
    go false e = sym (and-true (marked w j))

pub marked-taken : (k w i : ℕ) → w < 2 ^ k → i < k → (j : ℕ)
    → marked (bit_and w ((2 ^ k - 1) - 1 * 2 ^ i % 2 ^ k)) j ≡ marked w j && not (eqb j i)
marked-taken k w i h l j = rw (shifted_one k i l, marked-and) (go (ltb j k) refl)
  where
    go : (b : Bool) → ltb j k ≡ b → marked w j && marked ((2 ^ k - 1) - 2 ^ i) j ≡ marked w j && not (eqb j i)
    go true e = rw (marked_complement k (2 ^ i) j (pow-lt l) (ltb-true j k e), marked_power)
    go false e = rw (marked_past k w j h (ltb-false j k e))
