-- A step of a generator that is 1 to 4294967295 gives 1 to 4294967295.
-- It holds since a xor that is 0 has equal operands, and no number but 0 is itself shifted by one place or more. Assumes nothing.
use Prim.Native.Nat.{ℕ, zero, suc, ◌+◌, ◌-◌, ◌*◌, ◌/◌, ◌%◌, ◌^◌, ◌≤◌, ◌<◌}
use mathlib.Core.Path.{◌≡◌, sym, ap, ◌∙◌}
use native.Mathlib.Nat.{add-mul, mul_assoc, mul_right_comm, mod-lt, mul-mod_left, add-mul-mod_self_right, mod-add-div', div-lt_self}
use native.Mathlib.Omega.{arith}
use lib.Bits.{bit_xor, and_le_l, and_le_r, xor_add_and, xor_lt}
use lib.Pow.{pow-add, pow_pos, pow-lt}
use Rattle.definitions.specs.Sizes.{number_limit}
use Rattle.definitions.specs.Generator.{value_bits, xor_left, xor_right, stepped}

-- the numbers that a generator has
abbrev pub Seeded : ℕ → Type 0
Seeded v = (1 ≤ v) × (v ≤ number_limit)

-- a xor is the sum less twice the digits in common
xor_zero_same : (a b : ℕ) → bit_xor a b ≡ 0 → a ≡ b
xor_zero_same a b e = omega (arith, xor_add_and a b, and_le_l a b, and_le_r a b)

-- a factor goes past a remainder
mod_times : (a m n : ℕ) → a % n * m % n ≡ a * m % n
mod_times a m n =
    sym (add-mul-mod_self_right (a % n * m) (a / n * m) n)
    ∙ ap (λ (x : ℕ). (a % n * m + x) % n) (mul_right_comm (a / n) m n)
    ∙ ap (λ (x : ℕ). x % n) (sym (add-mul (a % n) (a / n * n) m))
    ∙ ap (λ (x : ℕ). x * m % n) (mod-add-div' a n)

-- A number that is itself shifted left by some places, high digits lost, is also itself shifted by its width or
-- more, which leaves nothing.
module _ (v k bits : ℕ) (some : 0 < k) (same : v ≡ v * 2 ^ k % 2 ^ bits) where
  shifted_more : (j : ℕ) → v ≡ v * 2 ^ j % 2 ^ bits → v ≡ v * 2 ^ (j + k) % 2 ^ bits
  shifted_more j e =
      same
      ∙ ap (λ (x : ℕ). x * 2 ^ k % 2 ^ bits) e
      ∙ mod_times (v * 2 ^ j) (2 ^ k) (2 ^ bits)
      ∙ ap (λ (x : ℕ). x % 2 ^ bits) (mul_assoc v (2 ^ j) (2 ^ k) ∙ ap (λ (x : ℕ). v * x) (sym (pow-add 2 j k)))

  shifted_past : (n : ℕ) → (j : ℕ) × (n ≤ j) × (v ≡ v * 2 ^ j % 2 ^ bits)
  shifted_past zero = (k, omega arith, same)
  shifted_past (suc n) = let p = shifted_past n in (p.0 + k, omega arith, shifted_more p.0 p.2)

  shifted_none : v ≡ 0
  shifted_none =
      let p = shifted_past bits in
      let j = p.0 - bits in
      let split : p.0 ≡ j + bits = omega (arith, p.1) in
      p.2
      ∙ ap (λ (x : ℕ). v * 2 ^ x % 2 ^ bits) split
      ∙ ap (λ (x : ℕ). x % 2 ^ bits) (ap (λ (x : ℕ). v * x) (pow-add 2 j bits) ∙ sym (mul_assoc v (2 ^ j) (2 ^ bits)))
      ∙ mul-mod_left (v * 2 ^ j) (2 ^ bits)

-- a xor with another number is not 0
xor_seeded : (v w : ℕ) → v ≤ number_limit → w ≤ number_limit → (v ≡ w → ⊥) → Seeded (bit_xor v w)
unfolding number_limit
xor_seeded v w high low other =
    let differs : bit_xor v w ≡ 0 → ⊥ = λ e. other (xor_zero_same v w e) in
    (omega arith, omega (arith, xor_lt value_bits v w (omega arith) (omega arith)))

module _ (k v : ℕ) (some : 0 < k) (seeded : Seeded v) where
  xor_left_seeded : Seeded (xor_left k v)
  unfolding xor_left number_limit
  xor_left_seeded =
      xor_seeded v (v * 2 ^ k % 2 ^ value_bits) seeded.1 (omega (arith, mod-lt (v * 2 ^ k) (pow_pos value_bits)))
      (λ e. omega (arith, shifted_none v k value_bits some e))

  xor_right_seeded : Seeded (xor_right k v)
  unfolding xor_right
  xor_right_seeded =
      let less : v / 2 ^ k < v = div-lt_self seeded.0 (pow-lt some) in
      xor_seeded v (v / 2 ^ k) seeded.1 (omega arith) (λ e. omega arith)

pub stepped_seeded : (v : ℕ) → Seeded v → Seeded (stepped v)
unfolding stepped
stepped_seeded v seeded =
    xor_left_seeded 5 _ (omega arith) (xor_right_seeded 17 _ (omega arith) (xor_left_seeded 13 v (omega arith) seeded))
