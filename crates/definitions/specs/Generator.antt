-- The generator (paper 01: "The generator is xorshift32, made from a seed and stepped").
-- "With the 32-bit value v, v becomes v xor (v shifted left 13, high bits lost), then v xor (v shifted right 17), then
-- v xor (v shifted left 5). The last v is both the value given and the value kept." So a generator is one number.
use Rattle.std.specs.Prelude.{ℕ, ◌*◌, ◌/◌, ◌%◌, ◌^◌}
use Rattle.std.specs.Int.Bits.{bit_xor}

-- "the 32-bit value v"
abbrev pub value_bits : ℕ
value_bits = 32

-- v xor (v shifted left by k, high bits lost)
unfoldable pub xor_left : ℕ → ℕ → ℕ
xor_left k v = bit_xor v (v * 2 ^ k % 2 ^ value_bits)

-- v xor (v shifted right by k)
unfoldable pub xor_right : ℕ → ℕ → ℕ
xor_right k v = bit_xor v (v / 2 ^ k)

-- one step: the value given, which is also the value kept
unfoldable pub stepped : ℕ → ℕ
stepped v = xor_left 5 (xor_right 17 (xor_left 13 v))
