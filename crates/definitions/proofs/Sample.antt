-- Laws of the sample, and the claims of specs/Evenness on its steps. The span is what is left of all values without the
-- remainder; the target lies below the sum; the generator is stepped once, and once more for each throw, of which there are at
-- most eight. By induction on the throws that are left. Assumes nothing.
use Prim.Native.Nat.{ℕ, zero, suc, ◌+◌, ◌-◌, ◌/◌, ◌%◌, ◌^◌, ◌≤◌, ◌<◌}
use mathlib.Core.Path.{◌≡◌, refl, ap}
use mathlib.Core.Bool.{Bool, true, false, not}
use native.Mathlib.Nat.{mul-zero, mod-lt, div-add-mod'}
use native.Mathlib.Omega.{arith}
use lib.Dec.{ltb}
use borrow.Author.Tests.{lt-ltb, ltb-true, ltb-false, not-false}
use Rattle.definitions.specs.Sizes.{shares, throws}
use Rattle.definitions.specs.Generator.{xor_left, xor_right, stepped}
use Rattle.definitions.specs.Tick.{any_below}
use Rattle.definitions.specs.Sample.{Sample, even_span, counted, sample_from, sample}
use Rattle.definitions.specs.Evenness.{stepped_by, Sampled, Sampling, AtMostTwoSteps}
use Rattle.definitions.proofs.Laws.Tests.{cond_both}
use Rattle.definitions.proofs.Laws.Sums.{any_below-false}

-- the span is all values but the remainder
pub even_span_rest : (sum : ℕ) → even_span sum + 2 ^ 32 % sum ≡ 2 ^ 32
unfolding even_span
even_span_rest sum = div-add-mod' (2 ^ 32) sum

-- a sum of 0 has no multiple but 0, and a value that has room for the sum above it is below the span
pub even_span-none : even_span 0 ≡ 0
unfolding even_span
even_span-none = mul-zero (2 ^ 32 / 0)

pub even_span_high : (sum value : ℕ) → 0 < sum → value + sum ≤ 2 ^ 32 → value < even_span sum
even_span_high sum value some room = omega (arith, even_span_rest sum, mod-lt (2 ^ 32) some)

-- a value that counts, the last one, which counts as it is, and one that is thrown away
module _ (sum steps value : ℕ) where
  pub sample_from-counted : (left : ℕ) → ltb value (even_span sum) ≡ true
      → sample_from sum left steps value ≡ counted sum steps value
  unfolding sample_from
  sample_from-counted zero e = refl
  sample_from-counted (suc left) e = rw e

  pub sample_from_last : sample_from sum 0 steps value ≡ counted sum steps value
  unfolding sample_from
  sample_from_last = refl

  pub sample_from_thrown : (left : ℕ) → ltb value (even_span sum) ≡ false
      → sample_from sum (suc left) steps value ≡ sample_from sum left (suc steps) (stepped value)
  unfolding sample_from
  sample_from_thrown left e = rw e

-- the sum that a sample tells is the one that it was taken below
sample_from-sum : (sum left steps value : ℕ) → (sample_from sum left steps value).sum ≡ sum
unfolding sample_from
sample_from-sum sum zero steps value = refl
sample_from-sum sum (suc left) steps value =
    cond_both (λ (s : Sample). s.sum ≡ sum) (ltb value (even_span sum)) refl (sample_from-sum sum left (suc steps) (stepped value))

pub sample-sum : (sum generator : ℕ) → (sample sum generator).sum ≡ sum
unfolding sample
sample-sum sum generator = sample_from-sum sum throws 1 (stepped generator)

-- from a value that so many steps gave, where so many more may still be thrown away
pub sample_from_sampled : (sum generator left steps value : ℕ) → value ≡ stepped_by steps generator
    → Sampled sum generator steps (steps + left) (sample_from sum left steps value)
unfolding sample_from stepped_by
sample_from_sampled sum generator zero steps value e =
    record { steps_low = omega arith; steps_high = omega arith; generator_is = e; target_is = refl }
sample_from_sampled sum generator (suc left) steps value e =
    let later = sample_from_sampled sum generator left (suc steps) (stepped value) (ap stepped e) in
    cond_both (Sampled sum generator steps (steps + suc left)) (ltb value (even_span sum))
    (record { steps_low = omega arith; steps_high = omega arith; generator_is = e; target_is = refl })
    (record {
      steps_low = omega (arith, later.steps_low);
      steps_high = omega (arith, later.steps_high);
      generator_is = later.generator_is;
      target_is = later.target_is;
    })

pub sample_sampled : Sampling
unfolding sample stepped_by
sample_sampled sum generator = sample_from_sampled sum generator throws 1 (stepped generator) refl

-- the target is below the sum
pub sample_below : (sum generator : ℕ) → 0 < sum → (sample sum generator).target < sum
sample_below sum generator some = rw (sample_sampled sum generator).target_is (mod-lt (sample sum generator).generator some)

-- ---- no sum of rates throws away two values in a row: after one of the highest values the generator gives a low one

-- whether one of the n highest values is followed by another
pairs_high : ℕ → Bool
pairs_high n = any_below n (λ k. not (ltb (stepped (2 ^ 32 - suc k)) (2 ^ 32 - shares)))

none_high : pairs_high shares ≡ false
unfolding pairs_high any_below shares stepped xor_left xor_right
none_high = refl

low_after : (value : ℕ) → 2 ^ 32 - shares ≤ value → value < 2 ^ 32 → stepped value < 2 ^ 32 - shares
unfolding pairs_high shares
low_after value high fits =
    let k = 2 ^ 32 - suc value in
    let here : 2 ^ 32 - suc k ≡ value = omega arith in
    let low = any_below-false shares _ none_high k (omega arith) in
    rw here at (ltb-true (stepped (2 ^ 32 - suc k)) (2 ^ 32 - shares) (not-false _ low))

module _ (sum : ℕ) (some : 0 < sum) (low : sum ≤ shares) where
  sample_from_twice : (left value : ℕ) → value < 2 ^ 32 → (sample_from sum left 1 value).steps ≤ 2
  unfolding shares
  sample_from_twice left value fits = go (ltb value (even_span sum)) refl left
    where
      go : (b : Bool) → ltb value (even_span sum) ≡ b → (left : ℕ) → (sample_from sum left 1 value).steps ≤ 2
      go true e left = rw (sample_from-counted sum 1 value left e) (omega arith)
      go false e zero = rw (sample_from_last sum 1 value) (omega arith)
      go false e (suc left) =
          let rest = even_span_rest sum in
          let less = mod-lt (2 ^ 32) some in
          let next = low_after value (omega (arith, rest, less, ltb-false value (even_span sum) e)) fits in
          let counts = lt-ltb (stepped value) (even_span sum) (even_span_high sum (stepped value) some (omega (arith, next))) in
          rw (sample_from_thrown sum 1 value left e, sample_from-counted sum 2 (stepped value) left counts) (omega arith)

pub sample_twice : AtMostTwoSteps
unfolding sample
sample_twice sum generator some low fits = sample_from_twice sum some low throws (stepped generator) fits
