-- The target of a draw: a number below the sum of the rates, sampled by rejection (paper 02, S-1, "Even odds in the draw").
-- "A value is now thrown away, and the generator stepped again, if it is not below the largest multiple of the rate sum that
-- is at most 4294967296." What is left gives every target from as many values (Evenness).
use Rattle.std.specs.Prelude.{ℕ, zero, suc, ◌*◌, ◌/◌, ◌%◌, ◌^◌, cond, ltb}
use Rattle.definitions.specs.Sizes.{throws}
use Rattle.definitions.specs.Generator.{stepped}

-- "The draw now gives the target, the new generator state and the number of steps taken."
-- Beside them stands the sum of the rates in it.
pub record Sample : Type 0 where
  pub target : ℕ
  pub sum : ℕ
  pub generator : ℕ
  pub steps : ℕ

-- "the largest multiple of the rate sum that is at most 4294967296"
unfoldable pub even_span : ℕ → ℕ
even_span sum = 2 ^ 32 / sum * sum

-- "The new value modulo the sum of the rates in the draw is the target" (paper 01).
abbrev pub counted : ℕ → ℕ → ℕ → Sample
counted sum steps value = record { target = value % sum; sum = sum; generator = value; steps = steps }

-- from a value that so many steps gave, where so many may still be thrown away
unfoldable pub sample_from : ℕ → ℕ → ℕ → ℕ → Sample
sample_from sum zero steps value = counted sum steps value
sample_from sum (suc left) steps value =
    cond (ltb value (even_span sum)) (counted sum steps value) (sample_from sum left (suc steps) (stepped value))

-- "After the eighth throw in one draw the ninth value counts as it is."
unfoldable pub sample : ℕ → ℕ → Sample
sample sum generator = sample_from sum throws 1 (stepped generator)
