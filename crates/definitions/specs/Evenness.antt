-- Even odds (paper 02, S-1): "the plain remainder favours low targets by a hair"; the values that count favour none.
-- Claimed for any sum: of the numbers that are not thrown away, as many give one target as give another. The ninth value, which
-- counts as it is, is outside the claim; with a sum of rates and a first value of 32 bits no draw comes to it (`AtMostTwoSteps`).
use Rattle.std.specs.Prelude.{ℕ, zero, suc, ◌+◌, ◌/◌, ◌%◌, ◌^◌, ◌≤◌, ◌<◌, ◌≡◌, cond, eqb}
use Rattle.definitions.specs.Sizes.{shares, throws}
use Rattle.definitions.specs.Generator.{stepped}
use Rattle.definitions.specs.Sample.{Sample, even_span, counted, sample}
use Rattle.definitions.specs.Draw.{sum_below}

-- how many numbers below n give a target
unfoldable pub giving : ℕ → ℕ → ℕ → ℕ
giving sum target n = sum_below n (λ value. cond (eqb (counted sum 1 value).target target) 1 0)

abbrev pub EvenOdds : Type 0
EvenOdds = (sum target : ℕ) → target < sum → giving sum target (even_span sum) ≡ 2 ^ 32 / sum

-- a generator that is stepped so often
unfoldable pub stepped_by : ℕ → ℕ → ℕ
stepped_by zero generator = generator
stepped_by (suc n) generator = stepped (stepped_by n generator)

-- a sample of at least and at most so many steps: its generator is that many steps on, and gives the target
pub record Sampled (sum generator least most : ℕ) (s : Sample) : Type 0 where
  pub steps_low : least ≤ s.steps
  pub steps_high : s.steps ≤ most
  pub generator_is : s.generator ≡ stepped_by s.steps generator
  pub target_is : s.target ≡ s.generator % sum

-- "The draw now gives the target, the new generator state and the number of steps taken": one step, and one more for each throw,
-- of which there are at most eight. For any sum and any generator.
abbrev pub Sampling : Type 0
Sampling = (sum generator : ℕ) → Sampled sum generator 1 (1 + throws) (sample sum generator)

-- With a sum of rates, so one from 1 to 1024, no two values in a row are thrown away, if the first has 32 bits.
-- The first entry of `samples` (Cases) takes two steps.
abbrev pub AtMostTwoSteps : Type 0
AtMostTwoSteps =
    (sum generator : ℕ) → 0 < sum → sum ≤ shares → stepped generator < 2 ^ 32 → (sample sum generator).steps ≤ 2
