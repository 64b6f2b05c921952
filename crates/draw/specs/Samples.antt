-- A sample of the code is one of the definitions: "the target, the new generator state and the number of steps taken"
-- (paper 02, S-1). Without a step nothing was drawn.
use Rattle.std.specs.Prelude.{ℕ, ◌≡◌, cond, List, [], ◌∷◌, eqb}
use Rattle.definitions.specs.Sample.{Sample}
use Rattle.generator.specs.declared.Generator.{Generator}
use Rattle.draw.specs.declared.Sample.{Sample as Given}

pub record SameSample (r : Given) (s : Sample) : Type 0 where
  pub target : r.target ≡ s.target
  pub sum : r.sum ≡ s.sum
  pub generator : r.generator.value ≡ s.generator
  pub steps : r.steps ≡ s.steps

-- the draws that a sample stands for: one, or none where no step was taken
abbrev pub draws_told : Given → List Sample
draws_told r =
    cond (eqb r.steps 0) []
    (record { target = r.target; sum = r.sum; generator = r.generator.value; steps = r.steps } ∷ [])

-- the sum of the rates in a draw; 0 where there was none
abbrev pub sum_of : List Sample → ℕ
sum_of [] = 0
sum_of (d ∷ draws) = d.sum

-- a sample of the code stands for some draws, and its sum for theirs, also where there was none
pub record StandsFor (r : Given) (draws : List Sample) : Type 0 where
  pub told : draws_told r ≡ draws
  pub sum : r.sum ≡ sum_of draws

-- the sample of no draw: the generator is as it was
abbrev pub Undrawn : Generator → Given → Type 0
Undrawn generator r = r ≡ record { target = 0; sum = 0; generator = generator; steps = 0 }
