-- The weighted draw (paper 01, "The calls": "a draw among all private clients, waiting or not").
-- A draw knows the generator and a weight for each id, and nothing else. An id that is not in the draw weighs 0, and
-- so is never drawn: the running sum does not grow at it.
use Rattle.std.specs.Prelude.{ℕ, zero, suc, ◌+◌, Bool, true, false, ltb}
use Rattle.definitions.specs.Sizes.{ids}
use Rattle.definitions.specs.Sample.{Sample, sample}

-- the weights of the first n ids together: the running sum
unfoldable pub sum_below : ℕ → (ℕ → ℕ) → ℕ
sum_below zero weight = 0
sum_below (suc n) weight = sum_below n weight + weight n

-- the first of n ids, counted up from id, at which a test holds; past them all if there is none
unfoldable pub first_from : ℕ → ℕ → (ℕ → Bool) → ℕ
first_from id zero test = id
first_from id (suc n) test = elim (test id) [ true ↦ id | false ↦ first_from (suc id) n test ]

-- "The client drawn is the first, by rising id, at which the running sum of rates exceeds the target."
unfoldable pub drawn_at : (ℕ → ℕ) → ℕ → ℕ
drawn_at weight target = first_from 0 ids (λ id. ltb target (sum_below (suc id) weight))

-- what a draw gives: the sample that it takes from the generator, and the id at its target
pub record Drawn : Type 0 where
  pub sample : Sample
  pub id : ℕ

abbrev pub drawn_by : (ℕ → ℕ) → Sample → Drawn
drawn_by weight s = record { sample = s; id = drawn_at weight s.target }

unfoldable pub draw : ℕ → (ℕ → ℕ) → Drawn
draw generator weight = drawn_by weight (sample (sum_below ids weight) generator)
