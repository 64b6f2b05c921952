-- Fair rates when all want more (paper 02, S-8): "Given a threshold and up to 64 demands of 1 to 1024, listed by rising id, find
-- the largest level up to 1024 at which demands cut to that level fit the threshold. What is left goes one share each, by
-- rising id, to demands above the level." The field calls these max-min shares, found by filling up to a level (source document
-- 002). Demands stand in the order of their list, which is that of their ids, and so do the rates.
use Rattle.std.specs.Prelude.{ℕ, zero, suc, ◌+◌, ◌-◌, min, Bool, true, false, cond, ◌&&◌, List, [], ◌∷◌, leb, ltb, length}
use Rattle.definitions.specs.declared.Answer.{Answer}
use Rattle.definitions.specs.declared.Answer.TheVariants.{Accepted, Refused}
use Rattle.definitions.specs.Sizes.{ids, shares}
use Rattle.definitions.specs.Checks.{within}

-- "demands cut to that level", added up
unfoldable pub cut_sum : ℕ → List ℕ → ℕ
cut_sum level [] = 0
cut_sum level (d ∷ ds) = min d level + cut_sum level ds

-- "fit the threshold"
unfoldable pub fits : ℕ → List ℕ → ℕ → Bool
fits threshold demands level = leb (cut_sum level demands) threshold

-- the largest number up to a highest one that passes a test, and 0 where none does
unfoldable pub largest_up_to : ℕ → (ℕ → Bool) → ℕ
largest_up_to zero test = zero
largest_up_to (suc n) test = cond (test (suc n)) (suc n) (largest_up_to n test)

-- "the largest level up to 1024"; at 0 nothing is asked for
unfoldable pub fair_level : ℕ → List ℕ → ℕ
fair_level threshold demands = largest_up_to shares (fits threshold demands)

-- "one share each .. to demands above the level", as long as some are left
unfoldable pub extra : ℕ → ℕ → ℕ → ℕ
extra level left demand = cond (ltb level demand) (min left 1) 0

-- the rates at a level, "by rising id"
unfoldable pub rates_at : ℕ → ℕ → List ℕ → List ℕ
rates_at level left [] = []
rates_at level left (d ∷ ds) = (min d level + extra level left d) ∷ rates_at level (left - extra level left d) ds

-- The rates. "An empty list gives no rates."
unfoldable pub fair_rates : ℕ → List ℕ → List ℕ
fair_rates threshold demands = rates_at level (threshold - cut_sum level demands) demands
  where
    level : ℕ
    level = fair_level threshold demands

-- "ids above 63 or not rising, a demand out of range": an id is at least the lowest that still rises
unfoldable pub entry_fits : ℕ → ℕ → ℕ → Bool
entry_fits lowest id demand = within 1 shares demand && (leb lowest id && ltb id ids)

-- "listed by rising id", one id to a demand
unfoldable pub listed_from : ℕ → List ℕ → List ℕ → Bool
listed_from lowest [] [] = true
listed_from lowest [] (d ∷ ds) = false
listed_from lowest (i ∷ is) [] = false
listed_from lowest (i ∷ is) (d ∷ ds) = entry_fits lowest i d && listed_from (suc i) is ds

-- "22, the only check, for a threshold outside 1..1024, a list over 64, ids above 63 or not rising, a demand out of range, or
-- more demands than shares in the threshold"
unfoldable pub acceptable : ℕ → List ℕ → List ℕ → Bool
acceptable threshold is ds =
    within 1 shares threshold && (leb (length ds) ids && (leb (length ds) threshold && listed_from 0 is ds))

-- the answer for a list that is accepted, or is not
abbrev pub fair_answer : Bool → Answer
fair_answer true = Accepted
fair_answer false = Refused 22
