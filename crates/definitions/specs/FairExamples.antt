-- Lists of demands and their rates, each worked out by hand: that the claims on fair rates are not empty, what their conditions
-- are for, what is not claimed, and both sides of the limits of 22 (paper 02, S-8).
use Rattle.std.specs.Prelude.{ℕ, zero, suc, ◌≤◌, ◌≡◌, true, false, List, [], ◌∷◌, T, length, replicate}
use Rattle.definitions.specs.Sizes.{ids}
use Rattle.definitions.specs.FairRates.{fair_rates, listed_from, acceptable}

-- so many ids from one on
abbrev pub ids_from : ℕ → ℕ → List ℕ
ids_from first zero = []
ids_from first (suc n) = first ∷ ids_from (suc first) n

-- rates that lists get which are accepted
pub record FairThere : Type 0 where
  -- cut to 4 the demands come to 9, cut to 5 to 11; the share that is left goes to the first above 4
  pub cut : (acceptable 10 (2 ∷ 5 ∷ 9 ∷ []) (8 ∷ 8 ∷ 1 ∷ []) ≡ true) × (fair_rates 10 (8 ∷ 8 ∷ 1 ∷ []) ≡ 5 ∷ 4 ∷ 1 ∷ [])
  -- a demand at the level is met, and gets nothing of what is left
  pub at_level : (acceptable 13 (2 ∷ 5 ∷ 9 ∷ []) (4 ∷ 8 ∷ 8 ∷ []) ≡ true) × (fair_rates 13 (4 ∷ 8 ∷ 8 ∷ []) ≡ 4 ∷ 5 ∷ 4 ∷ [])
  -- all are met, and 3 shares go to nobody
  pub met : (acceptable 20 (2 ∷ 5 ∷ 9 ∷ []) (8 ∷ 8 ∷ 1 ∷ []) ≡ true) × (fair_rates 20 (8 ∷ 8 ∷ 1 ∷ []) ≡ 8 ∷ 8 ∷ 1 ∷ [])
  -- as many demands as shares, and as many as there are ids
  pub a_share_each : (acceptable 3 (2 ∷ 5 ∷ 9 ∷ []) (1024 ∷ 2 ∷ 1 ∷ []) ≡ true) × (fair_rates 3 (1024 ∷ 2 ∷ 1 ∷ []) ≡ 1 ∷ 1 ∷ 1 ∷ [])
  pub all : (acceptable ids (ids_from 0 ids) (replicate ids 1024) ≡ true) × (fair_rates ids (replicate ids 1024) ≡ replicate ids 1)
  -- "An empty list gives no rates."
  pub empty : (acceptable 1 [] [] ≡ true) × (fair_rates 1 [] ≡ [])
  -- Not claimed: that others keep their rates when one demands more. Here the third demands 8 for 1, beside `cut`.
  pub others : (acceptable 10 (2 ∷ 5 ∷ 9 ∷ []) (8 ∷ 8 ∷ 8 ∷ []) ≡ true) × (fair_rates 10 (8 ∷ 8 ∷ 8 ∷ []) ≡ 4 ∷ 3 ∷ 3 ∷ [])

-- what the definition would give to lists that are refused
pub record FairNeeded : Type 0 where
  -- with more demands than shares somebody gets none
  pub unserved : (acceptable 1 (2 ∷ 5 ∷ []) (1 ∷ 1 ∷ []) ≡ false) × (fair_rates 1 (1 ∷ 1 ∷ []) ≡ 1 ∷ 0 ∷ [])
  -- above the highest level a threshold is not used up, though a demand is not met
  pub unused : (acceptable 1500 (2 ∷ []) (2000 ∷ []) ≡ false) × (fair_rates 1500 (2000 ∷ []) ≡ 1025 ∷ [])

-- "22, the only check": each limit from both sides, but for the length of a list, which never decides
pub record FairLimits : Type 0 where
  pub threshold : (acceptable 0 [] [] ≡ false) × (acceptable 1 [] [] ≡ true)
  pub threshold_above : (acceptable 1024 [] [] ≡ true) × (acceptable 1025 [] [] ≡ false)
  pub id : (acceptable 1 (63 ∷ []) (1 ∷ []) ≡ true) × (acceptable 1 (64 ∷ []) (1 ∷ []) ≡ false)
  pub rising : (acceptable 2 (4 ∷ 5 ∷ []) (1 ∷ 1 ∷ []) ≡ true) × (acceptable 2 (5 ∷ 5 ∷ []) (1 ∷ 1 ∷ []) ≡ false)
  pub demand : (acceptable 1 (0 ∷ []) (0 ∷ []) ≡ false) × (acceptable 1 (0 ∷ []) (1 ∷ []) ≡ true)
  pub demand_above : (acceptable 1 (0 ∷ []) (1024 ∷ []) ≡ true) × (acceptable 1 (0 ∷ []) (1025 ∷ []) ≡ false)
  pub shares : (acceptable 2 (4 ∷ 5 ∷ []) (1 ∷ 1 ∷ []) ≡ true) × (acceptable 1 (4 ∷ 5 ∷ []) (1 ∷ 1 ∷ []) ≡ false)
  -- "a list over 64" is refused for its ids as well: so many cannot rise and stay below 64
  pub long : (is ds : List ℕ) → T (listed_from 0 is ds) → length ds ≤ ids
  -- one id to a demand
  pub no_id : acceptable 2 (4 ∷ []) (1 ∷ 1 ∷ []) ≡ false
  pub no_demand : acceptable 2 (4 ∷ 5 ∷ []) (1 ∷ []) ≡ false
