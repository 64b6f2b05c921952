-- What is claimed of the fair rates (paper 02, S-8), over every list that is accepted. "Proved: no demand is exceeded; the
-- threshold is used up unless all demands are met; and whoever got less than demanded has at most one share less than anyone
-- else." And beyond the request: these leave no choice, with the order by rising id and that the rates fit the threshold; every
-- demand gets a share; a larger threshold takes from nobody; raising one's own demand never lowers one's own rate.
use Rattle.std.specs.Prelude.{ℕ, ◌+◌, ◌≤◌, ◌<◌, ◌≡◌, ◌⊎◌, List, [], ◌∷◌, T, length, get_or, set}
use Rattle.definitions.specs.FairRates.{fair_rates, acceptable}

-- the k-th number of a list of demands, or of rates
abbrev pub at : List ℕ → ℕ → ℕ
at numbers k = get_or numbers k 0

unfoldable pub sum : List ℕ → ℕ
sum [] = 0
sum (n ∷ ns) = n + sum ns

-- when rates for demands are fair, whoever found them
pub record Fair (threshold : ℕ) (demands rates : List ℕ) : Type 0 where
  pub one_each : length rates ≡ length demands
  -- "no demand is exceeded"
  pub none_exceeded : (k : ℕ) → at rates k ≤ at demands k
  pub within_threshold : sum rates ≤ threshold
  -- "the threshold is used up unless all demands are met"
  pub used_up : (sum rates ≡ threshold) ⊎ (rates ≡ demands)
  -- "whoever got less than demanded has at most one share less than anyone else"
  pub one_share_less : (k other : ℕ) → at rates k < at demands k → at rates other ≤ at rates k + 1
  -- "by rising id": and no less than anyone behind
  pub earlier_first : (k later : ℕ) → k < later → at rates k < at demands k → at rates later ≤ at rates k

unfoldable pub AreFair : Type 0
AreFair =
    (threshold : ℕ) (ids demands : List ℕ)
    → T (acceptable threshold ids demands)
    → Fair threshold demands (fair_rates threshold demands)

-- no other rates are fair, so nobody needs to know of a level
unfoldable pub OnlyOne : Type 0
OnlyOne =
    (threshold : ℕ) (demands rates others : List ℕ)
    → Fair threshold demands rates
    → Fair threshold demands others
    → rates ≡ others

-- every demand gets at least one share
unfoldable pub EveryServed : Type 0
EveryServed =
    (threshold : ℕ) (ids demands : List ℕ)
    → T (acceptable threshold ids demands)
    → (k : ℕ)
    → k < length demands
    → 1 ≤ at (fair_rates threshold demands) k

-- a larger threshold takes from nobody
unfoldable pub MoreForAll : Type 0
MoreForAll =
    (threshold larger : ℕ) (ids demands : List ℕ)
    → T (acceptable threshold ids demands)
    → T (acceptable larger ids demands)
    → threshold ≤ larger
    → (k : ℕ)
    → at (fair_rates threshold demands) k ≤ at (fair_rates larger demands) k

-- raising one's own demand never lowers one's own rate
unfoldable pub OwnDemand : Type 0
OwnDemand =
    (threshold : ℕ) (ids demands : List ℕ) (k more : ℕ)
    → T (acceptable threshold ids demands)
    → T (acceptable threshold ids (set demands k more))
    → at demands k ≤ more
    → at (fair_rates threshold demands) k ≤ at (fair_rates threshold (set demands k more)) k
