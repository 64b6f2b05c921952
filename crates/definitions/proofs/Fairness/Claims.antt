-- What is claimed of the fair rates, from the laws of the level and of the rates at it. Assumes nothing.
use Prim.Native.Nat.{ℕ, zero, suc, ◌+◌, ◌-◌, ◌≤◌, ◌<◌, min}
use mathlib.Core.Path.{◌≡◌}
use mathlib.Core.Logic.{◌⊎◌, inl, inr}
use mathlib.Core.Bool.{◌&&◌}
use mathlib.Core.List.{List, [], ◌∷◌}
use native.Mathlib.Omega.{arith}
use lib.Dec.{T, leb, ltb, leb→le}
use lib.ListN.{length, get_or, set, get_or-eq_default}
use lib.Seq.{get_or-set_same}
use Rattle.definitions.specs.Sizes.{ids, shares}
use Rattle.definitions.specs.Checks.{within}
use Rattle.definitions.specs.FairRates.{cut_sum, fair_level, fair_rates, entry_fits, listed_from, acceptable}
use Rattle.definitions.specs.Fairness.{at, sum, AreFair, EveryServed, MoreForAll, OwnDemand}
use Rattle.definitions.proofs.Laws.Tests.{T_true, T_and, lt_cases, within-true}
use Rattle.definitions.proofs.Fairness.Level.{cut_sum_bound, cut_sum_more, cut_sum-set}
use Rattle.definitions.proofs.Fairness.Level.{level_top, level-fits, level_last, level_reaches, level_is_lem}
use Rattle.definitions.proofs.Fairness.RatesAtLevel.{rates-length, rates-sum, rate_low_lem, rate_high_lem, rate_first, rate_more}
use Rattle.definitions.proofs.Fairness.RatesAtLevel.{rates-set, rates_met}

-- ---- what a list that is accepted is

listed_range : (lowest : ℕ) (is ds : List ℕ) (k : ℕ)
    → T (listed_from lowest is ds)
    → k < length ds
    → (1 ≤ at ds k) × (at ds k ≤ shares)
unfolding listed_from entry_fits
listed_range lowest [] [] k listed here = absurd (omega arith)
listed_range lowest [] (d ∷ ds) k listed here = absurd listed
listed_range lowest (i ∷ is) [] k listed here = absurd listed
listed_range lowest (i ∷ is) (d ∷ ds) zero listed here =
    let entry = (T_and (entry_fits lowest i d) (listed_from (suc i) is ds) listed).0 in
    within-true 1 shares d (T_true (T_and (within 1 shares d) (leb lowest i && ltb i ids) entry).0)
listed_range lowest (i ∷ is) (d ∷ ds) (suc k) listed here =
    listed_range (suc i) is ds k (T_and (entry_fits lowest i d) (listed_from (suc i) is ds) listed).1 (omega arith)

-- ids that rise leave room for as many demands as there are above the lowest
pub listed-length : (lowest : ℕ) (is ds : List ℕ) → T (listed_from lowest is ds) → lowest ≤ ids → lowest + length ds ≤ ids
unfolding listed_from entry_fits
listed-length lowest [] [] listed low = omega arith
listed-length lowest [] (d ∷ ds) listed low = absurd listed
listed-length lowest (i ∷ is) [] listed low = absurd listed
listed-length lowest (i ∷ is) (d ∷ ds) listed low =
    let both = T_and (entry_fits lowest i d) (listed_from (suc i) is ds) listed in
    let order = T_and (leb lowest i) (ltb i ids) (T_and (within 1 shares d) _ both.0).1 in
    let rises = leb→le lowest i order.0 in
    let stays = leb→le (suc i) ids order.1 in
    omega (arith, listed-length (suc i) is ds both.1 stays)

-- what the check of a list says, part by part
pub accepted_parts : (threshold : ℕ) (is ds : List ℕ)
    → T (acceptable threshold is ds)
    → (length ds ≤ ids) × (length ds ≤ threshold) × T (listed_from 0 is ds)
unfolding acceptable
accepted_parts threshold is ds ok =
    let few = T_and (leb (length ds) ids) _ (T_and (within 1 shares threshold) _ ok).1 in
    let shared = T_and (leb (length ds) threshold) (listed_from 0 is ds) few.1 in
    (leb→le (length ds) ids few.0, leb→le (length ds) threshold shared.0, shared.1)

module _ (threshold : ℕ) (is ds : List ℕ) (ok : T (acceptable threshold is ds)) where
  few : length ds ≤ threshold
  few = (accepted_parts threshold is ds ok).1

  range : (k : ℕ) → k < length ds → (1 ≤ at ds k) × (at ds k ≤ shares)
  range k here = listed_range 0 is ds k (accepted_parts threshold is ds ok).2 here

  -- no demand is above the highest level, wherever one is or none
  top : (k : ℕ) → at ds k ≤ shares
  top k =
      lt_cases k (length ds)
      (λ here. (range k here).1)
      (λ past. omega (arith, get_or-eq_default ds 0 past))

-- ---- what is left at the level

abbrev spare : ℕ → List ℕ → ℕ
spare threshold ds = threshold - cut_sum (fair_level threshold ds) ds

module _ (threshold : ℕ) (ds : List ℕ) where
  abbrev level : ℕ
  level = fair_level threshold ds

  low : (k : ℕ) → min (at ds k) level ≤ at (fair_rates threshold ds) k
  unfolding fair_rates
  low k = rate_low_lem level (spare threshold ds) ds k

  high : (k : ℕ) → at (fair_rates threshold ds) k ≤ min (at ds k) (suc level)
  unfolding fair_rates
  high k = rate_high_lem level (spare threshold ds) ds k

  -- as much as the threshold has, but not more than the demands cut to the next level
  total : sum (fair_rates threshold ds) ≡ min threshold (cut_sum (suc level) ds)
  unfolding fair_rates
  total = omega (arith, rates-sum level (spare threshold ds) ds, level-fits threshold ds)

-- ---- the request's own, and the order

used : (threshold : ℕ) (is ds : List ℕ)
    → T (acceptable threshold is ds)
    → (sum (fair_rates threshold ds) ≡ threshold) ⊎ (fair_rates threshold ds ≡ ds)
unfolding fair_rates
used threshold is ds ok =
    lt_cases (fair_level threshold ds) shares
    (λ below.
    let last = level_last threshold ds (suc (fair_level threshold ds)) (omega arith) below in
    inl (omega (arith, total threshold ds)))
    (λ highest. inr (rates_met (fair_level threshold ds) (spare threshold ds) ds (λ k. omega (arith, top threshold is ds ok k))))

pub are_fair : AreFair
unfolding AreFair fair_rates
are_fair threshold is ds ok = record {
  one_each = rates-length (fair_level threshold ds) (spare threshold ds) ds;
  none_exceeded = λ k. omega (arith, high threshold ds k);
  within_threshold = omega (arith, total threshold ds);
  used_up = used threshold is ds ok;
  one_share_less = λ k other less. omega (arith, low threshold ds k, high threshold ds other);
  earlier_first = rate_first (fair_level threshold ds) (spare threshold ds) ds;
}

-- ---- beyond the request

-- at level 1 every demand takes a share, and there are as many
served_level : (threshold : ℕ) (is ds : List ℕ) → T (acceptable threshold is ds) → 1 ≤ fair_level threshold ds
unfolding shares
served_level threshold is ds ok =
    level_reaches threshold ds 1 (omega arith) (omega (arith, cut_sum_bound ds 1, few threshold is ds ok))

pub every_served : EveryServed
unfolding EveryServed
every_served threshold is ds ok k here =
    omega (arith, low threshold ds k, range threshold is ds ok k here, served_level threshold is ds ok)

-- a larger threshold has a higher level, or the same and more left
pub more_for_all_lem : MoreForAll
unfolding MoreForAll fair_rates
more_for_all_lem threshold larger is ds ok ok' h k =
    let fit = level-fits threshold ds in
    let reach = level_reaches larger ds (fair_level threshold ds) (level_top threshold ds) (omega arith) in
    lt_cases (fair_level threshold ds) (fair_level larger ds)
    (λ higher. omega (arith, high threshold ds k, low larger ds k))
    (λ least.
    let same : fair_level larger ds ≡ fair_level threshold ds = omega arith in
    rw same (rate_more (fair_level threshold ds) ds k (omega arith)))

module _ (threshold : ℕ) (ds : List ℕ) (k more : ℕ) (h : at ds k ≤ more) where
  abbrev raised : List ℕ
  raised = set ds k more

  -- who is met at the level stays met: the level does not fall below the old demand
  met_stays : k < length ds
      → at ds k ≤ shares
      → at ds k ≤ fair_level threshold ds
      → at (fair_rates threshold ds) k ≤ at (fair_rates threshold raised) k
  met_stays here top' met =
      let is : get_or (set ds k more) k 0 ≡ more = get_or-set_same ds k more 0 here in
      let same = cut_sum-set ds k more (at ds k) (omega arith) in
      let less = cut_sum_more ds {low = at ds k} {high = fair_level threshold ds} met in
      let reach = level_reaches threshold raised (at ds k) top' (omega (arith, level-fits threshold ds)) in
      omega (arith, high threshold ds k, low threshold raised k)

  -- for who is above the level nothing changes
  cut_stays : fair_level threshold ds < at ds k → fair_rates threshold raised ≡ fair_rates threshold ds
  unfolding fair_rates
  cut_stays above =
      let now = cut_sum-set ds k more (fair_level threshold ds) (omega arith) in
      let next = cut_sum-set ds k more (suc (fair_level threshold ds)) (omega arith) in
      let same : fair_level threshold raised ≡ fair_level threshold ds =
      level_is_lem threshold raised (fair_level threshold ds) (level_top threshold ds)
      (omega (arith, level-fits threshold ds))
      (λ low'. omega (arith, level_last threshold ds (suc (fair_level threshold ds)) (omega arith) low'))
      in
      rw (same, now) (rates-set (fair_level threshold ds) (spare threshold ds) ds k more above (omega arith))

pub own_demand_lem : OwnDemand
unfolding OwnDemand
own_demand_lem threshold is ds k more ok ok' h =
    lt_cases (fair_level threshold ds) (at ds k)
    (λ above. rw (cut_stays threshold ds k more h above) (omega arith))
    (λ met.
    lt_cases k (length ds)
    (λ here. met_stays threshold ds k more h here (top threshold is ds ok k) met)
    (λ past. omega (arith, high threshold ds k, get_or-eq_default ds 0 past)))
