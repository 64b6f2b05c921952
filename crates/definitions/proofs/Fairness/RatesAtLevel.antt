-- The rates at a level, whatever is left for them: what one comes to, what all come to, and what more or less to give changes.
-- By going along the demands; above the level or not decides each. Assumes nothing.
use Prim.Native.Nat.{ℕ, zero, suc, ◌+◌, ◌-◌, ◌≤◌, ◌<◌, min}
use mathlib.Core.Path.{◌≡◌, refl, ap}
use mathlib.Core.List.{List, [], ◌∷◌}
use native.Mathlib.Omega.{arith}
use lib.ListN.{length, get_or, set}
use borrow.Author.Tests.{lt-ltb, le-ltb}
use Rattle.definitions.specs.FairRates.{cut_sum, extra, rates_at}
use Rattle.definitions.specs.Fairness.{sum}
use Rattle.definitions.proofs.Laws.Tests.{lt_cases}
use Rattle.definitions.proofs.Fairness.Level.{cut_sum_more}

extra_above : (level left d : ℕ) → level < d → extra level left d ≡ min left 1
unfolding extra
extra_above level left d h = rw (lt-ltb level d h)

extra_below : (level left d : ℕ) → d ≤ level → extra level left d ≡ 0
unfolding extra
extra_below level left d h = rw (le-ltb level d h)

-- to show something of a demand at a level, show it above the level and not above it
by_level : {P : Type 0} (level left d : ℕ)
    → (level < d → extra level left d ≡ min left 1 → P)
    → (d ≤ level → extra level left d ≡ 0 → P)
    → P
by_level level left d above below =
    lt_cases level d (λ h. above h (extra_above level left d h)) (λ h. below h (extra_below level left d h))

pub rates-length : (level left : ℕ) (ds : List ℕ) → length (rates_at level left ds) ≡ length ds
unfolding rates_at
rates-length level left [] = refl
rates-length level left (d ∷ ds) = ap suc (rates-length level (left - extra level left d) ds)

-- All together: as much as there is, but not more than the demands cut to the next level.
pub rates-sum : (level left : ℕ) (ds : List ℕ)
    → sum (rates_at level left ds) ≡ min (cut_sum level ds + left) (cut_sum (suc level) ds)
unfolding rates_at cut_sum sum
rates-sum level left [] = omega arith
rates-sum level left (d ∷ ds) =
    let behind = rates-sum level (left - extra level left d) ds in
    let more = cut_sum_more ds {low = level} {high = suc level} (omega arith) in
    by_level level left d (λ above e. omega arith) (λ below e. omega arith)

-- One of them: at least the demand cut to the level, and at most the demand cut to the next.
pub rate_low_lem : (level left : ℕ) (ds : List ℕ) (k : ℕ) → min (get_or ds k 0) level ≤ get_or (rates_at level left ds) k 0
unfolding rates_at
rate_low_lem level left [] k = omega arith
rate_low_lem level left (d ∷ ds) zero = omega arith
rate_low_lem level left (d ∷ ds) (suc k) = rate_low_lem level (left - extra level left d) ds k

pub rate_high_lem : (level left : ℕ) (ds : List ℕ) (k : ℕ) → get_or (rates_at level left ds) k 0 ≤ min (get_or ds k 0) (suc level)
unfolding rates_at
rate_high_lem level left [] k = omega arith
rate_high_lem level left (d ∷ ds) zero = by_level level left d (λ above e. omega arith) (λ below e. omega arith)
rate_high_lem level left (d ∷ ds) (suc k) = rate_high_lem level (left - extra level left d) ds k

-- with nothing left nobody is above the level
pub rate_bare : (level : ℕ) (ds : List ℕ) (k : ℕ) → get_or (rates_at level 0 ds) k 0 ≤ level
unfolding rates_at
rate_bare level [] k = omega arith
rate_bare level (d ∷ ds) zero = by_level level 0 d (λ above e. omega arith) (λ below e. omega arith)
rate_bare level (d ∷ ds) (suc k) =
    let none : 0 - extra level 0 d ≡ 0 = omega arith in
    rw none (rate_bare level ds k)

-- who comes first and is not served has at least as much as who comes later
pub rate_first : (level left : ℕ) (ds : List ℕ) (k later : ℕ) → k < later
    → get_or (rates_at level left ds) k 0 < get_or ds k 0
    → get_or (rates_at level left ds) later 0 ≤ get_or (rates_at level left ds) k 0
unfolding rates_at
rate_first level left [] k later order less = omega arith
rate_first level left (d ∷ ds) k zero order less = absurd (omega arith)
rate_first level left (d ∷ ds) (suc k) (suc later) order less =
    rate_first level (left - extra level left d) ds k later (omega arith) less
rate_first level zero (d ∷ ds) zero (suc later) order less =
    let none : zero - extra level zero d ≡ 0 = omega arith in
    rw none (by_level level zero d (λ above e. omega (arith, rate_bare level ds later)) (λ below e. absurd (omega arith)))
rate_first level (suc left) (d ∷ ds) zero (suc later) order less =
    by_level level (suc left) d
    (λ above e. omega (arith, rate_high_lem level (suc left - extra level (suc left) d) ds later))
    (λ below e. absurd (omega arith))

-- more to give takes from nobody
pub rate_more : (level : ℕ) {left more : ℕ} (ds : List ℕ) (k : ℕ) → left ≤ more
    → get_or (rates_at level left ds) k 0 ≤ get_or (rates_at level more ds) k 0
unfolding rates_at
rate_more level [] k h = omega arith
rate_more level {left} {more} (d ∷ ds) zero h =
    by_level level left d
    (λ above e. omega (arith, extra_above level more d above))
    (λ below e. omega (arith, extra_below level more d below))
rate_more level {left} {more} (d ∷ ds) (suc k) h =
    rate_more level {left = left - extra level left d} {more = more - extra level more d} ds k
    (by_level level left d
    (λ above e. omega (arith, extra_above level more d above))
    (λ below e. omega (arith, extra_below level more d below)))

-- another demand above the level, for one above it, changes no rate
pub rates-set : (level left : ℕ) (ds : List ℕ) (k d : ℕ) → level < get_or ds k 0 → level < d
    → rates_at level left (set ds k d) ≡ rates_at level left ds
unfolding rates_at
rates-set level left [] k d was is = refl
rates-set level left (x ∷ ds) zero d was is =
    let cut : min d level ≡ min x level = omega arith in
    rw (cut, extra_above level left d is, extra_above level left x was)
rates-set level left (x ∷ ds) (suc k) d was is =
    ap (λ (rest : List ℕ). (min x level + extra level left x) ∷ rest) (rates-set level (left - extra level left x) ds k d was is)

-- where no demand is above the level, each is met
pub rates_met : (level left : ℕ) (ds : List ℕ) → ((k : ℕ) → get_or ds k 0 ≤ level) → rates_at level left ds ≡ ds
unfolding rates_at
rates_met level left [] low = refl
rates_met level left (d ∷ ds) low =
    let none = extra_below level left d (low 0) in
    let here : min d level + extra level left d ≡ d = omega (arith, low 0) in
    rw (here, rates_met level (left - extra level left d) ds (λ k. low (suc k)))
