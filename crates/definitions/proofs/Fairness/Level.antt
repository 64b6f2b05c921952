-- The level of the fair rates is the largest at which the demands fit: what is cut to a lower level comes to no more. Assumes
-- nothing.
use Prim.Native.Nat.{ℕ, zero, suc, ◌*◌, ◌≤◌, ◌<◌, min}
use mathlib.Core.Path.{◌≡◌, refl, ap, ◌∙◌}
use mathlib.Core.Bool.{Bool, true, false, cond}
use mathlib.Core.List.{List, [], ◌∷◌}
use native.Mathlib.Nat.{suc-mul}
use native.Mathlib.Omega.{arith}
use lib.ListN.{length, get_or, set}
use borrow.Author.Tests.{leb-true, leb-false, le-leb}
use Rattle.definitions.specs.Sizes.{shares}
use Rattle.definitions.specs.FairRates.{cut_sum, fits, largest_up_to, fair_level}
use Rattle.definitions.proofs.Laws.Tests.{lt_cases, last_cases, cond_both}

-- ---- demands that are cut

pub cut_sum_more : (ds : List ℕ) {low high : ℕ} → low ≤ high → cut_sum low ds ≤ cut_sum high ds
unfolding cut_sum
cut_sum_more [] h = omega arith
cut_sum_more (d ∷ ds) h = omega (arith, cut_sum_more ds h)

pub cut_sum_bound : (ds : List ℕ) (level : ℕ) → cut_sum level ds ≤ length ds * level
unfolding cut_sum
cut_sum_bound [] level = omega arith
cut_sum_bound (d ∷ ds) level = omega (arith, cut_sum_bound ds level, suc-mul (length ds) level)

pub cut_sum-zero : (ds : List ℕ) → cut_sum 0 ds ≡ 0
cut_sum-zero ds = omega (arith, cut_sum_bound ds 0)

-- another demand that is cut to the same leaves the sum as it was
pub cut_sum-set : (ds : List ℕ) (k d level : ℕ) → min d level ≡ min (get_or ds k 0) level
    → cut_sum level (set ds k d) ≡ cut_sum level ds
unfolding cut_sum
cut_sum-set [] k d level same = refl
cut_sum-set (x ∷ ds) zero d level same = omega arith
cut_sum-set (x ∷ ds) (suc k) d level same = omega (arith, cut_sum-set ds k d level same)

-- ---- the largest number that passes a test

pub largest_top : (n : ℕ) (test : ℕ → Bool) → largest_up_to n test ≤ n
unfolding largest_up_to
largest_top zero test = omega arith
largest_top (suc n) test =
    cond_both (λ m. m ≤ suc n) (test (suc n)) (omega arith) (omega (arith, largest_top n test))

pub largest_passes : (n : ℕ) (test : ℕ → Bool) → test 0 ≡ true → test (largest_up_to n test) ≡ true
unfolding largest_up_to
largest_passes zero test first = first
largest_passes (suc n) test first = go (test (suc n)) refl (largest_passes n test first)
  where
    go : (b : Bool)
        → test (suc n) ≡ b
        → test (largest_up_to n test) ≡ true
        → test (cond b (suc n) (largest_up_to n test)) ≡ true
    go true e below = e
    go false e below = below

pub largest_last : (n : ℕ) (test : ℕ → Bool) (m : ℕ) → largest_up_to n test < m → m ≤ n → test m ≡ false
unfolding largest_up_to
largest_last zero test m above top = absurd (omega arith)
largest_last (suc n) test m above top = go (test (suc n)) refl above (λ less below. largest_last n test m less below)
  where
    go : (b : Bool)
        → test (suc n) ≡ b
        → cond b (suc n) (largest_up_to n test) < m
        → (largest_up_to n test < m → m ≤ n → test m ≡ false)
        → test m ≡ false
    go true e less before = absurd (omega arith)
    go false e less before =
        last_cases m (suc n) (omega arith) (λ at. ap test at ∙ e) (λ below. before less (omega arith))

-- ---- the level

pub level_top : (threshold : ℕ) (ds : List ℕ) → fair_level threshold ds ≤ shares
unfolding fair_level
level_top threshold ds = largest_top shares (fits threshold ds)

pub level-fits : (threshold : ℕ) (ds : List ℕ) → cut_sum (fair_level threshold ds) ds ≤ threshold
unfolding fair_level fits
level-fits threshold ds =
    leb-true (cut_sum (fair_level threshold ds) ds) threshold
    (largest_passes shares (fits threshold ds) (le-leb (cut_sum 0 ds) threshold (omega (arith, cut_sum-zero ds))))

pub level_last : (threshold : ℕ) (ds : List ℕ) (m : ℕ) → fair_level threshold ds < m → m ≤ shares → threshold < cut_sum m ds
unfolding fair_level fits
level_last threshold ds m above top =
    leb-false (cut_sum m ds) threshold (largest_last shares (fits threshold ds) m above top)

-- a level at which they fit is at most the largest
pub level_reaches : (threshold : ℕ) (ds : List ℕ) (m : ℕ) → m ≤ shares → cut_sum m ds ≤ threshold → m ≤ fair_level threshold ds
level_reaches threshold ds m top fit =
    lt_cases (fair_level threshold ds) m (λ above. absurd (omega (arith, level_last threshold ds m above top))) (λ h. h)

-- one at which they fit, and above which they do not, is the largest
pub level_is_lem : (threshold : ℕ) (ds : List ℕ) (m : ℕ)
    → m ≤ shares
    → cut_sum m ds ≤ threshold
    → (m < shares → threshold < cut_sum (suc m) ds)
    → fair_level threshold ds ≡ m
level_is_lem threshold ds m top fit last =
    let reach = level_reaches threshold ds m top fit in
    lt_cases m (fair_level threshold ds)
    (λ above. absurd (omega (
      arith,
      last (omega (arith, level_top threshold ds)),
      level-fits threshold ds,
      cut_sum_more ds {low = suc m} {high = fair_level threshold ds} above,
    )))
    (λ h. omega arith)
