-- Sums and searches over the first n ids. By induction on n. Assumes nothing.
use Prim.Native.Nat.{ℕ, zero, suc, ◌+◌, ◌≤◌, ◌<◌}
use mathlib.Core.Path.{◌≡◌, refl, sym, ap, ◌∙◌}
use mathlib.Core.Bool.{Bool, true, false, ◌||◌}
use native.Mathlib.Omega.{arith}
use Rattle.definitions.specs.Draw.{sum_below}
use Rattle.definitions.specs.Tick.{any_below}
use Rattle.definitions.proofs.Laws.Tests.{true-false, last_cases, or-false}

pub sum_below_same : (n : ℕ) (f g : ℕ → ℕ) → ((i : ℕ) → i < n → f i ≡ g i) → sum_below n f ≡ sum_below n g
unfolding sum_below
sum_below_same zero f g same = refl
sum_below_same (suc n) f g same =
    let here : f n ≡ g n = same n (omega arith) in
    let below : sum_below n f ≡ sum_below n g = sum_below_same n f g (λ i h. same i (omega arith)) in
    omega arith

pub sum_below-zero : (n : ℕ) (f : ℕ → ℕ) → ((i : ℕ) → i < n → f i ≡ 0) → sum_below n f ≡ 0
unfolding sum_below
sum_below-zero zero f none = refl
sum_below-zero (suc n) f none =
    let here : f n ≡ 0 = none n (omega arith) in
    let below : sum_below n f ≡ 0 = sum_below-zero n f (λ i h. none i (omega arith)) in
    omega arith

-- a sum of sums
pub sum_below_plus : (n : ℕ) (f g h : ℕ → ℕ) → ((i : ℕ) → i < n → h i ≡ f i + g i)
    → sum_below n h ≡ sum_below n f + sum_below n g
unfolding sum_below
sum_below_plus zero f g h both = refl
sum_below_plus (suc n) f g h both =
    let here : h n ≡ f n + g n = both n (omega arith) in
    let below : sum_below n h ≡ sum_below n f + sum_below n g = sum_below_plus n f g h (λ i l. both i (omega arith)) in
    omega arith

-- two sums of which each pair of terms comes to the same
pub sum_below_balance : (n : ℕ) (f g h k : ℕ → ℕ) → ((i : ℕ) → i < n → f i + g i ≡ h i + k i)
    → sum_below n f + sum_below n g ≡ sum_below n h + sum_below n k
sum_below_balance n f g h k same =
    sym (sum_below_plus n f g (λ i. f i + g i) (λ i l. refl)) ∙ sum_below_plus n h k (λ i. f i + g i) same

-- a sum of terms that are each at most another's is at most the other
pub sum_below_least : (n : ℕ) (f g : ℕ → ℕ) → ((i : ℕ) → i < n → f i ≤ g i) → sum_below n f ≤ sum_below n g
unfolding sum_below
sum_below_least zero f g least = omega arith
sum_below_least (suc n) f g least =
    omega (arith, least n (omega arith), sum_below_least n f g (λ i l. least i (omega arith)))

-- each of the summed is at most the sum
pub sum_below_part : (n i : ℕ) (f : ℕ → ℕ) → i < n → f i ≤ sum_below n f
unfolding sum_below
sum_below_part zero i f h = absurd (omega arith)
sum_below_part (suc n) i f h =
    last_cases i n h (λ at. omega (arith, ap f at)) (λ less. omega (arith, sum_below_part n i f less))

pub sum_below_more : (f : ℕ → ℕ) (m n : ℕ) → m ≤ n → sum_below m f ≤ sum_below n f
unfolding sum_below
sum_below_more f m zero h = let none : m ≡ 0 = omega arith in rw none (omega arith)
sum_below_more f m (suc n) h =
    last_cases m (suc n) (omega arith) (λ at. rw at (omega arith)) (λ less. omega (arith, sum_below_more f m n (omega arith)))

-- two sums that differ at one id differ as much as the id's own two numbers
pub sum_below_other : (n i : ℕ) (f g : ℕ → ℕ)
    → i < n
    → ((j : ℕ) → (j ≡ i → ⊥) → f j ≡ g j)
    → sum_below n f + g i ≡ sum_below n g + f i
unfolding sum_below
sum_below_other zero i f g h same = absurd (omega arith)
sum_below_other (suc n) i f g h same =
    last_cases i n h
    (λ at. omega (arith, ap f at, ap g at, sum_below_same n f g (λ j k. same j (λ q. omega arith))))
    (λ less. omega (arith, sum_below_other n i f g less same, same n (λ q. omega arith)))

pub any_below-true : (n : ℕ) (test : ℕ → Bool) → any_below n test ≡ true → (i : ℕ) × (i < n) × (test i ≡ true)
unfolding any_below
any_below-true zero test e = true-false e refl
any_below-true (suc n) test e = go (any_below n test) (any_below-true n test) e
  where
    go : (b : Bool)
        → (b ≡ true → (i : ℕ) × (i < n) × (test i ≡ true))
        → (b || test n) ≡ true
        → (i : ℕ) × (i < suc n) × (test i ≡ true)
    go true below e = let found = below refl in (found.0, omega (arith, found.1), found.2)
    go false below e = (n, omega arith, e)

pub any_below-false : (n : ℕ) (test : ℕ → Bool) → any_below n test ≡ false → (i : ℕ) → i < n → test i ≡ false
unfolding any_below
any_below-false zero test e i h = absurd (omega arith)
any_below-false (suc n) test e i h =
    let both = or-false (any_below n test) (test n) e in
    last_cases i n h (λ at. ap test at ∙ both.1) (any_below-false n test both.0 i)
