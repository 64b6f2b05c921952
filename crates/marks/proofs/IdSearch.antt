-- Laws of the definitions' two searches through the ids, for any test: the first id at which it holds, and whether there is
-- one. Both are taken from the lowest id up, as a word's digits are, and each law is an induction on how many ids there are.
-- Assumes nothing.
use Prim.Native.Nat.{ℕ, zero, suc, ◌≤◌, ◌<◌, zero-le, suc-le-suc}
use mathlib.Core.Path.{◌≡◌, refl, ap, ap₂, ◌∙◌}
use mathlib.Core.Bool.{Bool, true, false, cond, ◌||◌, or_assoc}
use native.Mathlib.Nat.{le_of_suc-le-suc, not-suc-le-zero, le_antisymm, le_refl, lt_of_lt_of_le, lt_of_not-le}
use native.Mathlib.Omega.{arith}
use Rattle.definitions.proofs.Laws.Tests.{true-false}
use Rattle.definitions.specs.Draw.{first_from}
use Rattle.definitions.specs.Tick.{any_below}

-- ---- the first id

-- counted from one more, the first id is one more than that of the test moved down
first_from_shift : (id n : ℕ) (test : ℕ → Bool) → first_from (suc id) n test ≡ suc (first_from id n (λ j. test (suc j)))
unfolding first_from
first_from_shift id zero test = refl
first_from_shift id (suc n) test = go (test (suc id)) (first_from_shift (suc id) n test)
  where
    go : (b : Bool) → first_from (suc (suc id)) n test ≡ suc (first_from (suc id) n (λ j. test (suc j)))
        → elim b [ true ↦ suc id | false ↦ first_from (suc (suc id)) n test ]
        ≡ suc (elim b [ true ↦ id | false ↦ first_from (suc id) n (λ j. test (suc j)) ])
    go true e = refl
    go false e = e

-- the lowest id, or one more than the first of the others
pub first_from-suc : (n : ℕ) (test : ℕ → Bool)
    → first_from 0 (suc n) test ≡ cond (test 0) 0 (suc (first_from 0 n (λ j. test (suc j))))
unfolding first_from
first_from-suc n test = go (test 0)
  where
    go : (b : Bool) → elim b [ true ↦ 0 | false ↦ first_from 1 n test ] ≡ cond b 0 (suc (first_from 0 n (λ j. test (suc j))))
    go true = refl
    go false = first_from_shift 0 n test

-- it is one of the ids or the number past them
pub first_from_le : (n : ℕ) (test : ℕ → Bool) → first_from 0 n test ≤ n
unfolding first_from
first_from_le zero test = zero-le
first_from_le (suc n) test = rw first_from-suc (go (test 0) (first_from_le n (λ j. test (suc j))))
  where
    go : (b : Bool) {m : ℕ} → m ≤ n → cond b 0 (suc m) ≤ suc n
    go true l = zero-le
    go false l = suc-le-suc l

-- the test holds there
pub first_from_holds : (n : ℕ) (test : ℕ → Bool) → first_from 0 n test < n → test (first_from 0 n test) ≡ true
first_from_holds zero test l = absurd (not-suc-le-zero l)
first_from_holds (suc n) test l =
    rw first_from-suc (go (test 0) refl (first_from_holds n (λ j. test (suc j))) (rw first_from-suc at l))
  where
    go : (b : Bool) → test 0 ≡ b
        → (first_from 0 n (λ j. test (suc j)) < n → test (suc (first_from 0 n (λ j. test (suc j)))) ≡ true)
        → cond b 0 (suc (first_from 0 n (λ j. test (suc j)))) < suc n
        → test (cond b 0 (suc (first_from 0 n (λ j. test (suc j))))) ≡ true
    go true e h l = e
    go false e h l = h (le_of_suc-le-suc l)

-- and at no id before
pub first_from_before : (n : ℕ) (test : ℕ → Bool) (j : ℕ) → j < first_from 0 n test → test j ≡ false
unfolding first_from
first_from_before zero test j l = absurd (not-suc-le-zero l)
first_from_before (suc n) test j l =
    go (test 0) refl j (first_from_before n (λ i. test (suc i))) (rw first_from-suc at l)
  where
    go : (b : Bool) → test 0 ≡ b → (j : ℕ)
        → ((i : ℕ) → i < first_from 0 n (λ i. test (suc i)) → test (suc i) ≡ false)
        → j < cond b 0 (suc (first_from 0 n (λ i. test (suc i))))
        → test j ≡ false
    go true e j h l = absurd (not-suc-le-zero l)
    go false e zero h l = e
    go false e (suc j) h l = h j (le_of_suc-le-suc l)

-- and that says which it is: an id at which the test holds or the number past them all, and none before
pub first_from_is : (n : ℕ) (test : ℕ → Bool) (at : ℕ)
    → at ≤ n
    → (at < n → test at ≡ true)
    → ((j : ℕ) → j < at → test j ≡ false)
    → first_from 0 n test ≡ at
first_from_is n test at l holds before =
    le_antisymm
    (le_of_suc-le-suc (lt_of_not-le (λ (p : at < first_from 0 n test).
    true-false (holds (omega (arith, first_from_le n test))) (first_from_before n test at p))))
    (le_of_suc-le-suc (lt_of_not-le (λ (p : first_from 0 n test < at).
    true-false (first_from_holds n test (omega arith)) (before _ p))))

-- tests that agree on the ids find the same one
pub first_from_cong : (n : ℕ) (f g : ℕ → Bool) → ((j : ℕ) → j < n → f j ≡ g j) → first_from 0 n f ≡ first_from 0 n g
first_from_cong n f g same =
    first_from_is n f (first_from 0 n g) (first_from_le n g)
    (λ l. same _ l ∙ first_from_holds n g l)
    (λ j l. same j (lt_of_lt_of_le l (first_from_le n g)) ∙ first_from_before n g j l)

-- ---- whether there is one

pub any_below-suc : (n : ℕ) (test : ℕ → Bool) → any_below (suc n) test ≡ test 0 || any_below n (λ j. test (suc j))
unfolding any_below
any_below-suc zero test = go (test 0)
  where
    go : (b : Bool) → false || b ≡ b || false
    go true = refl
    go false = refl
any_below-suc (suc n) test =
    ap (λ (b : Bool). b || test (suc n)) (any_below-suc n test) ∙ or_assoc (test 0) (any_below n (λ j. test (suc j))) (test (suc n))

pub any_below_cong : (n : ℕ) (f g : ℕ → Bool) → ((j : ℕ) → j < n → f j ≡ g j) → any_below n f ≡ any_below n g
unfolding any_below
any_below_cong zero f g same = refl
any_below_cong (suc n) f g same =
    ap₂ ◌||◌ (any_below_cong n f g (λ j l. same j (omega arith))) (same n (le_refl (suc n)))
