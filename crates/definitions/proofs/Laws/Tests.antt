-- What a test decides, over any arguments. Each holds by splitting the test. Assumes nothing.
use Prim.Native.Nat.{ℕ, suc, ◌≤◌, ◌<◌}
use Rattle.std.proofs.Common.{Less, Equal, Greater, is_le}
use Rattle.std.specs.Ordering.{nat_cmp}
use mathlib.Core.Path.{◌≡◌, refl, sym, ap₂, ◌∙◌}
use mathlib.Core.Logic.{◌⊎◌, inl, inr}
use mathlib.Core.Bool.{Bool, true, false, cond, ◌&&◌, ◌||◌, true≢false}
use native.Mathlib.Omega.{arith}
use lib.Dec.{T, eqb, leb, ltb}
use borrow.Author.Tests.{eqb-true, eqb-false, eq-eqb, ne_eqb, leb-true, ltb-true, ltb-false, lt-ltb, le-ltb, le-leb, lt-leb}
use Rattle.definitions.specs.Checks.{within}

pub T_true : {b : Bool} → T b → b ≡ true
T_true {b} = go b
  where
    go : (x : Bool) → T x → x ≡ true
    go true t = refl
    go false t = absurd t

pub true-false {ℓ} : {b : Bool} {A : Type ℓ} → b ≡ true → b ≡ false → A
true-false p q = absurd (true≢false (sym p ∙ q))

-- to show something of a test of equality, show it of both its values, each with what it says
pub eqb-cases {ℓ} : (P : Bool → Type ℓ) (a b : ℕ) → (a ≡ b → P true) → ((a ≡ b → ⊥) → P false) → P (eqb a b)
eqb-cases P a b same other = go (eqb a b) refl
  where
    go : (t : Bool) → eqb a b ≡ t → P t
    go true e = same (eqb-true a b e)
    go false e = other (eqb-false a b e)

pub lt_cases : {P : Type 0} (a b : ℕ) → (a < b → P) → (b ≤ a → P) → P
lt_cases {P} a b below above = go (ltb a b) refl
  where
    go : (t : Bool) → ltb a b ≡ t → P
    go true e = below (ltb-true a b e)
    go false e = above (ltb-false a b e)

-- the ids below n + 1 are n and those below n
pub last_cases : {P : Type 0} (i n : ℕ) → i < suc n → (i ≡ n → P) → (i < n → P) → P
last_cases {P} i n h last below = eqb-cases (λ t. P) i n last (λ ne. below (omega arith))

pub cond_both : {A : Type 0} (P : A → Type 0) (b : Bool) {x y : A} → P x → P y → P (cond b x y)
cond_both P true p q = p
cond_both P false p q = q

pub cond_same : {A : Type 0} (b : Bool) (x : A) → cond b x x ≡ x
cond_same true x = refl
cond_same false x = refl

pub T_and : (a b : Bool) → T (a && b) → T a × T b
T_and true b t = (tt, t)
T_and false b t = absurd t

pub T-or : (a b : Bool) → T (a || b) → T a ⊎ T b
T-or true b t = inl tt
T-or false b t = inr t

pub and_both : (a b : Bool) → (a && b) ≡ true → (a ≡ true) × (b ≡ true)
and_both true b e = (refl, e)
and_both false b e = true-false e refl

pub or-false : (a b : Bool) → (a || b) ≡ false → (a ≡ false) × (b ≡ false)
or-false true b e = true-false refl e
or-false false b e = (refl, e)

pub eqb_same : (a : ℕ) → eqb a a ≡ true
eqb_same a = eq-eqb a a refl

pub eqb_comm : (a b : ℕ) → eqb a b ≡ eqb b a
eqb_comm a b =
    eqb-cases (λ t. eqb a b ≡ t) b a (λ e. eq-eqb a b (sym e)) (λ ne. ne_eqb a b (λ e. ne (sym e)))

pub within-true : (low high x : ℕ) → within low high x ≡ true → (low ≤ x) × (x ≤ high)
unfolding within
within-true low high x e =
    let both = and_both (leb low x) (leb x high) e in
    (leb-true low x both.0, leb-true x high both.1)

-- the order of numbers as the library tells it
is_le-leb : (a b : ℕ) → is_le (nat_cmp a b) ≡ leb a b
is_le-leb a b =
    lt_cases a b
    (λ l. rw (lt-ltb a b l, le-leb a b (omega (arith, l))) refl)
    (λ h. eqb-cases (λ t. is_le (cond (ltb a b) Less (cond t Equal Greater)) ≡ leb a b) a b
    (λ e. rw (le-ltb a b h, le-leb a b (omega (arith, e))) refl)
    (λ ne. rw (le-ltb a b h, lt-leb a b (omega (arith, h, ne))) refl))

-- and whether it finds a number within two bounds
pub told_within : (low high x : ℕ) {b : Bool} → b ≡ (is_le (nat_cmp low x) && is_le (nat_cmp x high)) → within low high x ≡ b
unfolding within
told_within low high x e = sym (e ∙ ap₂ (λ (a b : Bool). a && b) (is_le-leb low x) (is_le-leb x high))
