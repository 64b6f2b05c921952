-- What a checked call gives: the number of a refusal and the core that it leaves, or what is done once every check is passed.
-- By induction over the checks. Assumes nothing.
use Prim.Native.Nat.{ℕ, ◌<◌}
use mathlib.Core.Path.{◌≡◌, refl}
use mathlib.Core.Logic.{◌≢◌, ◌⊎◌, inl, inr}
use mathlib.Core.Bool.{Bool, true, false, cond, not, ◌&&◌}
use mathlib.Core.List.{List, [], ◌∷◌}
use native.Mathlib.Omega.{arith}
use lib.Dec.{T}
use Rattle.definitions.specs.declared.Answer.{Answer}
use Rattle.definitions.specs.declared.Answer.TheVariants.{Accepted, Refused}
use Rattle.definitions.specs.State.{State, Core, running}
use Rattle.definitions.specs.Answers.{number, is_accepted}
use Rattle.definitions.specs.Checks.{Result, Check, accepted, refused, checked, unchanged}

-- that every check of a list is passed
abbrev pub Passed : List Check → Type 0
Passed [] = Unit {0}
Passed (c ∷ cs) = (c.passed ≡ true) × Passed cs

-- A checked call either is refused with some number and leaves the core that goes with it, or passes every check and is done.
pub checked-cases {ℓ} : (P : Result → Type ℓ) (cs : List Check) (left : ℕ → Core) (done : Result)
    → ((number : ℕ) → P (refused number (left number)))
    → (Passed cs → P done)
    → P (checked cs left done)
unfolding checked
checked-cases P [] left done kept passed = passed tt
checked-cases P (c ∷ cs) left done kept passed =
    go c.passed (λ e. checked-cases P cs left done kept (λ more. passed (e, more)))
  where
    go : (b : Bool)
        → (b ≡ true → P (checked cs left done))
        → P (cond b (checked cs left done) (refused c.number (left c.number)))
    go true rest = rest refl
    go false rest = kept c.number

-- two results of the same checks: what relates their refusals and what is done relates the results
pub checked_rel {ℓ} : (R : Result → Result → Type ℓ) (cs : List Check) (b b' : ℕ → Core) (d d' : Result)
    → ((n : ℕ) → R (refused n (b n)) (refused n (b' n))) → R d d' → R (checked cs b d) (checked cs b' d')
unfolding checked
checked_rel R [] b b' d d' r e = e
checked_rel R (c ∷ cs) b b' d d' r e = go c.passed (checked_rel R cs b b' d d' r e)
  where
    go : (x : Bool) → R (checked cs b d) (checked cs b' d')
        → R (cond x (checked cs b d) (refused c.number (b c.number)))
        (cond x (checked cs b' d') (refused c.number (b' c.number)))
    go true rest = rest
    go false rest = r c.number

-- a refusal is not an acceptance
pub refused_differs : {a : Answer} {n : ℕ} → a ≡ Refused n → a ≢ Accepted
refused_differs e d = let z : ◌≡◌ {A = ℕ} 0 1 = cc in omega arith

-- a call that is accepted would be so whatever a refusal left
pub checked_anyway : (cs : List Check) (left other : ℕ → Core) (s : State)
    → (checked cs left (accepted s)).answer ≡ Accepted
    → checked cs other (accepted s) ≡ accepted s
checked_anyway cs left other s =
    checked_rel (λ r q. r.answer ≡ Accepted → q ≡ accepted s) cs left other (accepted s) (accepted s)
    (λ n e. absurd (refused_differs refl e))
    (λ e. refl)

-- and it has the core that was to be made
pub checked-accepted : (cs : List Check) (left : ℕ → Core) (s : State)
    → (checked cs left (accepted s)).answer ≡ Accepted
    → checked cs left (accepted s) ≡ accepted s
checked-accepted cs left = checked_anyway cs left left

-- and one that is not keeps the core, where every refusal does
pub checked-kept : (cs : List Check) (before : Core) (s : State)
    → (checked cs (unchanged before) (accepted s)).answer ≢ Accepted
    → (checked cs (unchanged before) (accepted s)).core ≡ before
checked-kept cs before s =
    checked-cases (λ r. r.answer ≢ Accepted → r.core ≡ before) cs (unchanged before) (accepted s)
    (λ n e. refl)
    (λ passed e. absurd (e refl))

-- that of a list of checks the first that fails has the number
abbrev pub FailsFirst : ℕ → List Check → Type 0
FailsFirst n [] = ⊥
FailsFirst n (c ∷ cs) = ((c.passed ≡ false) × (c.number ≡ n)) ⊎ ((c.passed ≡ true) × FailsFirst n cs)

-- a refusal tells which check failed
pub checked_first : (n : ℕ) (cs : List Check) (left : ℕ → Core) (s : State)
    → 0 < n
    → number (checked cs left (accepted s)).answer ≡ n
    → FailsFirst n cs
unfolding checked number
checked_first n [] left s positive e = omega arith
checked_first n (c ∷ cs) left s positive e = go c.passed (checked_first n cs left s positive) e
  where
    go : (b : Bool)
        → (number (checked cs left (accepted s)).answer ≡ n → FailsFirst n cs)
        → number (cond b (checked cs left (accepted s)) (refused c.number (left c.number))).answer ≡ n
        → ((b ≡ false) × (c.number ≡ n)) ⊎ ((b ≡ true) × FailsFirst n cs)
    go true rest e = inr (refl, rest e)
    go false rest e = inl (refl, e)

-- A call that keeps the core or, where it is accepted, is none that resets: what holds of the core as it was, and of the core
-- that such a call makes, holds of the core after it. What holds may tell whether an arrival was accepted.
pub checked_spared : (P : Bool → Core → Type 0) (s : State) (reset arrival : Bool) (cs : List Check) (made : State)
    → P false (running s)
    → (Passed cs → reset ≡ false → P arrival (running made))
    → T (not (reset && is_accepted (checked cs (unchanged (running s)) (accepted made)).answer))
    → P (arrival && is_accepted (checked cs (unchanged (running s)) (accepted made)).answer)
    (checked cs (unchanged (running s)) (accepted made)).core
unfolding is_accepted
checked_spared P s reset arrival cs made kept done =
    checked-cases (λ r. T (not (reset && is_accepted r.answer)) → P (arrival && is_accepted r.answer) r.core)
    cs (unchanged (running s)) (accepted made)
    (λ number spared. refusal arrival)
    (λ passed spared. acceptance arrival reset spared (done passed))
  where
    refusal : (a : Bool) → P (a && false) (running s)
    refusal true = kept
    refusal false = kept

    acceptance : (a r : Bool) → T (not (r && true)) → (r ≡ false → P a (running made)) → P (a && true) (running made)
    acceptance true true t m = absurd t
    acceptance true false t m = m refl
    acceptance false true t m = absurd t
    acceptance false false t m = m refl
