-- What every call for an active client asks first, 19, 4 and 5, over control and tables: where one of these fails, its number
-- is the call's, and where none does, the id is active and the call's other checks decide. By cases on the three tests.
-- Assumes nothing.
use Prim.Native.Nat.{ℕ, ◌<◌}
use mathlib.Core.Path.{◌≡◌, refl, sym, ap, ◌∙◌}
use mathlib.Core.Logic.{◌≢◌}
use mathlib.Core.Bool.{Bool, true, false, cond}
use mathlib.Core.List.{List, []}
use native.Mathlib.Omega.{arith}
use lib.Dec.{ltb}
use borrow.Author.Tests.{ltb-true}
use Rattle.definitions.specs.Sizes.{ids}
use Rattle.definitions.specs.Client.{is_active}
use Rattle.definitions.specs.State.{State}
use Rattle.definitions.specs.Checks.{Check, active_checks}
use Rattle.definitions.specs.declared.Refusal.{Refusal}
use Rattle.definitions.specs.declared.Refusal.TheVariants.{Threshold, Discipline, Seed, Id, Inactive, Active, Kind, Rate, Burst, Rates, Indifferent, Pool, Length, Full, Drained, Unopened, Unfair}
use Rattle.definitions.specs.Refusals.{number_of, number_in}
use Rattle.std.specs.Prelude.{Result, Err}
use Rattle.tables.specs.declared.Control.{Control}
use Rattle.tables.specs.declared.Tables.{Tables}
use Rattle.tables.specs.Tables.{tables}
use Rattle.tables.specs.Meaning.{state_of}
use Rattle.tables.specs.Numbers.{first_failed, refusal}

-- no refusal has the number 0
pub refused_number : (r : Refusal) → number_of r ≢ 0
refused_number Threshold e = absurd (omega arith)
refused_number Discipline e = absurd (omega arith)
refused_number Seed e = absurd (omega arith)
refused_number Id e = absurd (omega arith)
refused_number Inactive e = absurd (omega arith)
refused_number Active e = absurd (omega arith)
refused_number Kind e = absurd (omega arith)
refused_number Rate e = absurd (omega arith)
refused_number Burst e = absurd (omega arith)
refused_number Rates e = absurd (omega arith)
refused_number Indifferent e = absurd (omega arith)
refused_number Pool e = absurd (omega arith)
refused_number Length e = absurd (omega arith)
refused_number Full e = absurd (omega arith)
refused_number Drained e = absurd (omega arith)
refused_number Unopened e = absurd (omega arith)
refused_number Unfair e = absurd (omega arith)

-- where some checks found a refusal, its number is that of the first that failed, and not 0
pub refused_as : {A : Type 0} {found : Result A Refusal} {r : Refusal} {n m : ℕ} → found ≡ Err r → n ≡ number_of r → number_in found ≡ m
    → (n ≡ m) × (n ≢ 0)
refused_as {found = found} {r = r} e is first = (is ∙ sym (ap number_in e) ∙ first, λ z. refused_number r (sym is ∙ z))

-- the number by the three tests, and by what is asked behind them
abbrev by_tests : Bool → Bool → Bool → ℕ → ℕ
by_tests opened below active rest = cond opened (cond below (cond active rest 5) 4) 19

-- where a call for an active client is refused with another number than 19 and 4, the core runs and there is such an id
pub active_past : (c : Control) (t : Tables) (id n : ℕ) (more : State → List Check)
    → n ≡ refusal c t (λ s. active_checks s id (more s))
    → n ≢ 19
    → n ≢ 4
    → (c.opened ≡ true) × (id < ids)
unfolding refusal first_failed active_checks
active_past c t id n more e runs known = go c.opened (ltb id ids) refl refl (λ f. runs (e ∙ f)) (λ f. known (e ∙ f))
  where
    rest : ℕ
    rest = cond (is_active ((state_of c t).clients id).kind) (first_failed (more (state_of c t))) 5

    go : (o b : Bool) → c.opened ≡ o → ltb id ids ≡ b → cond o (cond b rest 4) 19 ≢ 19 → cond o (cond b rest 4) 19 ≢ 4
        → (c.opened ≡ true) × (id < ids)
    go true true o b runs known = (o, ltb-true id ids b)
    go true false o b runs known = absurd (known refl)
    go false below o b runs known = absurd (runs refl)

module _ (c : Control) (id n : ℕ) (number : (t : Tables) → n ≡ refusal c t (λ s. active_checks s id [])) where
  abbrev active : Tables → Bool
  active t = is_active ((state_of c t).clients id).kind

  pub active_failed : (t : Tables) (more : State → List Check)
      → n ≢ 0
      → n ≡ refusal c t (λ s. active_checks s id (more s))
  unfolding refusal first_failed active_checks
  active_failed t more some =
      number t ∙ go c.opened (ltb id ids) (active t) (first_failed (more (state_of c t))) (λ z. some (number t ∙ z))
    where
      go : (o b a : Bool) (rest : ℕ) → by_tests o b a 0 ≢ 0 → by_tests o b a 0 ≡ by_tests o b a rest
      go true true true rest fails = absurd (fails refl)
      go true true false rest fails = refl
      go true false a rest fails = refl
      go false b a rest fails = refl

  module _ (none : n ≡ 0) where
    tests_passed : (t : Tables) → (c.opened ≡ true) × (ltb id ids ≡ true) × (active t ≡ true)
    unfolding refusal first_failed active_checks
    tests_passed t = go c.opened (ltb id ids) (active t) (sym (number t) ∙ none)
      where
        go : (o b a : Bool) → by_tests o b a 0 ≡ 0 → (o ≡ true) × (b ≡ true) × (a ≡ true)
        go true true true e = (refl, refl, refl)
        go true true false e = absurd (omega arith)
        go true false a e = absurd (omega arith)
        go false b a e = absurd (omega arith)

    pub active_opened : c.opened ≡ true
    active_opened = (tests_passed (tables [] [] [] [] [] [])).0

    pub active_below : id < ids
    active_below = ltb-true id ids (tests_passed (tables [] [] [] [] [] [])).1

    pub active_rest : (t : Tables) (more : State → List Check)
        → refusal c t (λ s. active_checks s id (more s)) ≡ first_failed (more (state_of c t))
    unfolding refusal first_failed active_checks
    active_rest t more = rw ((tests_passed t).2, (tests_passed t).1, (tests_passed t).0)
