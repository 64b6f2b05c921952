-- A walk over the demands, from a place on: what the definitions give for the rest of the list, one demand at a time, and what
-- they give for none. Assumes nothing.
use Prim.Native.Nat.{ℕ, suc, ◌+◌, ◌-◌, ◌*◌, ◌≤◌, ◌<◌, min}
use native.Mathlib.Nat.{le_trans, mul-le-mul_left, mul-le-mul_right}
use native.Mathlib.Omega.{arith}
use native.Mathlib.Numerals.{add-one}
use mathlib.Core.Path.{◌≡◌, refl, ap, ◌∙◌}
use mathlib.Core.Bool.{true, false, ◌&&◌, and-false}
use mathlib.Core.List.{List, [], ◌∷◌}
use lib.Dec.{leb, ltb}
use lib.ListN.{length, get_or, set, drop, drop_of_length-le}
use lib.Seq.{drop-cons, sets}
use borrow.Author.Tests.{ltb-true}
use Rattle.definitions.specs.Sizes.{ids, shares}
use Rattle.definitions.specs.Checks.{within}
use Rattle.definitions.specs.FairRates.{cut_sum, extra, rates_at, entry_fits, listed_from}
use Rattle.definitions.proofs.Laws.Tests.{and_both}
use Rattle.definitions.proofs.Fairness.Level.{cut_sum_bound}

module _ (ds : List ℕ) (i : ℕ) (more : i < length ds) where
  next : drop i ds ≡ get_or ds i 0 ∷ drop (i + 1) ds
  next = rw add-one (drop-cons ds i 0 more)

  pub cut-next : (level : ℕ) → cut_sum level (drop i ds) ≡ min (get_or ds i 0) level + cut_sum level (drop (i + 1) ds)
  unfolding cut_sum
  cut-next level = ap (cut_sum level) next

  pub rates-next : (level left : ℕ) (room : List ℕ)
      → sets room i (rates_at level left (drop i ds))
      ≡ sets (set room i (min (get_or ds i 0) level + extra level left (get_or ds i 0))) (i + 1)
      (rates_at level (left - extra level left (get_or ds i 0)) (drop (i + 1) ds))
  unfolding rates_at
  rates-next level left room = ap (λ (rest : List ℕ). sets room i (rates_at level left rest)) next ∙ rw add-one

-- an entry of a list, and the end of one
pub listed_turn : (lowest id demand : ℕ) (is ds : List ℕ) {xs ys : List ℕ} → xs ≡ id ∷ is → ys ≡ demand ∷ ds
    → listed_from lowest xs ys ≡ (entry_fits lowest id demand && listed_from (id + 1) is ds)
unfolding listed_from
listed_turn lowest id demand is ds e f = rw (e, f, add-one)

pub listed_end : (lowest : ℕ) (xs ys : List ℕ) → length xs ≡ length ys → length xs ≡ 0 → listed_from lowest xs ys ≡ true
unfolding listed_from
listed_end lowest [] [] same none = refl
listed_end lowest [] (y ∷ ys) same none = absurd (omega arith)
listed_end lowest (x ∷ xs) ys same none = absurd (omega arith)

pub entry_low : (lowest id demand : ℕ) → entry_fits lowest id demand ≡ true → id < ids
unfolding entry_fits
entry_low lowest id demand e =
    ltb-true id ids (and_both (leb lowest id) (ltb id ids) (and_both (within 1 shares demand) _ e).1).1

pub cut-none : (ds : List ℕ) (i level : ℕ) → length ds ≤ i → cut_sum level (drop i ds) ≡ 0
unfolding cut_sum
cut-none ds i level past = ap (cut_sum level) (drop_of_length-le ds past)

pub rates-none : (ds : List ℕ) (i level left : ℕ) (room : List ℕ) → length ds ≤ i
    → sets room i (rates_at level left (drop i ds)) ≡ room
unfolding rates_at
rates-none ds i level left room past = ap (λ (rest : List ℕ). sets room i (rates_at level left rest)) (drop_of_length-le ds past)

pub listed_unequal : (is ds : List ℕ) (lowest : ℕ) → (length is ≡ length ds → ⊥) → listed_from lowest is ds ≡ false
unfolding listed_from
listed_unequal [] [] lowest differ = absurd (differ refl)
listed_unequal [] (d ∷ ds) lowest differ = refl
listed_unequal (i ∷ is) [] lowest differ = refl
listed_unequal (i ∷ is) (d ∷ ds) lowest differ =
    rw (listed_unequal is ds (suc i) (λ e. differ (ap suc e))) (and-false (entry_fits lowest i d))

-- what is cut to a level comes to no more than that level for each id
pub cut_fits : (ds : List ℕ) (level : ℕ) → length ds ≤ ids → level ≤ shares → cut_sum level ds ≤ ids * shares
cut_fits ds level few low =
    le_trans (cut_sum_bound ds level) (le_trans (mul-le-mul_right level few) (mul-le-mul_left ids low))
