-- The tables of specs/Cases hold: P1 to P12, those of S-1, and the printout of the paper's script.
-- A test is computed over the whole table and lists the entries that fail, of which there are none; one law turns that into
-- the claim at each entry. A further entry of a table changes no line here. Assumes nothing.
use Prim.Native.Nat.{ℕ, suc}
use mathlib.Core.Path.{◌≡◌, refl, ap₂}
use mathlib.Core.Bool.{Bool, true, false, cond, ◌&&◌}
use mathlib.Core.List.{List, [], ◌∷◌, Memᴰ}
use lib.Dec.{eqb}
use borrow.Author.Tests.{eqb-true}
use Rattle.definitions.specs.Cases.{Case, Holds, ran, said, stream, target_at, waiting, opened, repeated, of_others, almost_full, cases, taken, samples, empty_buckets, printout}
use Rattle.definitions.proofs.Everything.{everything}
use Rattle.definitions.proofs.Laws.Tests.{and_both}

same_numbers : List ℕ → List ℕ → Bool
same_numbers [] [] = true
same_numbers [] (y ∷ ys) = false
same_numbers (x ∷ xs) [] = false
same_numbers (x ∷ xs) (y ∷ ys) = eqb x y && same_numbers xs ys

same_numbers_true : (xs ys : List ℕ) → same_numbers xs ys ≡ true → xs ≡ ys
unfolding same_numbers
same_numbers_true [] [] e = refl
same_numbers_true [] (y ∷ ys) e = cc
same_numbers_true (x ∷ xs) [] e = cc
same_numbers_true (x ∷ xs) (y ∷ ys) e =
    ap₂ (λ (z : ℕ) (zs : List ℕ). z ∷ zs) (eqb-true x y (and_both (eqb x y) (same_numbers xs ys) e).0)
    (same_numbers_true xs ys (and_both (eqb x y) (same_numbers xs ys) e).1)

-- the numbers of the entries that fail, counted from n
failing : ℕ → List Case → List ℕ
failing n [] = []
failing n (c ∷ cs) = cond (same_numbers c.given c.wanted) (failing (suc n) cs) (n ∷ failing (suc n) cs)

module _ (c : Case) (cs : List Case) (n : ℕ) (none : failing n (c ∷ cs) ≡ []) where
  -- where no entry fails, the first does not
  first_same : same_numbers c.given c.wanted ≡ true
  unfolding failing
  first_same = go (same_numbers c.given c.wanted) none
    where
      go : (b : Bool) → cond b (failing (suc n) cs) (n ∷ failing (suc n) cs) ≡ [] → b ≡ true
      go true e = refl
      go false e = cc

  -- and none of the others does
  rest_same : failing (suc n) cs ≡ []
  unfolding failing
  rest_same = rw first_same at none

holds : {c : Case} {table : List Case} (n : ℕ) → Memᴰ c table → failing n table ≡ [] → c.given ≡ c.wanted
holds n (Memᴰ.head {x} {xs} e) none = rw e (same_numbers_true x.given x.wanted (first_same x xs n none))
holds n (Memᴰ.tail {x} {xs} m) none = holds (suc n) m (rest_same x xs n none)

pub cases_hold : Holds cases
unfolding everything failing same_numbers ran said stream target_at waiting opened repeated of_others almost_full cases
cases_hold c m = holds 1 m refl

pub samples_hold : Holds samples
unfolding everything failing same_numbers taken samples
samples_hold c m = holds 1 m refl

pub empty_buckets_hold : Holds empty_buckets
unfolding everything failing same_numbers ran said opened empty_buckets
empty_buckets_hold c m = holds 1 m refl

pub printout_holds : Holds printout
unfolding everything failing same_numbers ran said target_at printout
printout_holds c m = holds 1 m refl
