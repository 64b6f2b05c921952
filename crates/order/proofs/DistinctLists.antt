-- Laws of `All`, `Absent` and `Distinct` under `++` and `without`, and that distinct places below n are at most n many.
-- Each holds by recursion on the list; the count takes one place out and has one number less to go.
use Prim.Native.Nat.{ℕ, zero, suc, ◌≤◌, ◌<◌}
use native.Mathlib.Omega.{arith}
use mathlib.Core.Path.{◌≡◌, refl, sym}
use mathlib.Core.Logic.{◌≢◌}
use mathlib.Core.Bool.{Bool, true, false, cond}
use mathlib.Core.List.{List, [], ◌∷◌, ◌++◌}
use lib.Dec.{eqb}
use lib.ListN.{length}
use borrow.Author.Tests.{eqb-true, eqb-false, ne_eqb}
use Rattle.definitions.specs.State.{without}
use Rattle.order.specs.Order.{All, Absent, Distinct}

module _ (P : ℕ → Type 0) where
  pub all_append : (xs ys : List ℕ) → All P xs → All P ys → All P (xs ++ ys)
  all_append [] ys hx hy = hy
  all_append (x ∷ xs) ys hx hy = (hx.0, all_append xs ys hx.1 hy)

  pub all_left : (xs ys : List ℕ) → All P (xs ++ ys) → All P xs
  all_left [] ys h = tt
  all_left (x ∷ xs) ys h = (h.0, all_left xs ys h.1)

  pub all_right : (xs ys : List ℕ) → All P (xs ++ ys) → All P ys
  all_right [] ys h = h
  all_right (x ∷ xs) ys h = all_right xs ys h.1

  pub all_map : (Q : ℕ → Type 0) → ((x : ℕ) → P x → Q x) → (xs : List ℕ) → All P xs → All Q xs
  all_map Q f [] h = tt
  all_map Q f (x ∷ xs) h = (f x h.0, all_map Q f xs h.1)

  pub all_without : (m : ℕ) (xs : List ℕ) → All P xs → All P (without m xs)
  unfolding without
  all_without m [] h = tt
  all_without m (x ∷ xs) h = at (eqb x m) (all_without m xs h.1)
    where
      at : (t : Bool) → All P (without m xs) → All P (cond t (without m xs) (x ∷ without m xs))
      at true rest = rest
      at false rest = (h.0, rest)

pub distinct_left : (xs ys : List ℕ) → Distinct (xs ++ ys) → Distinct xs
distinct_left [] ys h = tt
distinct_left (x ∷ xs) ys h = (all_left (λ y. x ≢ y) xs ys h.0, distinct_left xs ys h.1)

pub distinct_right : (xs ys : List ℕ) → Distinct (xs ++ ys) → Distinct ys
distinct_right [] ys h = h
distinct_right (x ∷ xs) ys h = distinct_right xs ys h.1

pub distinct_across : (xs ys : List ℕ) → Distinct (xs ++ ys) → All (λ x. Absent x ys) xs
distinct_across [] ys h = tt
distinct_across (x ∷ xs) ys h = (all_right (λ y. x ≢ y) xs ys h.0, distinct_across xs ys h.1)

pub distinct_append : (xs ys : List ℕ)
    → Distinct xs
    → Distinct ys
    → All (λ x. Absent x ys) xs
    → Distinct (xs ++ ys)
distinct_append [] ys hx hy across = hy
distinct_append (x ∷ xs) ys hx hy across = (
  all_append (λ y. x ≢ y) xs ys hx.0 across.0,
  distinct_append xs ys hx.1 hy across.1,
)

-- a new place behind
pub distinct_push : (p : ℕ) (xs : List ℕ) → Distinct xs → Absent p xs → Distinct (xs ++ (p ∷ []))
distinct_push p xs h new =
    distinct_append xs (p ∷ []) h (tt, tt)
    (all_map (λ x. p ≢ x) (λ x. Absent x (p ∷ [])) (λ x ne. (λ e. ne (sym e), tt)) xs new)

-- one place less
pub distinct_unlink : (p : ℕ) (xs ys : List ℕ) → Distinct (xs ++ p ∷ ys) → Distinct (xs ++ ys)
distinct_unlink p xs ys h =
    distinct_append xs ys (distinct_left xs (p ∷ ys) h) (distinct_right xs (p ∷ ys) h).1
    (all_map (λ x. Absent x (p ∷ ys)) (λ x. Absent x ys) (λ x ne. ne.1) xs (distinct_across xs (p ∷ ys) h))

distinct_without : (m : ℕ) (xs : List ℕ) → Distinct xs → Distinct (without m xs)
unfolding without
distinct_without m [] h = tt
distinct_without m (x ∷ xs) h = at (eqb x m) (distinct_without m xs h.1)
  where
    at : (t : Bool) → Distinct (without m xs) → Distinct (cond t (without m xs) (x ∷ without m xs))
    at true rest = rest
    at false rest = (all_without (λ y. x ≢ y) m xs h.0, rest)

without_absent : (m : ℕ) (xs : List ℕ) → Absent m xs → without m xs ≡ xs
unfolding without
without_absent m [] h = refl
without_absent m (x ∷ xs) h = rw (ne_eqb x m (λ e. h.0 (sym e)), without_absent m xs h.1)

-- of distinct places, `without` takes out one at most
without-length : (m : ℕ) (xs : List ℕ) → Distinct xs → length xs ≤ suc (length (without m xs))
unfolding without
without-length m [] h = omega arith
without-length m (x ∷ xs) h = at (eqb x m) refl (without-length m xs h.1)
  where
    at : (t : Bool)
        → eqb x m ≡ t
        → length xs ≤ suc (length (without m xs))
        → suc (length xs) ≤ suc (length (cond t (without m xs) (x ∷ without m xs)))
    at true e ih = rw (without_absent m xs (rw (← eqb-true x m e) h.0)) (omega arith)
    at false e ih = omega arith

-- what is at most m, and not m, is below m
without_below : (m : ℕ) (xs : List ℕ) → All (λ x. x < suc m) xs → All (λ x. x < m) (without m xs)
unfolding without
without_below m [] h = tt
without_below m (x ∷ xs) h = at (eqb x m) refl (without_below m xs h.1)
  where
    at : (t : Bool)
        → eqb x m ≡ t
        → All (λ x. x < m) (without m xs)
        → All (λ x. x < m) (cond t (without m xs) (x ∷ without m xs))
    at true e rest = rest
    at false e rest = (let ne : x ≢ m = eqb-false x m e in let le : x < suc m = h.0 in omega arith, rest)

-- the pigeonhole: distinct numbers below n are at most n
pub distinct_length : (n : ℕ) (xs : List ℕ) → All (λ x. x < n) xs → Distinct xs → length xs ≤ n
distinct_length zero [] below h = omega arith
distinct_length zero (x ∷ xs) below h = let none : x < 0 = below.0 in omega arith
distinct_length (suc m) xs below h =
    omega (
      arith,
      without-length m xs h,
      distinct_length m (without m xs) (without_below m xs below) (distinct_without m xs h),
    )
