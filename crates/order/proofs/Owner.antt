-- What pushing and unlinking a place does to the order of ids, and to the places of each id.
-- Each law holds by recursion on the order, with the test of a place's owner settled by what is known of it.
use Prim.Native.Nat.{ℕ, ◌+◌, ◌*◌, ◌<◌}
use native.Mathlib.Omega.{arith}
use mathlib.Core.Path.{◌≡◌, refl, sym, ap, ◌∙◌}
use mathlib.Core.Logic.{◌≢◌}
use mathlib.Core.Bool.{Bool, true, false, cond}
use mathlib.Core.List.{List, [], ◌∷◌, ◌++◌, map, append-nil}
use lib.Arith.{digits_lt}
use lib.Dec.{eqb}
use borrow.Author.Tests.{eq-eqb, ne_eqb, eqb-false}
use Rattle.definitions.specs.Sizes.{ids, places}
use Rattle.definitions.specs.State.{without, without_first, earliest}
use Rattle.order.specs.Order.{sentinel, All, Absent, front_of}
use Rattle.order.specs.Owner.{owner, places_of}

-- the k-th place of an id
pub place_below : (id k : ℕ) → k < places → id < ids → id * places + k < sentinel
unfolding sentinel
place_below id k hk hid = digits_lt hid hk

pub map-owner-append : (xs ys : List ℕ) → map owner (xs ++ ys) ≡ map owner xs ++ map owner ys
map-owner-append [] ys = refl
map-owner-append (x ∷ xs) ys = ap (λ (r : List ℕ). owner x ∷ r) (map-owner-append xs ys)

-- the front's owner is the id that was accepted earliest
pub front_earliest : (p : ℕ) (order : List ℕ) → earliest (map owner (p ∷ order)) ≡ owner (front_of (p ∷ order))
unfolding earliest front_of
front_earliest p order = refl

abbrev pub NoneOf : ℕ → List ℕ → Type 0
NoneOf id = All (λ p. owner p ≢ id)

-- the first place of an id is taken out
pub owner-without_first : (id : ℕ) (before : List ℕ) (place : ℕ) (behind : List ℕ)
    → NoneOf id before
    → owner place ≡ id
    → without_first id (map owner (before ++ place ∷ behind)) ≡ map owner (before ++ behind)
unfolding without_first
owner-without_first id [] place behind none own = rw (eq-eqb (owner place) id own)
owner-without_first id (p ∷ before) place behind none own =
    rw (ne_eqb (owner p) id none.0, owner-without_first id before place behind none.1 own)

-- any place of an id is taken out: the order without the id is as before
pub owner-without_unlink : (id : ℕ) (before : List ℕ) (place : ℕ) (behind : List ℕ)
    → owner place ≡ id
    → without id (map owner (before ++ place ∷ behind)) ≡ without id (map owner (before ++ behind))
unfolding without
owner-without_unlink id [] place behind own = rw (eq-eqb (owner place) id own)
owner-without_unlink id (p ∷ before) place behind own = rw (owner-without_unlink id before place behind own)

pub places_of-append : (id : ℕ) (xs ys : List ℕ) → places_of id (xs ++ ys) ≡ places_of id xs ++ places_of id ys
unfolding places_of
places_of-append id [] ys = refl
places_of-append id (x ∷ xs) ys = rw (places_of-append id xs ys) (split (eqb (owner x) id))
  where
    split : (t : Bool)
        → cond t (x ∷ places_of id xs ++ places_of id ys) (places_of id xs ++ places_of id ys)
        ≡ cond t (x ∷ places_of id xs) (places_of id xs) ++ places_of id ys
    split true = refl
    split false = refl

-- a place counts for its owner, and for no other id
module _ (id place : ℕ) where
  pub places_of_other : (order : List ℕ) → owner place ≢ id → places_of id (place ∷ order) ≡ places_of id order
  unfolding places_of
  places_of_other order own = rw (ne_eqb (owner place) id own)

  pub places_of_push_own : (order : List ℕ)
      → owner place ≡ id
      → places_of id (order ++ (place ∷ [])) ≡ places_of id order ++ (place ∷ [])
  unfolding places_of
  places_of_push_own order own = rw (places_of-append id order (place ∷ []), eq-eqb (owner place) id own)

  pub places_of_push_other : (order : List ℕ)
      → owner place ≢ id
      → places_of id (order ++ (place ∷ [])) ≡ places_of id order
  unfolding places_of
  places_of_push_other order own = rw (places_of-append id order (place ∷ []), ne_eqb (owner place) id own, append-nil)

  pub places_of_unlink_other : (before behind : List ℕ)
      → owner place ≢ id
      → places_of id (before ++ behind) ≡ places_of id (before ++ place ∷ behind)
  places_of_unlink_other before behind own =
      rw (places_of-append id before behind, places_of-append id before (place ∷ behind), places_of_other behind own)

  -- a place that is none of its owner's stands nowhere in the order
  pub places_of_absent : (order : List ℕ) → owner place ≡ id → Absent place (places_of id order) → Absent place order
  unfolding places_of
  places_of_absent [] own h = tt
  places_of_absent (p ∷ order) own h = at (eqb (owner p) id) refl h (places_of_absent order own)
    where
      at : (t : Bool)
          → eqb (owner p) id ≡ t
          → Absent place (cond t (p ∷ places_of id order) (places_of id order))
          → (Absent place (places_of id order) → Absent place order)
          → Absent place (p ∷ order)
      at true e h rest = (h.0, rest h.1)
      at false e h rest = (λ same. eqb-false (owner p) id e (ap owner (sym same) ∙ own), rest h)

-- no place of an id is left
pub places_of-none : (id : ℕ) (order : List ℕ) → places_of id order ≡ [] → NoneOf id order
unfolding places_of
places_of-none id [] h = tt
places_of-none id (p ∷ order) h = at (eqb (owner p) id) refl h (places_of-none id order)
  where
    at : (t : Bool)
        → eqb (owner p) id ≡ t
        → cond t (p ∷ places_of id order) (places_of id order) ≡ []
        → (places_of id order ≡ [] → NoneOf id order)
        → NoneOf id (p ∷ order)
    at true e h rest = let no : ◌≡◌ {A = ℕ} 0 1 = cc in absurd (omega arith)
    at false e h rest = (eqb-false (owner p) id e, rest h)

pub owner-without-none : (id : ℕ) (order : List ℕ) → NoneOf id order → without id (map owner order) ≡ map owner order
unfolding without
owner-without-none id [] none = refl
owner-without-none id (p ∷ order) none = rw (ne_eqb (owner p) id none.0, owner-without-none id order none.1)
