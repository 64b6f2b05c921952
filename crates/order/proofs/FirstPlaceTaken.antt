-- An id's first place in the order, found from its list of places, and what is left of the order when it is taken out.
-- A loop that takes the first place out until none is left keeps `Emptying`, and ends at the order without the id.
use Prim.Native.Nat.{ℕ}
use native.Mathlib.Omega.{arith}
use mathlib.Core.Path.{◌≡◌, refl, sym, ap, ◌∙◌}
use mathlib.Core.Logic.{◌≢◌}
use mathlib.Core.Bool.{Bool, true, false, cond}
use mathlib.Core.List.{List, [], ◌∷◌, ◌++◌, map}
use lib.Dec.{eqb}
use borrow.Author.Tests.{eqb-true, eqb-false}
use Rattle.definitions.specs.State.{without, without_first}
use Rattle.order.specs.Owner.{owner, places_of}
use Rattle.order.proofs.Owner.{NoneOf, owner-without_first, owner-without_unlink, owner-without-none}
use Rattle.order.proofs.Owner.{places_of_other, places_of_unlink_other, places_of-none}

-- where an id's first place stands in the order, and what is left when it is taken out
pub record Taken (id : ℕ) (order : List ℕ) (first : ℕ) (rest : List ℕ) : Type 0 where
  pub before : List ℕ
  pub behind : List ℕ
  pub split : order ≡ before ++ first ∷ behind
  pub own : owner first ≡ id
  pub none : NoneOf id before
  pub left : places_of id (before ++ behind) ≡ rest

module _ (id first : ℕ) (rest : List ℕ) where
  taken_here : (p : ℕ) (order : List ℕ) → owner p ≡ id → p ∷ places_of id order ≡ first ∷ rest → Taken id (p ∷ order) first rest
  taken_here p order own h =
      let same : p ≡ first = cc in
      record {
        before = [];
        behind = order;
        split = ap (λ (q : ℕ). q ∷ order) same;
        own = ap owner (sym same) ∙ own;
        none = tt;
        left = cc;
      }

  taken_later : (p : ℕ) (order : List ℕ) → owner p ≢ id → Taken id order first rest → Taken id (p ∷ order) first rest
  taken_later p order own t = record {
    before = p ∷ t.before;
    behind = t.behind;
    split = ap (λ (r : List ℕ). p ∷ r) t.split;
    own = t.own;
    none = (own, t.none);
    left = places_of_other id p (t.before ++ t.behind) own ∙ t.left;
  }

  pub places_of-taken : (order : List ℕ) → places_of id order ≡ first ∷ rest → Taken id order first rest
  unfolding places_of
  places_of-taken [] h = let no : ◌≡◌ {A = ℕ} 0 1 = cc in absurd (omega arith)
  places_of-taken (p ∷ order) h = at (eqb (owner p) id) refl h (places_of-taken order)
    where
      at : (t : Bool)
          → eqb (owner p) id ≡ t
          → cond t (p ∷ places_of id order) (places_of id order) ≡ first ∷ rest
          → (places_of id order ≡ first ∷ rest → Taken id order first rest)
          → Taken id (p ∷ order) first rest
      at true e h later = taken_here p order (eqb-true (owner p) id e) h
      at false e h later = taken_later p order (eqb-false (owner p) id e) (later h)

  module _ (order : List ℕ) (t : Taken id order first rest) where
    -- the other ids' places are as before
    pub taken-others : (other : ℕ) → other ≢ id → places_of other (t.before ++ t.behind) ≡ places_of other order
    taken-others other ne =
        rw t.split (places_of_unlink_other other first t.before t.behind (λ e. ne (sym e ∙ t.own)))

    -- the order of ids is without the earliest packet of the id
    pub taken-without_first : without_first id (map owner order) ≡ map owner (t.before ++ t.behind)
    taken-without_first = rw t.split (owner-without_first id t.before first t.behind t.none t.own)

    pub taken-without : without id (map owner (t.before ++ t.behind)) ≡ without id (map owner order)
    taken-without = rw t.split (sym (owner-without_unlink id t.before first t.behind t.own))

-- What holds while an id's places are taken out of an order one after the other. When none is left, the order of ids is
-- that of the start without the id.
pub record Emptying (id : ℕ) (start order : List ℕ) : Type 0 where
  pub others : (other : ℕ) → other ≢ id → places_of other order ≡ places_of other start
  pub rest : without id (map owner order) ≡ without id (map owner start)

pub emptying_start : (id : ℕ) (start : List ℕ) → Emptying id start start
emptying_start id start = record { others = λ other ne. refl; rest = refl }

pub emptying-step : (id first : ℕ) (rest start order : List ℕ) (t : Taken id order first rest)
    → Emptying id start order
    → Emptying id start (t.before ++ t.behind)
emptying-step id first rest start order t e = record {
  others = λ other ne. taken-others id first rest order t other ne ∙ e.others other ne;
  rest = taken-without id first rest order t ∙ e.rest;
}

pub emptying_done : (id : ℕ) (start order : List ℕ)
    → Emptying id start order
    → places_of id order ≡ []
    → map owner order ≡ without id (map owner start)
emptying_done id start order e none =
    sym (owner-without-none id order (places_of-none id order none)) ∙ e.rest
