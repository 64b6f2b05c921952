-- A queue's places are taken out of the order from its front on: while that goes on the id has the rest of the ring in the
-- order, and every other id what it had. Assumes nothing.
use Prim.Native.Nat.{ℕ, suc, ◌+◌, ◌*◌, ◌%◌}
use mathlib.Core.Path.{◌≡◌, refl, sym, subst}
use mathlib.Core.List.{List, [], ◌∷◌, ◌++◌, map}
use Rattle.definitions.specs.Sizes.{places}
use Rattle.definitions.specs.State.{without}
use Rattle.order.specs.Order.{Ordered}
use Rattle.order.specs.Owner.{owner, places_of}
use Rattle.order.proofs.Owner.{owner-without-none, places_of-none}
use Rattle.order.proofs.FirstPlaceTaken.{Taken, places_of-taken, Emptying, emptying_start, emptying-step, emptying_done}
use Rattle.tables.specs.Tables.{ring}
use Rattle.settings.specs.Writes.{Withdrawn}

-- n places of the ring are left in the order, the first of them at head
pub record Withdrawing (links : List ℕ) (id head n : ℕ) (start : List ℕ) : Type 0 where
  pub order : List ℕ
  pub ordered : Ordered links order
  pub left : places_of id order ≡ ring id head n
  pub kept : Emptying id start order

pub withdrawing_start : (links : List ℕ) (id head n : ℕ) (start : List ℕ)
    → Ordered links start → places_of id start ≡ ring id head n → Withdrawing links id head n start
withdrawing_start links id head n start o e = record { order = start; ordered = o; left = e; kept = emptying_start id start }

pub withdrawing_step : (links after : List ℕ) (id head n : ℕ) (start : List ℕ)
    → ((before behind : List ℕ)
    → Ordered links (before ++ (id * places + head % places) ∷ behind)
    → Ordered after (before ++ behind))
    → Withdrawing links id head (suc n) start
    → Withdrawing after id (suc head) n start
unfolding ring
withdrawing_step links after id head n start unlinked w = record {
  order = t.before ++ t.behind;
  ordered = unlinked t.before t.behind (subst (Ordered links) t.split w.ordered);
  left = t.left;
  kept = emptying-step id (id * places + head % places) (ring id (suc head) n) start w.order t w.kept;
}
  where
    t : Taken id w.order (id * places + head % places) (ring id (suc head) n)
    t = places_of-taken id (id * places + head % places) (ring id (suc head) n) w.order w.left

pub withdrawing_done : (links : List ℕ) (id head : ℕ) (start : List ℕ)
    → Withdrawing links id head 0 start
    → Withdrawn links id start
unfolding ring
withdrawing_done links id head start w = record {
  order = w.order;
  ordered = w.ordered;
  none = w.left;
  others = w.kept.others;
  rest = emptying_done id start w.order w.kept w.left;
}

-- where the id has no place in the order, none is to be taken
pub order_without : (id : ℕ) (start : List ℕ) → places_of id start ≡ [] → without id (map owner start) ≡ map owner start
order_without id start e = owner-without-none id start (places_of-none id start e)

pub withdrawn_none : (links : List ℕ) (id : ℕ) (start : List ℕ)
    → Ordered links start
    → places_of id start ≡ []
    → Withdrawn links id start
withdrawn_none links id start o e = record {
  order = start;
  ordered = o;
  none = e;
  others = λ j ne. refl;
  rest = sym (order_without id start e);
}
