-- The order is determined by the table: a walk along the next nodes finds its places, and stops at the sentinel.
-- Distinct places are at most as many as there are places, so the walk's fuel does not run out.
use Prim.Native.Nat.{ℕ, zero, suc, ◌≤◌, ◌<◌}
use native.Mathlib.Omega.{arith}
use mathlib.Core.Path.{◌≡◌, refl}
use mathlib.Core.List.{List, [], ◌∷◌}
use lib.ListN.{length}
use borrow.Author.Tests.{eq-eqb, ne_eqb}
use Rattle.order.specs.Order.{sentinel, next_of, Linked, All, Ordered, walked}
use Rattle.order.proofs.DistinctLists.{distinct_length}

linked_walked : (fuel : ℕ) (links : List ℕ) (u : ℕ) (order : List ℕ)
    → length order ≤ fuel
    → All (λ p. p < sentinel) order
    → Linked links u order sentinel
    → walked fuel links (next_of links u) ≡ order
unfolding walked
linked_walked zero links u [] room within h = refl
linked_walked zero links u (p ∷ order) room within h = absurd (omega arith)
linked_walked (suc fuel) links u [] room within h = rw (eq-eqb (next_of links u) sentinel h.next)
linked_walked (suc fuel) links u (p ∷ order) room within h =
    let below : p < sentinel = within.0 in
    rw (h.0.next, ne_eqb p sentinel (omega arith), linked_walked fuel links p order (omega arith) within.1 h.1)

pub ordered-length : (links order : List ℕ) → Ordered links order → length order ≤ sentinel
ordered-length links order h = distinct_length sentinel order h.within h.distinct

pub ordered-walked : (links order : List ℕ) → Ordered links order → walked sentinel links (next_of links sentinel) ≡ order
ordered-walked links order h =
    linked_walked sentinel links sentinel order (ordered-length links order h) h.within h.linked
