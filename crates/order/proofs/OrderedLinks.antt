-- What the operations do to the order that the table holds. Each one makes some node follow another.
-- A stretch that neither node touches stays; a stretch that ends at one node is led to another by its last link.
use Prim.Native.Nat.{ℕ, ◌+◌, ◌≤◌, ◌<◌}
use native.Mathlib.Omega.{arith}
use mathlib.Core.Path.{◌≡◌, sym, ◌∙◌, subst}
use mathlib.Core.Logic.{◌≢◌}
use mathlib.Core.List.{List, [], ◌∷◌, ◌++◌, append-nil}
use lib.ListN.{length, get_or}
use Rattle.order.specs.Order.{sentinel, link_count, next_of, prev_of, front_of, joined}
use Rattle.order.specs.Order.{Joined, Linked, All, Absent, Distinct, Ordered}
use Rattle.order.proofs.DistinctLists.{all_append, all_left, all_right, all_map}
use Rattle.order.proofs.DistinctLists.{distinct_left, distinct_right, distinct_across, distinct_push, distinct_unlink}
use Rattle.order.proofs.JoinedLinks.{joined_length, joined-next, joined-next_other, joined_prev, joined_prev_other}

-- two stretches that meet at a node are one, and the other way round
pub linked_append : (links : List ℕ) (u : ℕ) (xs : List ℕ) (p : ℕ) (ys : List ℕ) (v : ℕ)
    → Linked links u xs p
    → Linked links p ys v
    → Linked links u (xs ++ p ∷ ys) v
linked_append links u [] p ys v h k = (h, k)
linked_append links u (x ∷ xs) p ys v h k = (h.0, linked_append links x xs p ys v h.1 k)

pub linked_left : (links : List ℕ) (u : ℕ) (xs : List ℕ) (p : ℕ) (ys : List ℕ) (v : ℕ)
    → Linked links u (xs ++ p ∷ ys) v
    → Linked links u xs p
linked_left links u [] p ys v h = h.0
linked_left links u (x ∷ xs) p ys v h = (h.0, linked_left links x xs p ys v h.1)

pub linked_right : (links : List ℕ) (u : ℕ) (xs : List ℕ) (p : ℕ) (ys : List ℕ) (v : ℕ)
    → Linked links u (xs ++ p ∷ ys) v
    → Linked links p ys v
linked_right links u [] p ys v h = h.1
linked_right links u (x ∷ xs) p ys v h = linked_right links x xs p ys v h.1

-- the node before the end of a stretch is one of the stretch
linked_last : (P : ℕ → Type 0) (links : List ℕ) (u : ℕ) (xs : List ℕ) (v : ℕ)
    → Linked links u xs v
    → All P (u ∷ xs)
    → P (prev_of links v)
linked_last P links u [] v h all = subst P (sym h.prev) all.0
linked_last P links u (x ∷ xs) v h all = linked_last P links x xs v h.1 all.1

abbrev Nodes : List ℕ → Type 0
Nodes = All (λ c. c ≤ sentinel)

module _ (links : List ℕ) (a b : ℕ) (ha : a ≤ sentinel) where
  joined_keep : (u v : ℕ) → u ≤ sentinel → a ≢ u → b ≢ v → Joined links u v → Joined (joined links a b) u v
  joined_keep u v hu nu nv h = record {
    next = joined-next_other links a b u hu nu ∙ h.next;
    prev = joined_prev_other links a b v ha nv ∙ h.prev;
  }

  linked_keep : (u : ℕ) (xs : List ℕ) (v : ℕ)
      → Nodes (u ∷ xs)
      → Absent a (u ∷ xs)
      → Absent b xs
      → b ≢ v
      → Linked links u xs v
      → Linked (joined links a b) u xs v
  linked_keep u [] v hu na nb nv h = joined_keep u v hu.0 na.0 nv h
  linked_keep u (x ∷ xs) v hu na nb nv h =
      (joined_keep u x hu.0 na.0 nb.0 h.0, linked_keep x xs v hu.1 na.1 nb.1 nv h.1)

module _ (links : List ℕ) (len : length links ≡ link_count) where
  joined_new : (a b : ℕ) → a ≤ sentinel → b ≤ sentinel → Joined (joined links a b) a b
  joined_new a b ha hb = record {
    next = joined-next links a b len ha;
    prev = joined_prev links a b len hb;
  }

  -- the last node of a stretch to v is followed by w instead
  linked_redirect : (u : ℕ) (xs : List ℕ) (v w : ℕ)
      → w ≤ sentinel
      → Nodes (u ∷ xs)
      → Distinct (u ∷ xs)
      → Absent w xs
      → Linked links u xs v
      → Linked (joined links (prev_of links v) w) u xs w
  linked_redirect u [] v w hw hu d nw h = rw h.prev (joined_new u w hu.0 hw)
  linked_redirect u (x ∷ xs) v w hw hu d nw h = (
    joined_keep links (prev_of links v) w
        (linked_last (λ c. c ≤ sentinel) links x xs v h.1 hu.1) u x hu.0
        (λ e. linked_last (λ c. u ≢ c) links x xs v h.1 d.0 (sym e)) nw.0 h.0,
    linked_redirect x xs v w hw hu.1 d.1 nw.1 h.1,
  )

abbrev Places : List ℕ → Type 0
Places = All (λ p. p < sentinel)

-- the sentinel before some places: all are nodes, and where the places are distinct, so are all of these
sentinel_nodes : (xs : List ℕ) → Places xs → Nodes (sentinel ∷ xs)
sentinel_nodes xs h = (omega arith, all_map (λ p. p < sentinel) (λ p. p ≤ sentinel) (λ p lt. omega arith) xs h)

sentinel_absent : (xs : List ℕ) → Places xs → Absent sentinel xs
sentinel_absent = all_map (λ p. p < sentinel) (λ p. sentinel ≢ p) (λ p lt. omega arith)

module _ (links : List ℕ) (len : length links ≡ link_count) where
  -- the way from the sentinel to node v leads to node w instead
  sentinel_redirect : (xs : List ℕ) (v w : ℕ)
      → w ≤ sentinel
      → Places xs
      → Distinct xs
      → Absent w xs
      → Linked links sentinel xs v
      → Linked (joined links (prev_of links v) w) sentinel xs w
  sentinel_redirect xs v w hw hx d =
      linked_redirect links len sentinel xs v w hw (sentinel_nodes xs hx) (sentinel_absent xs hx, d)

  -- the new place follows the last node, and the sentinel follows it
  pub ordered_push : (order : List ℕ) (p : ℕ)
      → Ordered links order
      → Absent p order
      → p < sentinel
      → Ordered (joined (joined links (prev_of links sentinel) p) p sentinel) (order ++ (p ∷ []))
  ordered_push order p h new hp =
      let led : List ℕ = joined links (prev_of links sentinel) p in
      let led-length : length led ≡ link_count = joined_length links (prev_of links sentinel) p ∙ len in
      let through : Linked led sentinel order p =
      sentinel_redirect order sentinel p (omega arith) h.within h.distinct new h.linked in
      record {
        linked =
            linked_append (joined led p sentinel) sentinel order p [] sentinel
            (linked_keep led p sentinel (omega arith) sentinel order p (sentinel_nodes order h.within) (omega arith, new)
            (sentinel_absent order h.within) (omega arith) through)
            (joined_new led led-length p sentinel (omega arith) (omega arith));
        within = all_append (λ q. q < sentinel) order (p ∷ []) h.within (hp, tt);
        distinct = distinct_push p order h.distinct new;
      }

  -- what stood before the place is followed by what stands behind it: the sentinel or a place
  linked_unlink : (before : List ℕ) (p : ℕ) (behind : List ℕ)
      → Places before
      → Places behind
      → Distinct before
      → Distinct behind
      → All (λ q. Absent q behind) before
      → Linked links sentinel before p
      → Linked links p behind sentinel
      → Linked (joined links (prev_of links p) (next_of links p)) sentinel (before ++ behind) sentinel
  linked_unlink before p [] hx hy dx dy across to from =
      rw (from.next, append-nil) (sentinel_redirect before p sentinel (omega arith) hx dx (sentinel_absent before hx) to)
  linked_unlink before p (n ∷ behind) hx hy dx dy across to from =
      let node : prev_of links p ≤ sentinel =
      linked_last (λ c. c ≤ sentinel) links sentinel before p to (sentinel_nodes before hx) in
      let apart : Absent (prev_of links p) (n ∷ behind) =
      linked_last (λ c. Absent c (n ∷ behind)) links sentinel before p to (sentinel_absent (n ∷ behind) hy, across) in
      let new : Absent n before = all_map (λ q. Absent q (n ∷ behind)) (λ q. n ≢ q) (λ q ne e. ne.0 (sym e)) before across in
      rw from.0.next
      (linked_append (joined links (prev_of links p) n) sentinel before n behind sentinel
      (sentinel_redirect before p n (omega arith) hx dx new to)
      (linked_keep links (prev_of links p) n node n behind sentinel (sentinel_nodes (n ∷ behind) hy).1 apart dy.0 (omega arith)
      from.1))

  pub ordered_unlink : (before : List ℕ) (p : ℕ) (behind : List ℕ)
      → Ordered links (before ++ p ∷ behind)
      → Ordered (joined links (prev_of links p) (next_of links p)) (before ++ behind)
  ordered_unlink before p behind h =
      let all : List ℕ = p ∷ behind in
      let hx : Places before = all_left (λ q. q < sentinel) before all h.within in
      let hy : Places behind = (all_right (λ q. q < sentinel) before all h.within).1 in
      let apart : All (λ q. Absent q behind) before =
      all_map (λ q. Absent q all) (λ q. Absent q behind) (λ q ne. ne.1) before (distinct_across before all h.distinct) in
      record {
        linked =
            linked_unlink before p behind hx hy (distinct_left before all h.distinct)
            (distinct_right before all h.distinct).1 apart
            (linked_left links sentinel before p behind sentinel h.linked)
            (linked_right links sentinel before p behind sentinel h.linked);
        within = all_append (λ q. q < sentinel) before behind hx hy;
        distinct = distinct_unlink p before behind h.distinct;
      }

-- the sentinel is followed by the first place, or by itself
pub ordered_front : (links order : List ℕ) → Ordered links order → next_of links sentinel ≡ front_of order
unfolding front_of
ordered_front links [] h = h.linked.next
ordered_front links (p ∷ order) h = h.linked.0.next

-- where every entry is the sentinel, no place is on the circle
pub ordered_new : (links : List ℕ) → ((i : ℕ) → i < link_count → get_or links i 0 ≡ sentinel) → Ordered links []
unfolding next_of prev_of link_count
ordered_new links h = record {
  linked = record { next = h sentinel (omega arith); prev = h (sentinel + 1 + sentinel) (omega arith) };
  within = tt;
  distinct = tt;
}
