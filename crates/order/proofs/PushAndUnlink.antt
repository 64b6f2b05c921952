-- `push` and `unlink` as the code does them, with a number that is no place taken by its remainder. A place is its own
-- remainder, so the laws of OrderedLinks hold; every node written is an entry that was read, a place or the sentinel.
use Prim.Native.Nat.{ℕ, zero, suc, ◌%◌, ◌≤◌, ◌<◌}
use native.Mathlib.Omega.{arith}
use native.Mathlib.Nat.{mod-eq_of_lt}
use mathlib.Core.List.{List, [], ◌∷◌, ◌++◌}
use lib.ListN.{get_or, replicate, length-replicate, get_or-replicate}
use Rattle.definitions.specs.Sizes.{ids, places}
use Rattle.order.specs.Order.{sentinel, link_count, next_of, prev_of, Sound, Absent, Ordered, joined}
use Rattle.order.proofs.DistinctLists.{all_right}
use Rattle.order.proofs.JoinedLinks.{joined_sound}
use Rattle.order.proofs.OrderedLinks.{ordered_new, ordered_push, ordered_unlink}

abbrev pub pushed : List ℕ → ℕ → List ℕ
pushed links place = joined (joined links (prev_of links sentinel) (place % sentinel)) (place % sentinel) sentinel

abbrev pub unlinked : List ℕ → ℕ → List ℕ
unlinked links place = joined links (prev_of links (place % sentinel)) (next_of links (place % sentinel))

-- a remainder is a place
pub remainder_place : (n : ℕ) → n % sentinel < sentinel
unfolding sentinel ids places
remainder_place n = omega arith

-- a table of sentinels
replicate_bounded : (n a i : ℕ) → get_or (replicate n a) i 0 ≤ a
replicate_bounded zero a i = omega arith
replicate_bounded (suc n) a zero = omega arith
replicate_bounded (suc n) a (suc i) = replicate_bounded n a i

pub new_sound : Sound (replicate link_count sentinel)
new_sound = record { size = length-replicate link_count sentinel; nodes = replicate_bounded link_count sentinel }

pub new_ordered : Ordered (replicate link_count sentinel) []
new_ordered = ordered_new (replicate link_count sentinel) (λ i. get_or-replicate link_count i sentinel 0)

module _ (links : List ℕ) (sound : Sound links) where
  pub next_node : (a : ℕ) → next_of links a ≤ sentinel
  unfolding next_of
  next_node a = sound.nodes _

  pub prev_node : (a : ℕ) → prev_of links a ≤ sentinel
  unfolding prev_of
  prev_node a = sound.nodes _

  pub pushed_sound : (place : ℕ) → Sound (pushed links place)
  pushed_sound place =
      let new : place % sentinel < sentinel = remainder_place place in
      joined_sound _ _ sentinel (joined_sound links _ _ sound (prev_node sentinel) (omega arith)) (omega arith) (omega arith)

  pub pushed_ordered : (place : ℕ) (order : List ℕ)
      → Ordered links order
      → Absent place order
      → place < sentinel
      → Ordered (pushed links place) (order ++ (place ∷ []))
  pushed_ordered place order h new hp = rw (mod-eq_of_lt hp) (ordered_push links sound.size order place h new hp)

  pub unlinked_sound : (place : ℕ) → Sound (unlinked links place)
  unlinked_sound place = joined_sound links _ _ sound (prev_node _) (next_node _)

  pub unlinked_ordered : (place : ℕ) (before behind : List ℕ)
      → Ordered links (before ++ place ∷ behind)
      → Ordered (unlinked links place) (before ++ behind)
  unlinked_ordered place before behind h =
      let hp : place < sentinel = (all_right (λ p. p < sentinel) before (place ∷ behind) h.within).0 in
      rw (mod-eq_of_lt hp) (ordered_unlink links sound.size before place behind h)
