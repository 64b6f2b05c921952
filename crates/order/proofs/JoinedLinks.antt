-- The table in which one node was made to follow another: two entries are new, and all others stay.
-- The indices of the two halves differ, since a node is at most the sentinel.
use Prim.Native.Nat.{ℕ, zero, suc, ◌+◌, ◌≤◌, ◌<◌}
use native.Mathlib.Omega.{arith}
use mathlib.Core.Path.{◌≡◌, ◌∙◌}
use mathlib.Core.Logic.{◌≢◌}
use mathlib.Core.List.{List, [], ◌∷◌}
use lib.ListN.{length, get_or, set, length-set}
use lib.Seq.{get_or-set_same, get_or-set_other}
use Rattle.order.specs.Order.{sentinel, link_count, next_of, prev_of, Sound, joined}

-- a node has an entry in each half
next_index : (links : List ℕ) (a : ℕ) → length links ≡ link_count → a ≤ sentinel → a < length links
unfolding link_count
next_index links a len ha = omega arith

prev_index : (links : List ℕ) (a : ℕ) → length links ≡ link_count → a ≤ sentinel → sentinel + 1 + a < length links
unfolding link_count
prev_index links a len ha = omega arith

-- a store of a small number keeps a table of small numbers
set_bounded : (n : ℕ) (l : List ℕ) (k v : ℕ) → v ≤ n → ((i : ℕ) → get_or l i 0 ≤ n) → (i : ℕ) → get_or (set l k v) i 0 ≤ n
set_bounded n [] k v hv h i = h i
set_bounded n (x ∷ xs) zero v hv h zero = hv
set_bounded n (x ∷ xs) zero v hv h (suc i) = h (suc i)
set_bounded n (x ∷ xs) (suc k) v hv h zero = h zero
set_bounded n (x ∷ xs) (suc k) v hv h (suc i) = set_bounded n xs k v hv (λ j. h (suc j)) i

module _ (links : List ℕ) (a b : ℕ) where
  pub joined_length : length (joined links a b) ≡ length links
  unfolding joined
  joined_length = simp length-set

  pub joined_sound : Sound links → a ≤ sentinel → b ≤ sentinel → Sound (joined links a b)
  unfolding joined
  joined_sound h ha hb = record {
    size = joined_length ∙ h.size;
    nodes = set_bounded sentinel (set links a b) (sentinel + 1 + b) a ha (set_bounded sentinel links a b hb h.nodes);
  }

  pub joined-next : length links ≡ link_count → a ≤ sentinel → next_of (joined links a b) a ≡ b
  unfolding joined next_of
  joined-next len ha =
      get_or-set_other (set links a b) (sentinel + 1 + b) a a 0 (omega arith)
      ∙ get_or-set_same links a b 0 (next_index links a len ha)

  pub joined-next_other : (c : ℕ) → c ≤ sentinel → a ≢ c → next_of (joined links a b) c ≡ next_of links c
  unfolding joined next_of
  joined-next_other c hc ne =
      get_or-set_other (set links a b) (sentinel + 1 + b) c a 0 (omega arith)
      ∙ get_or-set_other links a c b 0 (omega arith)

  pub joined_prev : length links ≡ link_count → b ≤ sentinel → prev_of (joined links a b) b ≡ a
  unfolding joined prev_of
  joined_prev len hb = get_or-set_same (set links a b) _ a 0 (simp length-set (prev_index links b len hb))

  pub joined_prev_other : (c : ℕ) → a ≤ sentinel → b ≢ c → prev_of (joined links a b) c ≡ prev_of links c
  unfolding joined prev_of
  joined_prev_other c ha ne =
      get_or-set_other (set links a b) (sentinel + 1 + b) (sentinel + 1 + c) a 0 (omega arith)
      ∙ get_or-set_other links a (sentinel + 1 + c) b 0 (omega arith)
