-- The order of acceptance of the places, for "the packet accepted earliest among all indifferent clients" (paper 01): a
-- circular doubly linked list with one sentinel node, in one table of numbers.
-- The first half of the table has the next node of each node, and the second half the previous one.
use Rattle.std.specs.Prelude.{ℕ, zero, suc, ◌+◌, ◌*◌, ◌≤◌, ◌<◌, ◌≡◌, ◌≢◌, cond, List, [], ◌∷◌, eqb, length, get_or, set}
use Rattle.definitions.specs.Sizes.{ids, places}

-- the places of all ids; the node behind the last place is the sentinel
unfoldable pub sentinel : ℕ
sentinel = ids * places

unfoldable pub link_count : ℕ
link_count = 2 * (sentinel + 1)

unfoldable pub next_of : List ℕ → ℕ → ℕ
next_of links a = get_or links a 0

unfoldable pub prev_of : List ℕ → ℕ → ℕ
prev_of links a = get_or links (sentinel + 1 + a) 0

-- the table has an entry for each node in each half, and every entry is a node, so that it can be used as an index
pub record Sound (links : List ℕ) : Type 0 where
  pub size : length links ≡ link_count
  pub nodes : (i : ℕ) → get_or links i 0 ≤ sentinel

-- b follows a
pub record Joined (links : List ℕ) (a b : ℕ) : Type 0 where
  pub next : next_of links a ≡ b
  pub prev : prev_of links b ≡ a

-- from node a through the places of an order, one after the other, to node b
abbrev pub Linked : List ℕ → ℕ → List ℕ → ℕ → Type 0
Linked links a [] b = Joined links a b
Linked links a (p ∷ order) b = Joined links a p × Linked links p order b

-- P holds of each place of an order
abbrev pub All : (ℕ → Type 0) → List ℕ → Type 0
All P [] = Unit
All P (p ∷ order) = P p × All P order

-- a place does not stand in an order
abbrev pub Absent : ℕ → List ℕ → Type 0
Absent place = All (λ p. place ≢ p)

-- no place stands twice in an order
abbrev pub Distinct : List ℕ → Type 0
Distinct [] = Unit
Distinct (p ∷ order) = Absent p order × Distinct order

-- the table holds this order: a circle from the sentinel through its places and back
pub record Ordered (links order : List ℕ) : Type 0 where
  pub linked : Linked links sentinel order sentinel
  pub within : All (λ p. p < sentinel) order
  pub distinct : Distinct order

-- the first place of an order, and the sentinel where there is none
unfoldable pub front_of : List ℕ → ℕ
front_of [] = sentinel
front_of (p ∷ order) = p

-- the table in which b follows a
unfoldable pub joined : List ℕ → ℕ → ℕ → List ℕ
joined links a b = set (set links a b) (sentinel + 1 + b) a

-- the places from node a on, up to the sentinel, and at most as many as the fuel
unfoldable pub walked : ℕ → List ℕ → ℕ → List ℕ
walked zero links a = []
walked (suc fuel) links a = cond (eqb a sentinel) [] (a ∷ walked fuel links (next_of links a))
