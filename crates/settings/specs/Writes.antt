-- What is written when a client is set up or taken away: its terms, its stock, its marks, and its places in the order of
-- acceptance. Nothing else of control and tables changes, and no handle and no length is written.
-- "If the type differs, queue and pool become empty" (paper 01).
use Rattle.std.specs.Prelude.{ℕ, ◌+◌, ◌-◌, ◌*◌, ◌^◌, ◌≤◌, ◌<◌, min, ◌≡◌, ◌≢◌, Bool, false, cond, List, [], map}
use Rattle.definitions.specs.Sizes.{ids, places, shares}
use Rattle.definitions.specs.Client.{Kind, is_indifferent, is_private}
use Rattle.definitions.specs.State.{without, emptied}
use Rattle.marks.specs.Marks.{marked}
use Rattle.order.specs.Order.{Sound, Ordered}
use Rattle.order.specs.Owner.{owner, places_of}
use Rattle.tables.specs.declared.Control.{Control}
use Rattle.tables.specs.declared.Tables.{Tables}
use Rattle.tables.specs.Tables.{tables, rate_column, burst_column, level_column, pool_column, count_column}
use Rattle.tables.specs.Tables.{written, rate_at, level_at, head_at, count_at, ring}
use Rattle.tables.specs.Controls.{with_marks, with_waiting}
use Rattle.tables.specs.Meaning.{kind_at, side_of}
use Rattle.tables.specs.Invariant.{Shape}

-- what is asked of the numbers where terms are set, so that nothing wraps
abbrev pub Room : Control → List ℕ → ℕ → ℕ → Type 0
Room c terms id rate = (id < ids) × (rate_at terms id ≤ c.rates) × (c.rates + rate < 2 ^ 32)

-- what is asked where an id is emptied
abbrev pub Ready : List ℕ → List ℕ → ℕ → Type 0
Ready stocks links id = Sound links × (id < ids) × (head_at stocks id < places) × (count_at stocks id ≤ places)

-- the terms with an id's rate, burst and level anew
abbrev pub with_terms : List ℕ → ℕ → ℕ → ℕ → ℕ → List ℕ
with_terms terms id rate burst level =
    written (written (written terms rate_column id rate) burst_column id burst) level_column id level

-- the level of a client that stays: "a level above the new burst × 1024 comes down to it"
abbrev pub retuned_level : List ℕ → ℕ → ℕ → ℕ
retuned_level terms id burst = min (level_at terms id) (burst * shares)

-- the rates held together, an id's old rate taken off and its new one added
abbrev pub rates_after : Control → List ℕ → ℕ → ℕ → ℕ
rates_after c terms id rate = c.rates - rate_at terms id + rate

-- the stocks with an empty pool and an empty queue for an id
abbrev pub with_bare : List ℕ → ℕ → List ℕ
with_bare stocks id = written (written stocks pool_column id 0) count_column id 0

-- a word of marks with one mark set or taken
pub record Remarked (word after id : ℕ) (on : Bool) : Type 0 where
  pub own : marked after id ≡ on
  pub others : (j : ℕ) → j ≢ id → marked after j ≡ marked word j

-- an id has the marks of a kind, and nothing else of the control changed
pub record Recast (c d : Control) (id : ℕ) (kind : Kind) : Type 0 where
  pub rest : d ≡ with_marks c d.indifferent d.private c.waiting
  pub indifferent : Remarked c.indifferent d.indifferent id (is_indifferent kind)
  pub private : Remarked c.private d.private id (is_private kind)

-- an id has no mark of waiting, and nothing else of the control changed
pub record Quiet (c d : Control) (id : ℕ) : Type 0 where
  pub rest : d ≡ with_waiting c d.waiting
  pub waiting : Remarked c.waiting d.waiting id false

-- the table holds an order from which the places of one id were taken
pub record Withdrawn (links : List ℕ) (id : ℕ) (start : List ℕ) : Type 0 where
  pub order : List ℕ
  pub ordered : Ordered links order
  pub none : places_of id order ≡ []
  pub others : (j : ℕ) → j ≢ id → places_of j order ≡ places_of j start
  pub rest : map owner order ≡ without id (map owner start)

-- what a withdrawal gives, for the order that the table held: an indifferent client has the places of its queue there
abbrev pub Withdraws : Control → List ℕ → List ℕ → ℕ → List ℕ → Type 0
Withdraws c stocks links id after =
    (order : List ℕ)
    → Ordered links order
    → places_of id order ≡ cond (is_indifferent (kind_at c id)) (ring id (head_at stocks id) (count_at stocks id)) []
    → Withdrawn after id order

-- the side is `emptied` of what an id had to send; the tables stay laid out right, and only a mark of waiting may go
pub record Emptied (c : Control) (t : Tables) (id : ℕ) (d : Control) (u : Tables) : Type 0 where
  pub side : side_of d u ≡ emptied (side_of c t) id
  pub shape : Shape d u
  pub rest : d ≡ with_waiting c d.waiting

-- what an emptying gives, whatever the tables that it neither reads nor writes
abbrev pub Empties : Control → List ℕ → List ℕ → ℕ → Control → List ℕ → List ℕ → Type 0
Empties c stocks links id d bare rest =
    (terms handles lengths counts : List ℕ)
    → Shape c (tables terms stocks handles lengths links counts)
    → Emptied c (tables terms stocks handles lengths links counts) id d (tables terms bare handles lengths rest counts)
