-- What it is that two cores "differ only in places where no packet waits" (paper 02, S-3), of control and tables: `DifferUnused`.
-- What is claimed of such cores stands in `Unseen`.
use Rattle.std.specs.Prelude.{ℕ, ◌<◌, ◌≡◌, true, List, set}
use Rattle.definitions.specs.Sizes.{ids}
use Rattle.order.specs.Order.{sentinel, next_of, prev_of, All, Absent}
use Rattle.tables.specs.declared.Control.{Control}
use Rattle.tables.specs.declared.Tables.{Tables}
use Rattle.tables.specs.Tables.{tables, head_at, count_at, pool_at, ring}
use Rattle.tables.specs.Meaning.{packet_at}

-- the places at which packets of an id wait
unfoldable pub waiting_places : Tables → ℕ → List ℕ
waiting_places t id = ring id (head_at t.stocks id) (count_at t.stocks id)

-- the nodes before and behind a node of the order of acceptance
pub record SameLinks (t u : Tables) (node : ℕ) : Type 0 where
  pub next : next_of u.links node ≡ next_of t.links node
  pub prev : prev_of u.links node ≡ prev_of t.links node

-- all that stands at a place: a packet's handle and length, and its links
pub record SamePlace (t u : Tables) (place : ℕ) : Type 0 where
  pub packet : packet_at u place ≡ packet_at t place
  pub links : SameLinks t u place

-- The tables differ only in places where no packet waits: packets wait at the same places, where the same stands, and all that
-- is no place is the same. Where an empty queue begins may differ: it is the place of a packet that is yet to come.
pub record SameWhereWaiting (t u : Tables) : Type 0 where
  pub terms : u.terms ≡ t.terms
  pub pools : (id : ℕ) → id < ids → pool_at u.stocks id ≡ pool_at t.stocks id
  pub waiting : (id : ℕ) → id < ids → waiting_places u id ≡ waiting_places t id
  pub places : (id : ℕ) → id < ids → All (SamePlace t u) (waiting_places t id)
  pub ends : SameLinks t u sentinel
  pub counts : u.counts ≡ t.counts

-- Two cores of one control. Before any accepted open no packet waits, whatever the tables hold.
abbrev pub DifferUnused : Control → Tables → Tables → Type 0
DifferUnused c t u = c.opened ≡ true → SameWhereWaiting t u

-- no packet waits at a place
abbrev pub Unused : Tables → ℕ → Type 0
Unused t place = (id : ℕ) → id < ids → Absent place (waiting_places t id)

-- other numbers at a place
abbrev pub overwritten : Tables → ℕ → ℕ → ℕ → Tables
overwritten t place handle length =
    tables t.terms t.stocks (set t.handles place handle) (set t.lengths place length) t.links
    t.counts
