-- When control and tables are valid: what opening establishes and every call keeps.
use Rattle.std.specs.Prelude.{ℕ, ◌*◌, ◌<◌, ◌≡◌, true, false, cond, not, ◌&&◌, List, [], ltb, eqb, length}
use Rattle.definitions.specs.Sizes.{ids, places}
use Rattle.definitions.specs.Client.{is_indifferent}
use Rattle.definitions.specs.Checks.{rates}
use Rattle.definitions.specs.Limits.{StateLimits}
use Rattle.marks.specs.Marks.{marked}
use Rattle.order.specs.Order.{Sound, Ordered}
use Rattle.order.specs.Owner.{places_of}
use Rattle.counts.specs.CountTable.{count_columns}
use Rattle.tables.specs.declared.Control.{Control}
use Rattle.tables.specs.declared.Tables.{Tables}
use Rattle.tables.specs.Tables.{term_columns, stock_columns, head_at, count_at, ring}
use Rattle.tables.specs.Meaning.{kind_at, clients_of, state_of}

-- how long the tables are; the links say their own length
pub record Sized (t : Tables) : Type 0 where
  pub terms : length t.terms ≡ term_columns * ids
  pub stocks : length t.stocks ≡ stock_columns * ids
  pub handles : length t.handles ≡ ids * places
  pub lengths : length t.lengths ≡ ids * places
  pub counts : length t.counts ≡ count_columns * ids

-- how the tables are laid out, apart from what they mean
pub record Shape (c : Control) (t : Tables) : Type 0 where
  pub sizes : Sized t
  pub heads : (id : ℕ) → id < ids → head_at t.stocks id < places
  -- "The ids that have packets waiting are one word of 64 marks"
  pub waits : (id : ℕ) → marked c.waiting id ≡ ltb id ids && not (eqb (count_at t.stocks id) 0)
  -- no id is of both types
  pub apart : (id : ℕ) → marked c.private id ≡ true → marked c.indifferent id ≡ false
  pub rates_held : c.rates ≡ rates (clients_of c t)
  -- the order of acceptance has the places of the indifferent queues, each queue's from its front
  pub sound : Sound t.links
  pub order : List ℕ
  pub ordered : Ordered t.links order
  pub placed : (id : ℕ) → id < ids
      → places_of id order ≡ cond (is_indifferent (kind_at c id)) (ring id (head_at t.stocks id) (count_at t.stocks id)) []

pub record SoundCore (c : Control) (t : Tables) : Type 0 where
  pub shape : Shape c t
  pub limits : StateLimits (state_of c t)

-- an unopened core asks nothing of its tables
abbrev pub Valid : Control → Tables → Type 0
Valid c t = c.opened ≡ true → SoundCore c t
