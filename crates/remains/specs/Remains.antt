-- The places where no packet waits, and the tables with a number written into each of them (paper 02, S-3: "two cores that differ
-- only in places where no packet waits").
use Rattle.std.specs.Prelude.{ℕ, zero, suc, ◌+◌, ◌-◌, ◌%◌, ◌<◌, ◌≡◌, Bool, cond, List, ltb, set}
use Rattle.definitions.specs.Sizes.{places}
use Rattle.order.specs.Order.{sentinel}
use Rattle.order.specs.Owner.{owner}
use Rattle.tables.specs.declared.Control.{Control}
use Rattle.tables.specs.declared.Tables.{Tables}
use Rattle.tables.specs.Tables.{tables, head_at, count_at}
use Rattle.tables.specs.Meaning.{packet_at}
use Rattle.tables.specs.Invariant.{Sized, Valid}
use Rattle.tables.specs.Unused.{DifferUnused, Unused}

-- how many places a place lies behind the head of its id's queue, in the ring; any number may stand as the head
unfoldable pub behind_head : List ℕ → ℕ → ℕ
behind_head stocks place = (place % places + (places - head_at stocks (owner place) % places)) % places

-- a packet waits at a place
unfoldable pub waits_at : List ℕ → ℕ → Bool
waits_at stocks place = ltb (behind_head stocks place) (count_at stocks (owner place))

-- a table of the places with a number written into one where no packet waits
unfoldable pub overwritten_at : List ℕ → ℕ → ℕ → List ℕ → List ℕ
overwritten_at stocks number place table = cond (waits_at stocks place) table (set table place number)

-- the same for the first n places, and for all
unfoldable pub overwritten_below : ℕ → List ℕ → ℕ → List ℕ → List ℕ
overwritten_below zero stocks number table = table
overwritten_below (suc n) stocks number table = overwritten_at stocks number n (overwritten_below n stocks number table)

unfoldable pub overwritten_unused : List ℕ → ℕ → List ℕ → List ℕ
overwritten_unused stocks number table = overwritten_below sentinel stocks number table

-- one number as handle, and one as length
abbrev pub overwritten_tables : ℕ → ℕ → Tables → Tables
overwritten_tables handle length t =
    tables t.terms t.stocks (overwritten_unused t.stocks handle t.handles)
    (overwritten_unused t.stocks length t.lengths) t.links t.counts

-- every place where no packet waits is overwritten, and the tables differ there alone
pub record UnusedOverwritten : Type 0 where
  pub written : (t : Tables) (handle length place : ℕ) → Sized t → place < sentinel → Unused t place
      → packet_at (overwritten_tables handle length t) place ≡ record { handle = handle; length = length }
  pub differ : (c : Control) (t : Tables) (handle length : ℕ) → Valid c t → DifferUnused c t (overwritten_tables handle length t)
