-- What a client whose slot it is sends, and what is left of it in control and tables.
-- "The one drawn sends its first packet; without one, a dummy" (paper 01).
use Rattle.std.specs.Prelude.{ℕ, ◌+◌, ◌-◌, ◌%◌, ◌<◌, ◌≡◌, ◌≢◌, Bool, true, false, cond, not, ◌&&◌, List, ◌∷◌, ◌++◌, eqb}
use Rattle.definitions.specs.Sizes.{ids, places}
use Rattle.definitions.specs.Stock.{spent}
use Rattle.definitions.specs.State.{State, updated, put, without_first}
use Rattle.definitions.specs.Tick.{sent}
use Rattle.marks.specs.Marks.{marked}
use Rattle.order.specs.Order.{Sound, Ordered}
use Rattle.tables.specs.declared.Control.{Control}
use Rattle.tables.specs.declared.Tables.{Tables}
use Rattle.tables.specs.Tables.{tables, head_column, count_column, written, head_at, count_at}
use Rattle.tables.specs.Controls.{with_waiting}
use Rattle.tables.specs.Meaning.{clients_of, stocks_of, order_of, state_of}
use Rattle.tables.specs.Invariant.{Shape, SoundCore}
use Rattle.slot.specs.declared.Sent.{Sent}

-- an id has lost its mark if it has no packet left
pub record Settled (c : Control) (left id : ℕ) (d : Control) : Type 0 where
  pub same : d ≡ with_waiting c d.waiting
  pub marks : (j : ℕ) → marked d.waiting j ≡ marked c.waiting j && not (eqb j id && eqb left 0)

-- a queue of the table without its first packet
unfoldable pub popped : List ℕ → ℕ → List ℕ
popped stocks id =
    written (written stocks head_column id ((head_at stocks id + 1) % places)) count_column id (count_at stocks id - 1)

-- a place is out of the order, if it was in it
pub record Unlinked (within : Bool) (place : ℕ) (before after : List ℕ) : Type 0 where
  pub sound : Sound after
  pub kept : within ≡ false → after ≡ before
  pub gone : within ≡ true → (front behind : List ℕ) → Ordered before (front ++ place ∷ behind) → Ordered after (front ++ behind)

-- who may send: any id but an indifferent one without a packet, whose slot it never is
pub record Sender (c : Control) (t : Tables) (id : ℕ) : Type 0 where
  pub core : SoundCore c t
  pub below : id < ids
  pub waits : marked c.indifferent id ≡ true → count_at t.stocks id ≢ 0

-- the state once an id has sent: an indifferent one's packet has left the order too
unfoldable pub state_after : Control → Tables → ℕ → State
state_after c t id =
    updated (state_of c t) (clients_of c t) (record {
      generator = c.generator.value;
      order = cond (marked c.indifferent id) (without_first id (order_of t)) (order_of t);
      stocks = put (stocks_of t) id (spent (stocks_of t id));
    })

-- an id has sent what it sends in its slot, and nothing else has changed
pub record Spent (c : Control) (t : Tables) (id : ℕ) (r : Sent) (u : Tables) : Type 0 where
  pub outcome : r.outcome ≡ sent id (clients_of c t id) (stocks_of t id)
  pub state : state_of r.control u ≡ state_after c t id
  pub shape : Shape r.control u
  pub same : r.control ≡ with_waiting c r.control.waiting

-- Sending reads and writes no terms and no counts. There are such with which the id may send, ..
abbrev pub SomeSender : Control → List ℕ → List ℕ → List ℕ → List ℕ → ℕ → Type 0
SomeSender c stocks handles lengths links id =
    (terms : List ℕ) × (counts : List ℕ) × Sender c (tables terms stocks handles lengths links counts) id

-- .. and whatever these are, if it may, it has sent.
abbrev pub Spends : Control → List ℕ → List ℕ → List ℕ → List ℕ → ℕ → Sent → List ℕ → List ℕ → Type 0
Spends c stocks handles lengths links id r stocks' links' =
    (terms counts : List ℕ)
    → Sender c (tables terms stocks handles lengths links counts) id
    → Spent c (tables terms stocks handles lengths links counts) id r (tables terms stocks' handles lengths links' counts)
