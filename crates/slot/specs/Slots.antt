-- A slot before its refill: what the one whose slot it is has sent.
-- "A slot goes by the first of the tick's rules 1 to 3 that applies" (paper 01).
use Rattle.std.specs.Prelude.{ℕ, ◌≡◌, List}
use Rattle.definitions.specs.State.{State, updated}
use Rattle.definitions.specs.Tick.{Turn, turn, outcome_by, side_after}
use Rattle.tables.specs.declared.Control.{Control}
use Rattle.tables.specs.declared.Tables.{Tables}
use Rattle.tables.specs.Tables.{tables}
use Rattle.tables.specs.Meaning.{state_of}
use Rattle.tables.specs.Invariant.{Shape, SoundCore}
use Rattle.slot.specs.declared.Choice.{Choice}
use Rattle.slot.specs.declared.Sent.{Sent}
use Rattle.slot.specs.Turns.{Chosen}

-- the state after rules 1 to 3, and before rule 4
unfoldable pub unfilled : State → Turn → State
unfilled s t = updated s s.clients (side_after s.side t)

-- the choice is the turn of a sound core
pub record Due (c : Control) (t : Tables) (choice : Choice) : Type 0 where
  pub core : SoundCore c t
  pub chosen : Chosen choice (turn (state_of c t))

-- the turn is done, and the buckets are not refilled yet
pub record Done (c : Control) (t : Tables) (r : Sent) (u : Tables) : Type 0 where
  pub outcome : r.outcome ≡ outcome_by (turn (state_of c t)).rule (turn (state_of c t)).id (state_of c t)
  pub state : state_of r.control u ≡ unfilled (state_of c t) (turn (state_of c t))
  pub shape : Shape r.control u
  pub opened : r.control.opened ≡ c.opened
  pub indifferent : r.control.indifferent ≡ c.indifferent

-- Doing a turn reads and writes no terms and no counts. There are such with which it is due, ..
abbrev pub SomeDue : Control → List ℕ → List ℕ → List ℕ → List ℕ → Choice → Type 0
SomeDue c stocks handles lengths links choice =
    (terms : List ℕ) × (counts : List ℕ) × Due c (tables terms stocks handles lengths links counts) choice

-- .. and whatever these are, if it is due, it is done.
abbrev pub Does : Control → List ℕ → List ℕ → List ℕ → List ℕ → Choice → Sent → List ℕ → List ℕ → Type 0
Does c stocks handles lengths links choice r stocks' links' =
    (terms counts : List ℕ)
    → Due c (tables terms stocks handles lengths links counts) choice
    → Done c (tables terms stocks handles lengths links counts) r (tables terms stocks' handles lengths links' counts)
