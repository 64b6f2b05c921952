-- What happens to a core: a call, with all that it is given (paper 01, "The calls"). Any number may stand anywhere.
-- Histories are made of these, and not of what the code hands from function to function:
-- an event may hold what no value of the code does.
use Rattle.std.specs.Prelude.{ℕ}
use Rattle.definitions.specs.declared.Packet.{Packet}

pub data Event : Type 0 where
  -- threshold, discipline and seed
  Open : ℕ → ℕ → ℕ → Event
  -- id, kind (the paper's type), rate and burst
  Join Change : ℕ → ℕ → ℕ → ℕ → Event
  -- id
  Leave : ℕ → Event
  -- id and dummies
  Load : ℕ → ℕ → Event
  -- id and packet
  Arrive : ℕ → Packet → Event
  Tick : Event
