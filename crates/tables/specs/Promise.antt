-- What a call promises (paper 01): "answer and state are what this document's definitions give for the arguments and the
-- state before, refused calls too". And the tables stay valid.
use Rattle.std.specs.Prelude.{◌≡◌}
use Rattle.definitions.specs.Event.{Event}
use Rattle.definitions.specs.Core.{step}
use Rattle.tables.specs.declared.Control.{Control}
use Rattle.tables.specs.declared.Answered.{Answered}
use Rattle.tables.specs.declared.Tables.{Tables}
use Rattle.tables.specs.Meaning.{core_of}
use Rattle.tables.specs.Invariant.{Valid}

-- the call on control c and tables t gives r, and leaves the tables u
pub record Meets (call : Event) (c : Control) (t : Tables) (r : Answered) (u : Tables) : Type 0 where
  pub answer : r.answer ≡ (step (core_of c t) call).answer
  pub core : core_of r.control u ≡ (step (core_of c t) call).core
  pub valid : Valid r.control u
