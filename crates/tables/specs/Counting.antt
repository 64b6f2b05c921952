-- What becomes of the counts (paper 02, S-7): after every call they are what the definitions enter for it in those before, by its answer.
-- "A refusal 14 or 15 now changes its own count and nothing else."
use Rattle.std.specs.Prelude.{ℕ, ◌≡◌}
use Rattle.definitions.specs.Event.{Event}
use Rattle.definitions.specs.Counts.{Count, counts_after}
use Rattle.tables.specs.declared.Control.{Control}
use Rattle.tables.specs.declared.Answered.{Answered}
use Rattle.tables.specs.declared.Tables.{Tables}
use Rattle.tables.specs.Meaning.{core_of, counts_of}

-- of the call on control c and tables t that gave r and left the tables u
pub record Counts (call : Event) (c : Control) (t : Tables) (r : Answered) (u : Tables) : Type 0 where
  pub each : (id : ℕ) (count : Count)
      → counts_of r.control u id count ≡ counts_after (core_of c t) call r.answer (counts_of c t) id count
