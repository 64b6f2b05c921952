-- There are runs as crates/tables, Run, speaks of them: one before any call and, behind any run, a further one with an open,
-- accepted or refused. That any other call may follow is `CodeValid` there, with that call's contract.
use Rattle.std.specs.Prelude.{ℕ, ◌≡◌}
use Rattle.definitions.specs.Event.{Open}
use Rattle.definitions.specs.History.{start, ◌then◌}
use Rattle.tables.specs.Run.{Run, calls_of}

pub record Openings : Type 0 where
  pub none : (run : Run) × (calls_of run.trace ≡ start)
  pub more : (run : Run) (threshold discipline seed : ℕ)
      → (further : Run) × (calls_of further.trace ≡ calls_of run.trace then Open threshold discipline seed)
