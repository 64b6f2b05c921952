-- A long run with a greedy client (docs/LONG_RUNS.md): "The maker of calls and the check are as ever, and so is that each call
-- takes four draws, a, b, c and d. Beside them the run keeps a phase", and counts.
use Rattle.std.specs.Prelude.{ℕ}
use Rattle.definitions.specs.State.{Core, unopened, running}
use Rattle.definitions.specs.Checks.{Result}
use Rattle.definitions.specs.Core.{step}
use Rattle.grammar.specs.declared.Call.{Call}
use Rattle.grammar.specs.Calls.{event_of}
use Rattle.runs.specs.Advance.{repeated}
use Rattle.runs.specs.LongRun.{LongRun, nth_draw, taken}
use Rattle.runs.specs.LongRun
use Rattle.greedy.specs.declared.Counts.{Counts}
use Rattle.greedy.specs.Phases.{greedy, call_in, turned}

-- what such a run has between two calls
pub record GreedyRun : Type 0 where
  pub run : LongRun
  pub counts : Counts

-- "0 at first"
unfoldable pub begun : ℕ → GreedyRun
begun seed = record {
  run = LongRun.begun seed;
  counts = record { phase = 0; rate = 0; level = 0; ticks = 0; accepted = 0; offerings = 0; exact = 0 };
}

-- "On an unopened core the level of client 9 is 0."
unfoldable pub level_in : Core → ℕ
level_in unopened = 0
level_in (running s) = (s.clients greedy).level

-- the call that a phase makes from a value
unfoldable pub call_from : ℕ → ℕ → Call
call_from phase v = call_in phase (nth_draw 1 v) (nth_draw 2 v) (nth_draw 3 v) (nth_draw 4 v)

-- a call's answer goes into the check, and into the counts
abbrev pub taken_by : GreedyRun → Result → GreedyRun
taken_by g result = record {
  run = taken g.run result;
  counts = turned g.counts result.answer (nth_draw 3 g.run.value) (nth_draw 4 g.run.value) (level_in result.core);
}

-- one call more, and so many
unfoldable pub next : GreedyRun → GreedyRun
next g = taken_by g (step g.run.core (event_of (call_from g.counts.phase g.run.value)))

unfoldable pub after : ℕ → ℕ → GreedyRun
after seed calls = repeated next calls (begun seed)
