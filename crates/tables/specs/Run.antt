-- A run of the code: calls one after the other from an unopened core, each keeping its promise, with the answers that they
-- gave. `CodeSameness` is demand 3 for any two runs: "one claim about two whole histories of any length, not a claim for each
-- call" (paper 01, "Two histories"). What is compared is what the definitions compare: the answers are those of the code, and
-- what a client holds, whom a slot picks and by which draws is read off the core that the tables mean.
use Rattle.std.specs.Prelude.{ℕ, ◌≡◌, ◌≢◌}
use Rattle.definitions.specs.Event.{Event}
use Rattle.definitions.specs.State.{Core, unopened}
use Rattle.definitions.specs.History.{History, start, ◌then◌, calls, Dealing, Trace, begin, ◌and◌, Scheduler, after, answer_at, trace_of, pick_of, draws_of, holdings_of, scheduler}
use Rattle.definitions.specs.Sameness.{kept, LooksSame}
use Rattle.definitions.specs.Limits.{CoreLimits}
use Rattle.definitions.specs.Fits.{HistoryFits, CoreFits}
use Rattle.definitions.specs.WrongVersions.{Differs}
use Rattle.tables.specs.declared.Control.{Control}
use Rattle.tables.specs.declared.Answered.{Answered}
use Rattle.tables.specs.declared.Tables.{Tables}
use Rattle.tables.specs.Meaning.{core_of}
use Rattle.tables.specs.Invariant.{Valid}
use Rattle.tables.specs.Promise.{Meets}

-- what was dealt where a call on control c and tables t gave r
abbrev pub dealing : Event → Control → Tables → Answered → Dealing
dealing call c t r = record { event = call; answer = r.answer; pick = pick_of (core_of c t); draws = draws_of (core_of c t) }

-- the trace is that of the calls made, and control and tables are those after the last one
pub data Reached : Trace → Control → Tables → Type 0 where
  begun : {c : Control} {t : Tables} → core_of c t ≡ unopened → Reached begin c t
  called : {trace : Trace} {c : Control} {t u : Tables} {call : Event} {r : Answered}
      → Reached trace c t
      → Meets call c t r u
      → Reached (trace and dealing call c t r) r.control u

pub record Run : Type 0 where
  pub trace : Trace
  pub control : Control
  pub tables : Tables
  pub reached : Reached trace control tables

-- what the tables of a run mean
unfoldable pub core_after : Run → Core
core_after run = core_of run.control run.tables

-- a run with one call more
abbrev pub further : (run : Run) {call : Event} {r : Answered} {u : Tables} → Meets call run.control run.tables r u → Run
further run {call} {r} {u} m = record {
  trace = run.trace and dealing call run.control run.tables r;
  control = r.control;
  tables = u;
  reached = called run.reached m;
}

-- "A place is a call's position in its history, or the history's end": the run up to there.
pub data PlaceOf (place : Run) : Run → Type 0 where
  end : PlaceOf place place
  before : {whole : Run} {call : Event} {r : Answered} {u : Tables} (m : Meets call whole.control whole.tables r u)
      → PlaceOf place whole
      → PlaceOf place (further whole m)

-- Any chosen client, any two runs whose kept calls "agree in order and arguments", and any place of either at which both have
-- as many kept calls behind them.
unfoldable pub CodeSameness : Type 0
CodeSameness =
    (chosen : ℕ) (R Q : Run)
    → kept chosen R.trace ≡ kept chosen Q.trace
    → (r q : Run)
    → PlaceOf r R
    → PlaceOf q Q
    → calls (kept chosen r.trace) ≡ calls (kept chosen q.trace)
    → LooksSame chosen r.trace (holdings_of (core_after r)) q.trace (holdings_of (core_after q))

-- Wherever a run has come, what a call requires holds: so any call may be made next.
unfoldable pub CodeValid : Type 0
CodeValid = (run : Run) → Valid run.control run.tables

-- the calls of a trace, without what they got
unfoldable pub calls_of : Trace → History
calls_of begin = start
calls_of (t and d) = calls_of t then d.event

-- Demand 2 for the code: a run is the trace that the definitions give to its calls, and its tables mean the core that they reach.
pub record Defined (run : Run) : Type 0 where
  pub dealt : run.trace ≡ trace_of scheduler (calls_of run.trace)
  pub core : core_after run ≡ after scheduler (calls_of run.trace)

unfoldable pub CodeDefined : Type 0
CodeDefined = (run : Run) → Defined run

-- So the limits hold of what the tables mean, and those of generator and handles where the calls' numbers are within theirs.
pub record CodeLimits : Type 0 where
  pub limits : (run : Run) → CoreLimits (core_after run)
  pub fits : (run : Run) → HistoryFits (calls_of run.trace) → CoreFits (core_after run)

-- What keeps the promise is none of the wrong versions: where a history and a call behind it show that a scheduler differs, every
-- run of that history and that call got another answer to it than that scheduler gives.
unfoldable pub NeverWrong : Type 1
NeverWrong =
    (S : Scheduler) (wrong : Differs S) (run : Run) (before : Trace) (last : Dealing)
    → run.trace ≡ before and last
    → calls_of before ≡ wrong.history
    → last.event ≡ wrong.event
    → last.answer ≢ answer_at S wrong.history wrong.event
