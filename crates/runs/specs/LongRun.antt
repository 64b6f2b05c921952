-- A long run (docs/LONG_RUNS.md): it "makes calls from a seed and keeps a running check of the answers".
use Rattle.std.specs.Prelude.{ℕ, zero, suc, Bool, false}
use Rattle.grammar.specs.declared.Call.{Call}
use Rattle.definitions.specs.Generator.{stepped}
use Rattle.definitions.specs.State.{Core, unopened}
use Rattle.definitions.specs.Checks.{Result}
use Rattle.definitions.specs.Core.{step}
use Rattle.grammar.specs.Calls.{event_of}
use Rattle.runs.specs.Calls.{call_at, k_of, quiet_after}
use Rattle.runs.specs.Check.{check_with}
use Rattle.runs.specs.Advance.{repeated}

-- what a long run has between two calls: the core, the value of the maker of calls, whether the time is quiet, and the check
pub record LongRun : Type 0 where
  pub core : Core
  pub value : ℕ
  pub quiet : Bool
  pub check : ℕ

-- on a core: the value "at first the seed", the first time "is busy", the check "at first 0"
unfoldable pub begun_on : Core → ℕ → LongRun
begun_on core seed = record { core = core; value = seed; quiet = false; check = 0 }

-- "The first call is made on an unopened core."
abbrev pub begun : ℕ → LongRun
begun = begun_on unopened

-- the n-th draw: it "steps it by xorshift32 .. and gives the new v"
unfoldable pub nth_draw : ℕ → ℕ → ℕ
nth_draw zero v = v
nth_draw (suc n) v = stepped (nth_draw n v)

unfoldable pub call_from : Bool → ℕ → Call
call_from quiet v = call_at quiet (k_of (nth_draw 1 v)) (nth_draw 2 v) (nth_draw 3 v) (nth_draw 4 v)

-- a call's answer goes into the check, and its k may end the time
abbrev pub taken : LongRun → Result → LongRun
taken run result = record {
  core = result.core;
  value = nth_draw 4 run.value;
  quiet = quiet_after (k_of (nth_draw 1 run.value)) run.quiet;
  check = check_with run.check result.answer;
}

-- one call more, and so many
unfoldable pub next : LongRun → LongRun
next run = taken run (step run.core (event_of (call_from run.quiet run.value)))

abbrev pub further : ℕ → LongRun → LongRun
further = repeated next

unfoldable pub after : ℕ → ℕ → LongRun
after seed calls = further calls (begun seed)

-- "A block is 1,000,000 calls."
abbrev pub block : ℕ
block = 1000000
