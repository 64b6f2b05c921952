-- What the code's progress and tables stand for, and what its functions promise of it.
use Rattle.std.specs.Prelude.{◌≡◌, ℕ}
use Rattle.grammar.specs.declared.Call.{Call}
use Rattle.grammar.specs.Calls.{event_of}
use Rattle.tables.specs.declared.Tables.{Tables}
use Rattle.tables.specs.Meaning.{core_of}
use Rattle.tables.specs.Promise.{Meets}
use Rattle.runs.specs.declared.Maker.{Maker}
use Rattle.runs.specs.declared.Progress.{Progress}
use Rattle.runs.specs.declared.Draws.{Draws}
use Rattle.runs.specs.declared.Taken.{Taken}
use Rattle.runs.specs.Calls.{k_of, quiet_after}
use Rattle.runs.specs.Check.{check_with}
use Rattle.runs.specs.LongRun.{LongRun, begun, nth_draw, next}
use Rattle.runs.specs.Advance.{BeginsAs, Advances}

abbrev pub run_of : Progress → Tables → LongRun
run_of p t = record {
  core = core_of p.control t;
  value = p.maker.generator.value;
  quiet = p.maker.quiet;
  check = p.check;
}

-- before the first call from a seed
abbrev pub Begins : ℕ → Progress → Type 0
Begins seed = BeginsAs (λ p. p.control) run_of (begun seed)

-- the four draws from a maker, and the maker behind them
pub record Drawn (m : Maker) (w : Draws) : Type 0 where
  pub first : w.a ≡ nth_draw 1 m.generator.value
  pub second : w.b ≡ nth_draw 2 m.generator.value
  pub third : w.c ≡ nth_draw 3 m.generator.value
  pub fourth : w.d ≡ nth_draw 4 m.generator.value
  pub value : w.maker.generator.value ≡ nth_draw 4 m.generator.value
  pub quiet : w.maker.quiet ≡ quiet_after (k_of (nth_draw 1 m.generator.value)) m.quiet

-- a call on progress p and tables t, whose draws left a maker, gives r and leaves u
pub record Takes (call : Call) (drawn : Maker) (p : Progress) (t : Tables) (r : Taken) (u : Tables) : Type 0 where
  pub meets : Meets (event_of call) p.control t (record { control = r.progress.control; answer = r.answer }) u
  pub maker : r.progress.maker ≡ drawn
  pub check : r.progress.check ≡ check_with p.check r.answer

-- so many calls on progress p and tables t leave q and u
abbrev pub Goes : ℕ → Progress → Tables → Progress → Tables → Type 0
Goes = Advances (λ p. p.control) run_of next
