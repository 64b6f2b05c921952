-- What the code's progress and tables stand for, and what its functions promise of it.
use Rattle.std.specs.Prelude.{◌≡◌, ℕ}
use Rattle.tables.specs.declared.Tables.{Tables}
use Rattle.runs.specs.Advance.{BeginsAs, Advances}
use Rattle.runs.specs.Stands.{run_of}
use Rattle.greedy.specs.declared.GreedyProgress.{GreedyProgress}
use Rattle.greedy.specs.GreedyRun.{GreedyRun, begun, next, after}

abbrev pub greedy_of : GreedyProgress → Tables → GreedyRun
greedy_of p t = record { run = run_of p.progress t; counts = p.counts }

-- before the first call from a seed
abbrev pub Begins : ℕ → GreedyProgress → Type 0
Begins seed = BeginsAs (λ p. p.progress.control) greedy_of (begun seed)

-- so many calls on progress p and tables t leave q and u
abbrev pub Goes : ℕ → GreedyProgress → Tables → GreedyProgress → Tables → Type 0
Goes = Advances (λ p. p.progress.control) greedy_of next

-- what is told of the run from a seed after so many calls: "(calls N check H offerings F exact E)"
pub record Tells (seed calls check offerings exact : ℕ) : Type 0 where
  pub checked : check ≡ (after seed calls).run.check
  pub offered : offerings ≡ (after seed calls).counts.offerings
  pub compared : exact ≡ (after seed calls).counts.exact
