-- How a run of the code with a greedy client goes on: one of its calls, and what is told behind so many. Assumes nothing.
use Rattle.std.proofs.Common.{◌≡◌, ℕ, ap}
use Rattle.grammar.specs.declared.Call.{Call}
use Rattle.tables.specs.declared.Tables.{Tables}
use Rattle.tables.specs.Meaning.{core_of}
use Rattle.runs.specs.declared.Draws.{Draws}
use Rattle.runs.specs.declared.Taken.{Taken}
use Rattle.runs.specs.Advance.{repeated}
use Rattle.runs.specs.Stands.{Drawn, Takes}
use Rattle.runs.proofs.Going.{goes_from, takes_run}
use Rattle.greedy.specs.declared.Counts.{Counts}
use Rattle.greedy.specs.declared.GreedyProgress.{GreedyProgress}
use Rattle.greedy.specs.Phases.{call_in, turned}
use Rattle.greedy.specs.GreedyRun.{GreedyRun, level_in, call_from, next, after}
use Rattle.greedy.specs.Stands.{Begins, Goes, Tells}

-- one call: the four draws, the call that the phase makes of them, that it is taken, and the counts after it
pub goes_once : (p : GreedyProgress) (t : Tables) {w : Draws} {call : Call} {r : Taken} {u : Tables} {level : ℕ} {k : Counts}
    → Drawn p.progress.maker w
    → call ≡ call_in p.counts.phase w.a w.b w.c w.d
    → Takes call w.maker p.progress t r u
    → level ≡ level_in (core_of r.progress.control u)
    → k ≡ turned p.counts r.answer w.c w.d level
    → Goes 1 p t (record { progress = r.progress; counts = k }) u
unfolding repeated next call_from
goes_once p t drawn made taken high counted = record {
  run = cc (
    takes_run p.progress t drawn taken,
    taken.meets.core,
    taken.meets.answer,
    drawn.first,
    drawn.second,
    drawn.third,
    drawn.fourth,
  );
  valid = taken.meets.valid;
}

-- what is told after so many calls from a seed
pub tells_after : {seed : ℕ} {p q : GreedyProgress} {t u : Tables} {n : ℕ} → Begins seed p → Goes n p t q u
    → Tells seed n q.progress.check q.counts.offerings q.counts.exact
unfolding after
tells_after b g =
    let e = goes_from b g in
    record {
      checked = ap (λ (x : GreedyRun). x.run.check) e;
      offered = ap (λ (x : GreedyRun). x.counts.offerings) e;
      compared = ap (λ (x : GreedyRun). x.counts.exact) e;
    }
