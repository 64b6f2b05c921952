-- Where a run starts: with no earlier history, and behind one. Assumes nothing.
use Prim.Native.Nat.{ℕ}
use mathlib.Core.Path.{◌≡◌, ap, ◌∙◌}
use mathlib.Core.Logic.{◌≢◌}
use borrow.Author.Tests.{eq-eqb, ne_eqb}
use Rattle.tables.specs.declared.Tables.{Tables}
use Rattle.runs.specs.declared.Progress.{Progress}
use Rattle.runs.specs.LongRun.{LongRun, begun_on, further, after, block}
use Rattle.runs.specs.Stands.{Begins, Goes}
use Rattle.runs.proofs.Going.{goes_from}
use Rattle.remains.specs.Started.{behind, started, Starts}

pub starts_unopened : {earlier seed : ℕ} {p : Progress} {t : Tables} → earlier ≡ 0 → Begins seed p → Starts earlier seed p t
unfolding started
starts_unopened {earlier = earlier} {t = t} none b = record { run = rw (eq-eqb earlier 0 none) (b.run t); valid = b.valid t }

pub starts-behind : {earlier seed : ℕ} {p q r : Progress} {t u : Tables} → earlier ≢ 0 → Begins earlier p → Goes block p t q u
    → Begins seed r
    → Starts earlier seed (record { control = q.control; maker = r.maker; check = r.check }) u
unfolding started behind begun_on after
starts-behind {earlier = earlier} {u = u} some b g anew =
    let left = goes_from b g in
    let first = anew.run u in
    record {
      run = rw (ne_eqb earlier 0 some)
          (λ i. record { core = (left i).core; value = (first i).value; quiet = (first i).quiet; check = (first i).check });
      valid = g.valid;
    }

-- the check after so many calls from there
pub check_from : {earlier seed : ℕ} {p q : Progress} {t u : Tables} {n : ℕ} → Starts earlier seed p t → Goes n p t q u
    → q.check ≡ (further n (started earlier seed)).check
check_from {n = n} s g = ap (λ (x : LongRun). x.check) (g.run ∙ ap (further n) s.run)
