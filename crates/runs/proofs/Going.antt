-- How a long run of the code goes on: none of the calls, one of them, and some after some. Assumes nothing.
use Rattle.std.proofs.Common.{◌≡◌, ℕ, zero, suc, ◌+◌, sym, refl, ap, ◌∙◌, subst, add-zero, add-suc}
use Rattle.grammar.specs.declared.Call.{Call}
use Rattle.definitions.specs.Core.{step}
use Rattle.grammar.specs.Calls.{event_of}
use Rattle.tables.specs.declared.Control.{Control}
use Rattle.tables.specs.declared.Tables.{Tables}
use Rattle.tables.specs.Meaning.{core_of}
use Rattle.tables.specs.Invariant.{Valid}
use Rattle.runs.specs.declared.Progress.{Progress}
use Rattle.runs.specs.declared.Draws.{Draws}
use Rattle.runs.specs.declared.Taken.{Taken}
use Rattle.runs.specs.Calls.{call_at, k_of}
use Rattle.runs.specs.LongRun.{LongRun, taken, call_from, next, after}
use Rattle.runs.specs.Advance.{repeated, BeginsAs, Advances}
use Rattle.runs.specs.Stands.{run_of, Begins, Drawn, Takes, Goes}

repeated_add : {R : Type 0} (next : R → R) (run : R) (m n : ℕ) → repeated next (m + n) run ≡ repeated next n (repeated next m run)
unfolding repeated
repeated_add next run m zero = ap (λ (k : ℕ). repeated next k run) (add-zero m)
repeated_add next run m (suc n) = ap (λ (k : ℕ). repeated next k run) (add-suc m n) ∙ ap next (repeated_add next run m n)

-- of a run of any kind
module _ {P R : Type 0} {control : P → Control} {meaning : P → Tables → R} {next : R → R} where
  pub goes_none : (p : P) (t : Tables) → Valid (control p) t → Advances control meaning next 0 p t p t
  unfolding repeated
  goes_none p t v = record { run = refl; valid = v }

  pub goes_as : {p q : P} {t u : Tables} {m n : ℕ} → m ≡ n → Advances control meaning next m p t q u
      → Advances control meaning next n p t q u
  goes_as {p = p} {q = q} {t = t} {u = u} e g = subst (λ (k : ℕ). Advances control meaning next k p t q u) e g

  -- some calls after some
  pub goes_on : {p q r : P} {t u w : Tables} {m n : ℕ} → Advances control meaning next m p t q u
      → Advances control meaning next n q u r w
      → Advances control meaning next (m + n) p t r w
  goes_on {p = p} {t = t} {m = m} {n = n} g h = record {
    run = h.run ∙ ap (repeated next n) g.run ∙ sym (repeated_add next (meaning p t) m n);
    valid = h.valid;
  }

  -- what so many calls from the beginning of a run leave
  pub goes_from : {first : R} {p q : P} {t u : Tables} {n : ℕ} → BeginsAs control meaning first p
      → Advances control meaning next n p t q u
      → meaning q u ≡ repeated next n first
  goes_from {t = t} {n = n} b g = g.run ∙ ap (repeated next n) (b.run t)

-- what a run has behind a call that is taken
pub takes_run : (p : Progress) (t : Tables) {w : Draws} {call : Call} {r : Taken} {u : Tables}
    → Drawn p.maker w
    → Takes call w.maker p t r u
    → run_of r.progress u ≡ taken (run_of p t) (step (core_of p.control t) (event_of call))
takes_run p t drawn k = cc (k.meets.core, k.meets.answer, k.maker, k.check, drawn.value, drawn.quiet)

-- one call: the four draws, the call that they make, and that it is taken
pub goes_once : (p : Progress) (t : Tables) {w : Draws} {call : Call} {r : Taken} {u : Tables}
    → Drawn p.maker w
    → call ≡ call_at p.maker.quiet (k_of w.a) w.b w.c w.d
    → Takes call w.maker p t r u
    → Goes 1 p t r.progress u
unfolding repeated next call_from
goes_once p t drawn made k = record {
  run = cc (takes_run p t drawn k, drawn.first, drawn.second, drawn.third, drawn.fourth);
  valid = k.meets.valid;
}

-- the check after so many calls from a seed
pub check-after : (seed : ℕ) {p q : Progress} {t u : Tables} {n : ℕ} → Begins seed p → Goes n p t q u
    → q.check ≡ (after seed n).check
unfolding after
check-after seed b g = ap (λ (x : LongRun). x.check) (goes_from b g)
