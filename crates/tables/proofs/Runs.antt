-- A run of the code is the trace of the definitions, however long it is and whatever is called: its answers are theirs, and its
-- tables mean the core that they reach, since it is the stretch of its calls from an unopened core on. So demand 3 of all
-- histories is so of all runs, and no run got the answer by which a scheduler differs. Assumes nothing but the promises that a
-- run is made of.
use Prim.Native.Nat.{ℕ}
use mathlib.Core.Path.{◌≡◌, sym, ap, ap₂, ◌∙◌}
use mathlib.Core.Bool.{Bool, true, false}
use Rattle.definitions.specs.declared.Answer.{Answer}
use Rattle.definitions.specs.declared.Answer.TheVariants.{Accepted}
use Rattle.definitions.specs.State.{Core, unopened, running}
use Rattle.definitions.specs.History.{Place, end, before, calls, Trace, begin, ◌and◌, Holdings, after, answer_at, dealing_at, trace_of, holdings_of, scheduler}
use Rattle.definitions.specs.Sameness.{kept, LooksSame, Sameness}
use Rattle.definitions.specs.Stretch.{stretch, behind}
use Rattle.definitions.specs.Limits.{Limits}
use Rattle.definitions.specs.Fits.{Fits}
use Rattle.definitions.proofs.Laws.Tests.{true-false}
use Rattle.definitions.proofs.Sameness.Theorem.{sameness}
use Rattle.definitions.proofs.Limits.{limits}
use Rattle.definitions.proofs.Fits.{fits}
use Rattle.tables.specs.declared.Control.{Control}
use Rattle.tables.specs.declared.Tables.{Tables}
use Rattle.tables.specs.Meaning.{core_of}
use Rattle.tables.specs.Invariant.{Valid}
use Rattle.tables.specs.Promise.{Meets}
use Rattle.tables.specs.Run.{Reached, begun, called, Run, core_after, PlaceOf, CodeSameness, CodeValid, calls_of, CodeDefined, CodeLimits, NeverWrong}
use Rattle.tables.specs.Run as run
use Rattle.tables.specs.CallsFrom.{CallsFrom, here}
use Rattle.tables.specs.CallsFrom as calls_from
use Rattle.tables.proofs.Promises.{core_of-opened}
use Rattle.tables.proofs.DefinedCalls.{from_core, from_trace}

unfoldable pub runs : Core → Bool
runs unopened = false
runs (running s) = true

-- a run is calls from an unopened core on
reached_from : {t : Trace} {c : Control} {m : Tables}
    → Reached t c m
    → (d : Control) × (u : Tables) × (core_of d u ≡ unopened) × CallsFrom Meets d u t c m
reached_from (begun {c} {t} e) = (c, t, e, here)
reached_from (called run m) = let from = reached_from run in (from.0, from.1, from.2, calls_from.called from.3 m)

-- the tables mean the core that the definitions reach
pub reached_core : {t : Trace} {c : Control} {m : Tables} → Reached t c m → core_of c m ≡ after scheduler (calls_of t)
reached_core {t} run =
    let from = reached_from run in
    from_core from.3 ∙ ap (λ (x : Core). behind x (calls_of t)) from.2

-- an unopened core asks nothing of its tables, and each call leaves them valid
reached_valid : {t : Trace} {c : Control} {m : Tables} → Reached t c m → Valid c m
unfolding runs
reached_valid (begun {c} {t} e) = λ o. true-false (ap runs (core_of-opened c t o)) (ap runs e)
reached_valid (called run m) = m.valid

pub run_valid : CodeValid
unfolding CodeValid
run_valid run = reached_valid run.reached

-- what was called and what it got is what the definitions give to the same calls
reached_trace : {t : Trace} {c : Control} {m : Tables} → Reached t c m → t ≡ trace_of scheduler (calls_of t)
reached_trace {t} run =
    let from = reached_from run in
    from_trace from.3 ∙ ap (λ (x : Core). stretch x (calls_of t)) from.2

pub run_defined : CodeDefined
unfolding CodeDefined core_after
run_defined run = record { dealt = reached_trace run.reached; core = reached_core run.reached }

-- a place of a run is one of its history
pub place_called : {r R : Run} → PlaceOf r R → Place (calls_of r.trace) (calls_of R.trace)
unfolding calls_of
place_called run.end = end
place_called (run.before m p) = before (place_called p)

looks_at : (chosen : ℕ) {t t' u u' : Trace} {x x' y y' : Holdings}
    → t ≡ t' → x ≡ x' → u ≡ u' → y ≡ y'
    → LooksSame chosen t' x' u' y'
    → LooksSame chosen t x u y
looks_at chosen e f g h looks = rw (e, f, g, h) looks

pub run_sameness : CodeSameness
unfolding CodeSameness Sameness CodeDefined
run_sameness chosen R Q e r q p w n =
    let as_many : ◌≡◌ {A = ℕ} (calls (kept chosen (trace_of scheduler (calls_of r.trace))))
    (calls (kept chosen (trace_of scheduler (calls_of q.trace)))) = ap calls (sym (keeps r)) ∙ n ∙ ap calls (keeps q) in
    looks_at chosen (run_defined r).dealt (ap holdings_of (run_defined r).core)
    (run_defined q).dealt (ap holdings_of (run_defined q).core)
    (sameness chosen (calls_of R.trace) (calls_of Q.trace) (sym (keeps R) ∙ e ∙ keeps Q)
    (calls_of r.trace) (calls_of q.trace) (place_called p) (place_called w) as_many)
  where
    keeps : (run : Run) → kept chosen run.trace ≡ kept chosen (trace_of scheduler (calls_of run.trace))
    keeps run = ap (kept chosen) (run_defined run).dealt

pub run_limits : CodeLimits
unfolding CodeDefined Limits Fits
run_limits = record {
  limits = λ run. rw (run_defined run).core (limits (calls_of run.trace));
  fits = λ run all. rw (run_defined run).core (fits (calls_of run.trace) all);
}

-- what the last call of a trace got; where nothing was called, anything
last_answer : Trace → Answer
last_answer begin = Accepted
last_answer (t and d) = d.answer

pub never_wrong : NeverWrong
unfolding NeverWrong CodeDefined last_answer calls_of trace_of dealing_at
never_wrong S wrong run earlier last e f g same =
    wrong.differs (sym same ∙ told ∙ ap₂ (answer_at scheduler) f g)
  where
    told : last.answer ≡ answer_at scheduler (calls_of earlier) last.event
    told = ap last_answer (sym e ∙ (run_defined run).dealt ∙ ap (λ (t : Trace). trace_of scheduler (calls_of t)) e)
