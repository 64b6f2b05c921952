-- The sheets of a run are those of its history: its answers are what the definitions give, and its tables mean the cores that they
-- reach. So what is proved of a tenant's sheet over all histories is so over all runs. Assumes nothing but the promises that a run is
-- made of.
use Prim.Native.Nat.{ℕ}
use mathlib.Core.Path.{◌≡◌, refl, sym, ap, ap₂, ◌∙◌}
use mathlib.Core.Bool.{Bool, true, false, cond}
use mathlib.Core.List.{List, ◌∷◌}
use Rattle.definitions.specs.declared.Answer.{Answer}
use Rattle.definitions.specs.declared.Note.{Note}
use Rattle.definitions.specs.State.{Core}
use Rattle.definitions.specs.Event.{Event, Tick}
use Rattle.definitions.specs.Core.{step}
use Rattle.definitions.specs.History.{calls, draws_of, Trace, scheduler, after, trace_of}
use Rattle.definitions.specs.Sameness.{is_tick, kept}
use Rattle.definitions.specs.Notes.{reason_of, operator_note, tenant_seen, tenant_note}
use Rattle.definitions.specs.TenantSheet.{notes_of, TenantSheets}
use Rattle.definitions.proofs.ToldNotes.{tick_event}
use Rattle.definitions.proofs.Sameness.TenantSheets.{tenant_sheets}
use Rattle.tables.specs.declared.Control.{Control}
use Rattle.tables.specs.declared.Answered.{Answered}
use Rattle.tables.specs.declared.Tables.{Tables}
use Rattle.tables.specs.Meaning.{core_of}
use Rattle.tables.specs.Promise.{Meets}
use Rattle.tables.specs.Run.{Reached, begun, called, Run, calls_of, CodeDefined}
use Rattle.tables.specs.RunSheets.{Telling, sheet_of, operator_tells, RunSheets}
use Rattle.tables.proofs.Runs.{reached_core, place_called, run_defined}

module _ (tells : Telling) (note : Core → Note)
    (told : (core : Core) → tells core (step core Tick).answer (reason_of (draws_of core)) ≡ note core) where
  -- what is told of a call that kept its promise, if it was a tick
  tick_told : (call : Event) (c : Control) (t u : Tables) (r : Answered) → is_tick call ≡ true → Meets call c t r u
      → tells (core_of c t) r.answer (reason_of (draws_of (core_of c t))) ≡ note (core_of c t)
  tick_told call c t u r e m =
      let ticked : r.answer ≡ (step (core_of c t) Tick).answer =
      m.answer ∙ ap (λ (x : Event). (step (core_of c t) x).answer) (tick_event call e) in
      ap (λ (a : Answer). tells (core_of c t) a (reason_of (draws_of (core_of c t)))) ticked ∙ told (core_of c t)

  sheet_defined : {trace : Trace} {c : Control} {t : Tables} (run : Reached trace c t) → sheet_of tells run ≡ notes_of note (calls_of trace)
  unfolding sheet_of notes_of calls_of
  sheet_defined (begun e) = refl
  sheet_defined (called {trace} {c} {t} {u} {call} {r} run m) = go (is_tick call) refl (sheet_defined run)
    where
      go : (b : Bool) → is_tick call ≡ b → sheet_of tells run ≡ notes_of note (calls_of trace)
          → cond b (tells (core_of c t) r.answer (reason_of (draws_of (core_of c t))) ∷ sheet_of tells run) (sheet_of tells run)
          ≡ cond b (note (after scheduler (calls_of trace)) ∷ notes_of note (calls_of trace)) (notes_of note (calls_of trace))
      go true e rest =
          ap₂ (λ (first : Note) (more : List Note). first ∷ more) (tick_told call c t u r e m ∙ ap note (reached_core run)) rest
      go false e rest = rest

operator_sheet : (run : Run) → sheet_of operator_tells run.reached ≡ notes_of operator_note (calls_of run.trace)
unfolding operator_note
operator_sheet run = sheet_defined operator_tells operator_note (λ core. refl) run.reached

tenant_sheet : (id : ℕ) (run : Run) → sheet_of (tenant_seen id) run.reached ≡ notes_of (tenant_note id) (calls_of run.trace)
unfolding tenant_note
tenant_sheet id run = sheet_defined (tenant_seen id) (tenant_note id) (λ core. refl) run.reached

-- the kept calls of a run are those of its history
keeps : (id : ℕ) (run : Run) → kept id run.trace ≡ kept id (trace_of scheduler (calls_of run.trace))
unfolding CodeDefined
keeps id run = ap (kept id) (run_defined run).dealt

pub run_sheets : RunSheets
unfolding TenantSheets
run_sheets = record {
  operator = operator_sheet;
  tenant = tenant_sheet;
  private = λ id R Q e r q p w n.
      let as_many : ◌≡◌ {A = ℕ} (calls (kept id (trace_of scheduler (calls_of r.trace))))
      (calls (kept id (trace_of scheduler (calls_of q.trace)))) = ap calls (sym (keeps id r)) ∙ n ∙ ap calls (keeps id q) in
      tenant_sheet id r
      ∙ tenant_sheets id (calls_of R.trace) (calls_of Q.trace) (sym (keeps id R) ∙ e ∙ keeps id Q)
      (calls_of r.trace) (calls_of q.trace) (place_called p) (place_called w) as_many
      ∙ sym (tenant_sheet id q);
}
