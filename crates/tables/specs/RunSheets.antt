-- The sheets of a run of the code (paper 02, S-5): what is told of each of its ticks, by the answer that the code gave, on the core that
-- the tables meant there, and by the draws of a slot of that core, which a tick hands up beside its answer (crates/slot). That this is
-- what a note of the code tells is the contract of crates/notes, with `ReasonIsLeft` there. "Nothing that other private tenants send or
-- load alters a line" of a tenant's, for any two runs.
use Rattle.std.specs.Prelude.{ℕ, ◌≡◌, cond, List, [], ◌∷◌}
use Rattle.definitions.specs.declared.Answer.{Answer}
use Rattle.definitions.specs.declared.Note.{Note}
use Rattle.definitions.specs.State.{Core}
use Rattle.definitions.specs.History.{calls, draws_of, Trace}
use Rattle.definitions.specs.Sameness.{is_tick, kept}
use Rattle.definitions.specs.Notes.{Reason, reason_of, note_of, operator_note, tenant_seen, tenant_note}
use Rattle.definitions.specs.TenantSheet.{notes_of}
use Rattle.tables.specs.declared.Control.{Control}
use Rattle.tables.specs.declared.Tables.{Tables}
use Rattle.tables.specs.Meaning.{core_of}
use Rattle.tables.specs.Run.{Reached, begun, called, Run, PlaceOf, calls_of}

-- what is told of a core's tick, from the core, the answer and the reason
abbrev pub Telling : Type 0
Telling = Core → Answer → Reason → Note

-- what is told of each tick of a run, latest first
unfoldable pub sheet_of : Telling → {trace : Trace} {c : Control} {t : Tables} → Reached trace c t → List Note
sheet_of tells (begun e) = []
sheet_of tells (called {c = c} {t} {call = call} {r} run m) =
    cond (is_tick call) (tells (core_of c t) r.answer (reason_of (draws_of (core_of c t))) ∷ sheet_of tells run) (sheet_of tells run)

abbrev pub operator_tells : Telling
operator_tells core answer reason = note_of answer reason

pub record RunSheets : Type 0 where
  -- the sheets of a run are those that the definitions give to its calls
  pub operator : (run : Run) → sheet_of operator_tells run.reached ≡ notes_of operator_note (calls_of run.trace)
  pub tenant : (id : ℕ) (run : Run) → sheet_of (tenant_seen id) run.reached ≡ notes_of (tenant_note id) (calls_of run.trace)
  -- Any tenant, any two runs whose kept calls for it are equal, and any place of either at which both have as many of these behind
  -- them: its sheet is the same up to there.
  pub private : (id : ℕ) (R Q : Run)
      → kept id R.trace ≡ kept id Q.trace
      → (r q : Run)
      → PlaceOf r R
      → PlaceOf q Q
      → calls (kept id r.trace) ≡ calls (kept id q.trace)
      → sheet_of (tenant_seen id) r.reached ≡ sheet_of (tenant_seen id) q.reached
