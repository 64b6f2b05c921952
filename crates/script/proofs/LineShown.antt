-- What a line shows, read off the definitions, for each audience: a line without a form its number and any call its answer to the
-- caller; a tick what its answer, the core that it leaves and the sum of its draw tell, and any other call nothing, to the others.
-- Assumes nothing.
use Prim.Native.Nat.{ℕ}
use mathlib.Core.Path.{◌≡◌, refl, ap, ap₂, ◌∙◌}
use mathlib.Core.Bool.{Bool, true, false, cond}
use mathlib.Core.List.{List, []}
use native.Mathlib.Omega.{arith}
use Rattle.definitions.specs.declared.Answer.{Answer}
use Rattle.definitions.specs.declared.Note.{Note}
use Rattle.definitions.specs.State.{Core}
use Rattle.definitions.specs.Event.{Event, Tick}
use Rattle.definitions.specs.Core.{step}
use Rattle.definitions.specs.History.{draws_of}
use Rattle.definitions.specs.Sameness.{is_tick}
use Rattle.definitions.specs.Limits.{CoreLimits}
use Rattle.definitions.specs.Notes.{Reason, reason_of, note_of, operator_note, tenant_seen, tenant_note}
use Rattle.definitions.proofs.ToldNotes.{tick_event, seen_after}
use Rattle.grammar.specs.declared.Audience.{Audience}
use Rattle.grammar.specs.declared.Audience.TheVariants.{Caller, Operator, Tenant}
use Rattle.grammar.specs.declared.Call.{Call}
use Rattle.std.specs.Prelude.{Ok, Err}
use Rattle.grammar.specs.declared.Unread.{Unread}
use Rattle.grammar.specs.Calls.{event_of}
use Rattle.grammar.specs.Sentences.{sentence}
use Rattle.grammar.specs.Printout.{answered, shown}
use Rattle.printer.specs.Printed.{LineWritten}
use Rattle.draw.specs.Samples.{sum_of}
use Rattle.notes.specs.ReasonLeft.{reason_left, ReasonIsLeft}
use Rattle.notes.proofs.ReasonLeft.{reason_left_lem}
use Rattle.script.specs.Shown.{unread_for, note_for, call_for}

pub unread_shown : (to : Audience) (core : Core) (unread : Unread) → unread_for to unread ≡ shown to core (Err unread)
unfolding shown answered
unread_shown Caller core unread = refl
unread_shown Operator core unread = refl
unread_shown (Tenant id) core unread = refl

-- where two notes are the same if a call is a tick, so are their sentences or, of any other call, nothing
tick_shown : (ticked : Bool) (note told : Note) → (ticked ≡ true → note ≡ told)
    → cond ticked (sentence note) [] ≡ cond ticked (sentence told) []
tick_shown true note told same = ap sentence (same refl)
tick_shown false note told same = refl

-- where the sum of a tick is that of its draw, on a core within the limits
module _ (core : Core) (known : CoreLimits core) (call : Call) (sum : ℕ)
    (drawn : is_tick (event_of call) ≡ true → sum ≡ sum_of (draws_of core)) where
  abbrev left : Core
  left = (step core (event_of call)).core

  abbrev answer : Answer
  answer = (step core (event_of call)).answer

  module _ (ticked : is_tick (event_of call) ≡ true) where
    -- the reason is read off the core that the tick leaves
    reason : reason_left sum left ≡ reason_of (draws_of core)
    unfolding ReasonIsLeft
    reason =
        ap₂ (λ (n : ℕ) (x : Event). reason_left n (step core x).core) (drawn ticked) (tick_event (event_of call) ticked)
        ∙ reason_left_lem core known

    operator_told : note_of answer (reason_left sum left) ≡ operator_note core
    unfolding operator_note
    operator_told =
        ap₂ (λ (x : Event) (r : Reason). note_of (step core x).answer r) (tick_event (event_of call) ticked) reason

    tenant_told : (id : ℕ) → tenant_seen id left answer (reason_left sum left) ≡ tenant_note id core
    unfolding tenant_note
    tenant_told id =
        ap₂ (λ (x : Event) (r : Reason). tenant_seen id (step core x).core (step core x).answer r)
        (tick_event (event_of call) ticked) reason
        ∙ seen_after id core (step core Tick).answer (reason_of (draws_of core))

  pub call-shown : (to : Audience) → call_for to (is_tick (event_of call)) left answer sum ≡ shown to core (Ok call)
  unfolding shown answered
  call-shown Caller = refl
  call-shown Operator = tick_shown _ _ _ operator_told
  call-shown (Tenant id) = tick_shown _ _ _ (λ ticked. tenant_told ticked id)

-- where nothing is shown nothing is written
pub nothing_written : (before : List ℕ) (at : ℕ) → LineWritten [] before at before at
nothing_written before at = record {
  written = λ room. record { place = omega arith; room = omega arith; bytes = refl };
  untouched = λ little. (refl, refl);
}
