-- What a line shows its audience, by what was made of it: its answer to the caller, and a note of a tick to the operator or a tenant
-- (paper 02, S-5).
use Rattle.std.specs.Prelude.{ℕ, ◌≡◌, Bool, true, cond, List, []}
use Rattle.definitions.specs.declared.Answer.{Answer}
use Rattle.definitions.specs.declared.Answer.TheVariants.{Refused}
use Rattle.definitions.specs.declared.Note.{Note}
use Rattle.definitions.specs.State.{Core}
use Rattle.definitions.specs.History.{draws_of}
use Rattle.definitions.specs.Sameness.{is_tick}
use Rattle.definitions.specs.Notes.{note_of, tenant_seen}
use Rattle.grammar.specs.declared.Audience.{Audience}
use Rattle.grammar.specs.declared.Audience.TheVariants.{Caller, Operator, Tenant}
use Rattle.grammar.specs.declared.Call.{Call}
use Rattle.grammar.specs.declared.Unread.{Unread}
use Rattle.grammar.specs.Unread.{unread_number}
use Rattle.grammar.specs.Calls.{event_of}
use Rattle.grammar.specs.Sentences.{sentence}
use Rattle.grammar.specs.Printout.{printed}
use Rattle.draw.specs.Samples.{sum_of}
use Rattle.notes.specs.ReasonLeft.{reason_left}
use Rattle.slot.specs.declared.Ticked.{Ticked}
use Rattle.tables.specs.declared.Control.{Control}
use Rattle.tables.specs.declared.Tables.{Tables}
use Rattle.tables.specs.Meaning.{core_of}
use Rattle.tables.specs.Places.{Promised}

-- a call was carried out as it is promised; and of a tick the sample has the sum of the rates in its draw
pub record PerformedCall (call : Call) (c : Control) (t : Tables) (r : Ticked) (u : Tables) : Type 0 where
  pub promised : Promised (event_of call) c t r.answered u
  pub sum : is_tick (event_of call) ≡ true → r.sample.sum ≡ sum_of (draws_of (core_of c t))

-- of a line that holds no form
abbrev pub unread_for : Audience → Unread → List ℕ
unread_for Caller unread = printed (Refused (unread_number unread))
unread_for Operator unread = []
unread_for (Tenant id) unread = []

-- what is told of a tick that gave an answer and left a core, by that sum; nobody tells the caller, and it would be told all
abbrev pub note_for : Audience → Core → Answer → ℕ → Note
note_for Caller core answer sum = note_of answer (reason_left sum core)
note_for Operator core answer sum = note_of answer (reason_left sum core)
note_for (Tenant id) core answer sum = tenant_seen id core answer (reason_left sum core)

-- of a call that gave an answer and left a core, by a sum if it is a tick
abbrev pub call_for : Audience → Bool → Core → Answer → ℕ → List ℕ
call_for Caller ticked core answer sum = printed answer
call_for Operator ticked core answer sum = cond ticked (sentence (note_for Operator core answer sum)) []
call_for (Tenant id) ticked core answer sum = cond ticked (sentence (note_for (Tenant id) core answer sum)) []
