-- The reason for each slot (paper 02, S-5): what the operator's sheet and a private tenant's tell of a tick. The words in which they
-- tell it stand in crates/grammar, Sentences.
use Rattle.std.specs.Prelude.{ℕ, zero, suc, cond, not, List, [], ◌∷◌, eqb, Option, Some, None}
use Rattle.definitions.specs.declared.Outcome.TheVariants.{Real, Dummy, Idle, None as Nobody}
use Rattle.definitions.specs.declared.Answer.{Answer}
use Rattle.definitions.specs.declared.Answer.TheVariants.{Accepted, Refused, Slot}
use Rattle.definitions.specs.declared.Drawing.{Drawing}
use Rattle.definitions.specs.declared.Note.{Note}
use Rattle.definitions.specs.declared.Note.TheVariants.{Refusal, Told, ToIndifferent, ToAnother}
use Rattle.definitions.specs.Sizes.{ids}
use Rattle.definitions.specs.Sample.{Sample}
use Rattle.definitions.specs.Client.{Kind, absent, indifferent, private, is_indifferent}
use Rattle.definitions.specs.State.{State, Core, unopened, running}
use Rattle.definitions.specs.Answers.{number}
use Rattle.definitions.specs.Checks.{Check, check, first_failed, active_checks}
use Rattle.definitions.specs.Event.{Tick}
use Rattle.definitions.specs.Core.{step}
use Rattle.definitions.specs.History.{draws_of}

-- why a slot is whose it is: "if there was a draw, target and rate sum"
abbrev pub Reason : Type 0
Reason = Option Drawing

abbrev pub drawn_reason : ℕ → ℕ → Reason
drawn_reason target sum = Some (record { target = target; sum = sum })

-- a turn has no draw or one
unfoldable pub reason_of : List Sample → Reason
reason_of [] = None
reason_of (s ∷ more) = drawn_reason s.target s.sum

-- "the outcome, its fields and, if there was a draw, target and rate sum"; of what is no slot, its number
unfoldable pub note_of : Answer → Reason → Note
note_of Accepted reason = Refusal (number Accepted)
note_of (Refused n) reason = Refusal (number (Refused n))
note_of (Slot outcome) reason = Told outcome reason

-- "For each tick the operator's sheet has one English sentence": what it tells of a tick on a core
unfoldable pub operator_note : Core → Note
operator_note core = note_of (step core Tick).answer (reason_of (draws_of core))

-- whose slot it was; of nobody's, and of what is no slot, a number that no client has
unfoldable pub holder : Answer → ℕ
holder Accepted = ids
holder (Refused n) = ids
holder (Slot (Real id p padding)) = id
holder (Slot (Dummy id)) = id
holder (Slot (Idle id)) = id
holder (Slot Nobody) = ids

-- "or that the slot went to an indifferent client or to another private one"
abbrev pub went_to : Kind → Note → Note
went_to absent whole = whole
went_to indifferent whole = ToIndifferent
went_to private whole = ToAnother

-- "its own slot in the operator's sentence"
unfoldable pub seen_by : State → ℕ → Answer → Reason → Note
seen_by s id answer reason =
    cond (eqb (holder answer) id) (note_of answer reason) (went_to (s.clients (holder answer)).kind (note_of answer reason))

-- "for an id not active then it gives 5, for an indifferent one 11"
unfoldable pub tenant_checks : State → ℕ → List Check
tenant_checks s id = active_checks s id (check 11 (not (is_indifferent (s.clients id).kind)) ∷ [])

abbrev pub unless_refused : ℕ → Note → Note
unless_refused zero note = note
unless_refused (suc n) note = Refusal (suc n)

-- what a tenant is told where a tick on a core gave an answer for a reason
unfoldable pub tenant_seen : ℕ → Core → Answer → Reason → Note
tenant_seen id unopened answer reason = Refusal 19
tenant_seen id (running s) answer reason = unless_refused (first_failed (tenant_checks s id)) (seen_by s id answer reason)

-- "A private tenant's own sheet has a sentence a tick too": what it tells of a tick on a core
unfoldable pub tenant_note : ℕ → Core → Note
tenant_note id core = tenant_seen id core (step core Tick).answer (reason_of (draws_of core))
