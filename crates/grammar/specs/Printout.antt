-- The printout of a script (paper 01, "Script and printout"). "Each line prints one line": its answer. So it does for the caller; for
-- the operator, and for a private tenant, a tick prints a sentence, and no other line prints anything (paper 02, S-5).
use Rattle.std.specs.Prelude.{ℕ, true, false, cond, List, [], ◌∷◌, ◌++◌, eqb, ltb, length}
use Rattle.definitions.specs.declared.Answer.TheVariants.{Refused}
use Rattle.definitions.specs.Sizes.{handle_limit}
use Rattle.definitions.specs.State.{Core, unopened}
use Rattle.definitions.specs.Checks.{Result, refused}
use Rattle.definitions.specs.Core.{step}
use Rattle.definitions.specs.Counts.{Whole, whole_after}
use Rattle.definitions.specs.Sameness.{is_tick}
use Rattle.definitions.specs.Notes.{operator_note, tenant_note}
use Rattle.grammar.specs.Unread.{Line, unread_number}
use Rattle.std.specs.Prelude.{Ok, Err}
use Rattle.grammar.specs.declared.Unread.TheVariants.{NoForm}
use Rattle.grammar.specs.declared.Audience.{Audience}
use Rattle.grammar.specs.declared.Audience.TheVariants.{Caller, Operator, Tenant}
use Rattle.grammar.specs.Bytes.{line_feed, text_limit}
use Rattle.grammar.specs.Calls.{event_of}
use Rattle.grammar.specs.Grammar.{parsed_in}
use Rattle.grammar.specs.Sentences.{sentence}
unfoldable pub use Rattle.grammar.specs.AnswerLines.{outcome_template, printed}

-- "A line that yields no form is answered and skipped."
unfoldable pub answered : Core → Line → Result
answered core (Ok call) = step core (event_of call)
answered core (Err unread) = refused (unread_number unread) core

-- some bytes where a line holds a tick, and none where it does not
abbrev pub for_tick : Line → List ℕ → List ℕ
for_tick (Ok call) sentence = cond (is_tick (event_of call)) sentence []
for_tick (Err unread) sentence = []

-- what a line prints on a core, by what it holds
unfoldable pub shown : Audience → Core → Line → List ℕ
shown Caller core line = printed (answered core line).answer
shown Operator core line = for_tick line (sentence (operator_note core))
shown (Tenant id) core line = for_tick line (sentence (tenant_note id core))

-- the edition whose handles go up to a limit, for an audience
module _ (handles : ℕ) (to : Audience) where
  -- The printout of what is left of a text, with the bytes of the line so far, for a core. Bytes after the last line feed give 16.
  unfoldable pub printed_from_in : Core → List ℕ → List ℕ → List ℕ
  printed_from_in core [] [] = []
  printed_from_in core (b ∷ line) [] = shown to core (Err NoForm)
  printed_from_in core line (b ∷ text) =
      elim (eqb b line_feed) [
        | true ↦ shown to core (parsed_in handles line)
            ++ printed_from_in (answered core (parsed_in handles line)).core [] text
        | false ↦ printed_from_in core (line ++ (b ∷ [])) text
      ]

  -- "whole text over 60,000 bytes; the only line printed"
  unfoldable pub printout_in : List ℕ → List ℕ
  printout_in text = elim (ltb text_limit (length text)) [ true ↦ printed (Refused 18) | false ↦ printed_from_in unopened [] text ]

-- what a line leaves of the core, and of the core with its counts
abbrev pub core_by : Core → Line → Core
core_by core line = (answered core line).core

unfoldable pub whole_by : Whole → Line → Whole
whole_by w (Ok call) = whole_after w (event_of call)
whole_by w (Err unread) = w

module _ (handles : ℕ) {A : Type 0} (by : A → Line → A) where
  -- What the lines of what is left of a text leave, likewise. Bytes after the last line feed leave it as it was.
  unfoldable pub left_from_in : A → List ℕ → List ℕ → A
  left_from_in a line [] = a
  left_from_in a line (b ∷ text) =
      elim (eqb b line_feed) [
        | true ↦ left_from_in (by a (parsed_in handles line)) [] text
        | false ↦ left_from_in a (line ++ (b ∷ [])) text
      ]

abbrev pub core_from_in : ℕ → Core → List ℕ → List ℕ → Core
core_from_in handles = left_from_in handles core_by

-- the present edition
abbrev pub printed_from : Audience → Core → List ℕ → List ℕ → List ℕ
printed_from to core line text = printed_from_in handle_limit to core line text

abbrev pub core_from : Core → List ℕ → List ℕ → Core
core_from core line text = core_from_in handle_limit core line text

abbrev pub whole_from : Whole → List ℕ → List ℕ → Whole
whole_from w line text = left_from_in handle_limit whole_by w line text

abbrev pub printout_for : Audience → List ℕ → List ℕ
printout_for to text = printout_in handle_limit to text

abbrev pub printout : List ℕ → List ℕ
printout text = printout_for Caller text
