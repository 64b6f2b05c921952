-- "one English sentence with the outcome, its fields and, if there was a draw, target and rate sum" (paper 02, S-5): the bytes of
-- what a sheet tells of a tick. The numbers are spelt as those of a printout are, and so is a refusal.
use Rattle.std.specs.Prelude.{ℕ, List, [], ◌∷◌, ◌++◌, Some, None}
use Prim.Native.String.{String}
use Rattle.definitions.specs.declared.Outcome.{Outcome}
use Rattle.definitions.specs.declared.Outcome.TheVariants.{Real, Dummy, Idle, None as Nobody}
use Rattle.definitions.specs.declared.Answer.TheVariants.{Refused}
use Rattle.definitions.specs.declared.Note.{Note}
use Rattle.definitions.specs.declared.Note.TheVariants.{Refusal, Told, ToIndifferent, ToAnother}
use Rattle.definitions.specs.Answers.{values}
use Rattle.definitions.specs.Notes.{Reason}
use Rattle.grammar.specs.Bytes.{bytes}
use Rattle.grammar.specs.Templates.{filled}
use Rattle.grammar.specs.AnswerLines.{printed}

-- "the outcome, its fields"
abbrev pub outcome_words : Outcome → String
outcome_words (Real id packet padding) = "Client # sent packet @ of # bytes with # bytes of padding"
outcome_words (Dummy id) = "Client # sent a dummy packet"
outcome_words (Idle id) = "Client # had nothing to send"
outcome_words Nobody = "Nobody had the slot"

-- Without a draw somebody's slot went by discipline 0 (`OperatorTold`, crates/definitions, TenantSheet). A dummy or an idle slot does
-- not, and nobody's is not drawn; they have words so that every slot has its own.
abbrev pub undrawn_words : Outcome → String
undrawn_words (Real id packet padding) = ", first come first served.\n"
undrawn_words (Dummy id) = ", first come first served.\n"
undrawn_words (Idle id) = ", first come first served.\n"
undrawn_words Nobody = ".\n"

-- "if there was a draw, target and rate sum"
abbrev pub drawn_words : String
drawn_words = ", drawn at target # of a rate sum of #.\n"

unfoldable pub outcome_text : Outcome → List ℕ
outcome_text outcome = filled (bytes (outcome_words outcome)) (values outcome)

unfoldable pub drawn_text : ℕ → ℕ → List ℕ
drawn_text target sum = filled (bytes drawn_words) (target ∷ sum ∷ [])

unfoldable pub reason_text : Outcome → Reason → List ℕ
reason_text outcome None = bytes (undrawn_words outcome)
reason_text outcome (Some draw) = drawn_text draw.target draw.sum

-- "its own slot in the operator's sentence, or that the slot went to an indifferent client or to another private one"
unfoldable pub sentence : Note → List ℕ
sentence (Refusal n) = printed (Refused n)
sentence (Told outcome reason) = outcome_text outcome ++ reason_text outcome reason
sentence ToIndifferent = bytes "The slot went to an indifferent client.\n"
sentence ToAnother = bytes "The slot went to another private client.\n"
