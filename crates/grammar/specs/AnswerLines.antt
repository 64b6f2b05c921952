-- "`(ok)`, `(refused N)`, or for a tick `(slot (..))`, inside it the outcome's word and fields in the order above with one blank
-- between. Each printed line is closed by a line feed" (paper 01, "Script and printout"): the line of an answer.
use Rattle.std.specs.Prelude.{ℕ, List, [], ◌∷◌}
use Prim.Native.String.{String}
use Rattle.definitions.specs.declared.Outcome.{Outcome}
use Rattle.definitions.specs.declared.Outcome.TheVariants.{Real, Dummy, Idle, None}
use Rattle.definitions.specs.declared.Answer.{Answer}
use Rattle.definitions.specs.declared.Answer.TheVariants.{Accepted, Refused, Slot}
use Rattle.definitions.specs.Answers.{values}
use Rattle.grammar.specs.Bytes.{bytes}
use Rattle.grammar.specs.Templates.{filled}

abbrev pub outcome_template : Outcome → String
outcome_template (Real id packet padding) = "(slot (real # @ # #))\n"
outcome_template (Dummy id) = "(slot (dummy #))\n"
outcome_template (Idle id) = "(slot (idle #))\n"
outcome_template None = "(slot (none))\n"

unfoldable pub printed : Answer → List ℕ
printed Accepted = bytes "(ok)\n"
printed (Refused n) = filled (bytes "(refused #)\n") (n ∷ [])
printed (Slot outcome) = filled (bytes (outcome_template outcome)) (values outcome)
