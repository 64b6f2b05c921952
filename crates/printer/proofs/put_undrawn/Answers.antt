-- `printer::put_undrawn` meets its contract: nobody's slot has words of its own, and the others' are the same. Assumes nothing.
use mathlib.Core.Path.{◌≡◌, refl}
use mathlib.Core.Logic.{◌≢◌}
use Rattle.std.specs.Prelude.{None}
use Rattle.definitions.specs.declared.Outcome.{Outcome}
use Rattle.definitions.specs.declared.Outcome.TheVariants.{Real, Dummy, Idle, None as Nobody}
use Rattle.grammar.specs.Bytes.{bytes}
use Rattle.grammar.specs.Sentences.{reason_text}
use Rattle.printer.proofs.put_undrawn.Goals as goal

somebody : (outcome : Outcome) → outcome ≢ Nobody → reason_text outcome None ≡ bytes ", first come first served.\n"
unfolding reason_text
somebody (Real id p padding) other = refl
somebody (Dummy id) other = refl
somebody (Idle id) other = refl
somebody Nobody other = absurd (other refl)

pub returns-in-None : goal.returns-in-None
unfolding reason_text
returns-in-None c = rw c.in-None.is c.put.ensures

pub returns-in_default : goal.returns-in_default
returns-in_default c = rw (somebody c.args.outcome c.in_default.not-None) c.put-in_default.ensures
