-- `printer::put_slot` meets its contract: an arm of the code writes the line of its outcome, which has room. Assumes nothing.
use native.Mathlib.Omega.{arith}
use Prim.Native.Nat.{ℕ}
use mathlib.Core.Path.{ap}
use mathlib.Core.List.{List}
use Rattle.definitions.specs.declared.Outcome.{Outcome}
use Rattle.definitions.specs.declared.Outcome.TheVariants.{Real, Dummy, Idle}
use Rattle.definitions.specs.declared.Answer.TheVariants.{Slot}
use Rattle.definitions.specs.Answers.{values}
use Rattle.grammar.specs.Templates.{filled}
use Rattle.grammar.specs.Printout.{printed}
use Rattle.printer.proofs.FilledLength.{slot_room}
use Rattle.printer.proofs.Appending.{appended_as}
use Rattle.printer.proofs.put_slot.Goals as goal

-- the line of a slot, as a function of the outcome that an arm knows
shown : Outcome → List ℕ
shown outcome = printed (Slot outcome)

pub put_real-requires : goal.put_real-requires
unfolding values
put_real-requires c = slot_room (Real _ _ _) (omega arith) _ c.requires

pub put_between-requires : goal.put_between-requires
unfolding printed values filled
put_between-requires c = slot_room (Dummy _) (omega arith) _ c.requires

pub put_between-requires-in-Idle : goal.put_between-requires-in-Idle
unfolding printed values filled
put_between-requires-in-Idle c = slot_room (Idle _) (omega arith) _ c.requires

pub returns-in-Real : goal.returns-in-Real
unfolding shown values
returns-in-Real c = appended_as (ap shown c.in-Real.is) c.put_real.ensures

pub returns-in-Dummy : goal.returns-in-Dummy
unfolding shown printed values filled
returns-in-Dummy c = appended_as (ap shown c.in-Dummy.is) c.put_between.ensures

pub returns-in-Idle : goal.returns-in-Idle
unfolding shown printed values filled
returns-in-Idle c = appended_as (ap shown c.in-Idle.is) c.put_between-in-Idle.ensures

pub returns-in-None : goal.returns-in-None
unfolding shown printed values filled
returns-in-None c = appended_as (ap shown c.in-None.is) c.put.ensures
