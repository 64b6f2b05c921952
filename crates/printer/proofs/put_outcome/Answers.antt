-- `printer::put_outcome` meets its contract: an arm of the code writes the words of its outcome, which have room. Assumes nothing.
use native.Mathlib.Omega.{arith}
use Prim.Native.Nat.{ℕ, ◌+◌, ◌≤◌}
use mathlib.Core.Path.{◌≡◌, ap}
use mathlib.Core.List.{List}
use lib.ListN.{length}
use Rattle.definitions.specs.declared.Outcome.{Outcome}
use Rattle.definitions.specs.declared.Outcome.TheVariants.{Real, Dummy, Idle, None}
use Rattle.definitions.specs.Answers.{values}
use Rattle.grammar.specs.Templates.{filled}
use Rattle.grammar.specs.Sentences.{outcome_text}
use Rattle.printer.specs.Appended.{Appended}
use Rattle.printer.specs.Printed.{outcome_room}
use Rattle.printer.proofs.FilledLength.{Narrow, outcome_room_lem}
use Rattle.printer.proofs.Appending.{appended_as}
use Rattle.printer.proofs.put_outcome.Goals as goal

-- the words of an outcome, as a function of the one that an arm knows
shown : Outcome → List ℕ
shown outcome = outcome_text outcome

-- what was written are the words of the outcome that an arm knows, and they kept to their room
written : {given : Outcome} (known : Outcome) → given ≡ known → Narrow known → {before : List ℕ} {at : ℕ} {after : List ℕ} {end : ℕ}
    → Appended (shown known) before at after end
    → Appended (outcome_text given) before at after end × (end ≤ at + outcome_room)
unfolding shown
written known e narrow {at = at} a =
    let kept : at + length (outcome_text known) ≤ at + outcome_room = outcome_room_lem known narrow at (omega arith) in
    (appended_as (ap shown e) a, omega (arith, a.place, kept))

pub put_filled-requires : goal.put_filled-requires
unfolding outcome_text values
put_filled-requires c = outcome_room_lem (Real _ _ _) (omega arith) _ c.requires

pub put_between-requires : goal.put_between-requires
unfolding outcome_text values filled
put_between-requires c = outcome_room_lem (Dummy _) (omega arith) _ c.requires

pub put_between-requires-in-Idle : goal.put_between-requires-in-Idle
unfolding outcome_text values filled
put_between-requires-in-Idle c = outcome_room_lem (Idle _) (omega arith) _ c.requires

pub returns-in-Real : goal.returns-in-Real
unfolding shown outcome_text values
returns-in-Real c =
    written (Real _ _ _) c.in-Real.is (omega arith) (rw (c.from.ensures, c.from-in-Real.ensures, c.from-in-Real-2.ensures) at c.put_filled.ensures)

pub returns-in-Dummy : goal.returns-in-Dummy
unfolding shown outcome_text values filled
returns-in-Dummy c = written (Dummy _) c.in-Dummy.is (omega arith) c.put_between.ensures

pub returns-in-Idle : goal.returns-in-Idle
unfolding shown outcome_text values filled
returns-in-Idle c = written (Idle _) c.in-Idle.is (omega arith) c.put_between-in-Idle.ensures

pub returns-in-None : goal.returns-in-None
unfolding shown outcome_text values filled
returns-in-None c = written None c.in-None.is tt c.put.ensures
