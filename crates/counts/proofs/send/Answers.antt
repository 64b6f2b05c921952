-- `counts::send` meets its contract: an arm for each outcome. Assumes nothing.
use Rattle.std.proofs.Common.{◌≡◌, ℕ, false, sym, ap, subst}
use Rattle.definitions.specs.declared.Outcome.{Outcome}
use Rattle.definitions.specs.Counts.{column, entry_of_slot}
use Rattle.counts.specs.CountTable.{SenderBelow}
use Rattle.counts.proofs.CountEntries.{entered_nothing, entered_as}
use Rattle.counts.proofs.send.Goals as goal

-- what is entered for an outcome that is known
same : {outcome known : Outcome} → outcome ≡ known → (id : ℕ) → entry_of_slot id false 0 known ≡ entry_of_slot id false 0 outcome
same e id = ap (entry_of_slot id false 0) (sym e)

pub raise-requires : goal.raise-requires
raise-requires c =
    let known = c in
    subst SenderBelow c.in-Real.is known.requires

pub raise-requires-in-Dummy : goal.raise-requires-in-Dummy
raise-requires-in-Dummy c =
    let known = c in
    subst SenderBelow c.in-Dummy.is known.requires

pub returns-in-Real : goal.returns-in-Real
unfolding entry_of_slot column
returns-in-Real c = entered_as (same c.in-Real.is) c.raise.ensures

pub returns-in-Dummy : goal.returns-in-Dummy
unfolding entry_of_slot column
returns-in-Dummy c = entered_as (same c.in-Dummy.is) c.raise-in-Dummy.ensures

pub returns-in-Idle : goal.returns-in-Idle
unfolding entry_of_slot
returns-in-Idle c = entered_as (same c.in-Idle.is) (entered_nothing _)

pub returns-in-None : goal.returns-in-None
unfolding entry_of_slot
returns-in-None c = entered_as (same c.in-None.is) (entered_nothing _)
