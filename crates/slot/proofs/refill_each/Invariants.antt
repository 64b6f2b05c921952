-- The sweep of RefillEach.
use Rattle.slot.proofs.RefillEach.{Sweep}
use Rattle.slot.proofs.refill_each.Given as goal

abbrev pub invariant-loop-id : goal.invariant-loop-id
invariant-loop-id l = Sweep l.id l.initial.terms l.terms
