-- The walk of RefillMarked.
use Rattle.slot.proofs.RefillMarked.{Filling}
use Rattle.slot.proofs.refill_marked.Given as goal

abbrev pub invariant-loop-id : goal.invariant-loop-id
invariant-loop-id l =
    (goal.iterator-loop-id).can_next l.id-iterator
    × (goal.iterator-loop-id).is_finite l.id-iterator
    × Filling l.word l.yielded l.id-iterator l.initial.terms l.terms
