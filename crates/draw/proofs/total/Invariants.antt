-- The walk over the marks.
use Rattle.std.proofs.Common.{◌^◌}
use Rattle.marks.proofs.MarksWalk.{Walked}
use Rattle.draw.specs.Weights.{own_rate}
use Rattle.draw.proofs.total.Given as goal

abbrev pub invariant-loop-id : goal.invariant-loop-id
invariant-loop-id l =
    (goal.iterator-loop-id).can_next l.id-iterator
    × (goal.iterator-loop-id).is_finite l.id-iterator
    × Walked l.word (own_rate l.terms) (2 ^ 32) l.yielded l.id-iterator l.sum
