-- The walk over the marks: the sum is that of the marks passed.
use Rattle.std.proofs.Common.{◌^◌}
use Rattle.marks.proofs.MarksWalk.{Walked}
use Rattle.guarantee.specs.Demands.{demand_at}
use Rattle.guarantee.proofs.demand.Given as goal

abbrev pub invariant-loop-id : goal.invariant-loop-id
invariant-loop-id l =
    (goal.iterator-loop-id).can_next l.id-iterator
    × (goal.iterator-loop-id).is_finite l.id-iterator
    × Walked l.word (demand_at l.terms l.stocks l.ticks) (2 ^ 55) l.yielded l.id-iterator l.sum
