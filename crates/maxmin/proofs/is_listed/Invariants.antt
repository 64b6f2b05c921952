-- The answer is that of the entries that are left.
use Rattle.std.proofs.Common.{◌≡◌, length}
use Rattle.std.specs.Slice.Iter.{iter_rest}
use Rattle.std.specs.Iterator.Adapters.{zip_first, zip_second}
use Rattle.definitions.specs.FairRates.{listed_from}
use Rattle.maxmin.proofs.is_listed.Given as goal

abbrev pub invariant-loop-id : goal.invariant-loop-id
invariant-loop-id l =
    (goal.iterator-loop-id).can_next l.id-iterator
    × (goal.iterator-loop-id).is_finite l.id-iterator
    × (listed_from 0 l.listed l.demands ≡ listed_from l.lowest (iter_rest (zip_first l.id-iterator)) (iter_rest (zip_second l.id-iterator)))
    × (length (iter_rest (zip_first l.id-iterator)) ≡ length (iter_rest (zip_second l.id-iterator)))
