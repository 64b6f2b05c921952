-- `bench::list_ids`: the list keeps its length.
use Rattle.std.proofs.Common.{◌≡◌, length}
use Rattle.bench.proofs.list_ids.Given as goal

abbrev pub invariant-loop-id : goal.invariant-loop-id
invariant-loop-id l = length l.listed ≡ length l.initial.listed
