-- `bench::fill_queues`: the core is valid.
use Rattle.tables.specs.Invariant.{Valid}
use Rattle.bench.proofs.fill_queues.Given as goal

abbrev pub invariant-loop-id : goal.invariant-loop-id
invariant-loop-id l = Valid l.at l.tables
