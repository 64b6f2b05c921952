-- `bench::fill_queue`: the core is valid.
use Rattle.tables.specs.Invariant.{Valid}
use Rattle.bench.proofs.fill_queue.Given as goal

abbrev pub invariant-loop : goal.invariant-loop
invariant-loop l = Valid l.at l.tables
