-- `bench::run_stages`: the core is valid.
use Rattle.tables.specs.Invariant.{Valid}
use Rattle.bench.proofs.run_stages.Given as goal

abbrev pub invariant-loop-k : goal.invariant-loop-k
invariant-loop-k l = Valid l.at.control l.tables
