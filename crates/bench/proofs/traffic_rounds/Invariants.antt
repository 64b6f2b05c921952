-- `bench::traffic_rounds`: the core is valid.
use Rattle.std.proofs.Common.{◌<◌}
use Rattle.tables.specs.Invariant.{Valid}
use Rattle.bench.proofs.traffic_rounds.Given as goal

abbrev pub invariant-loop-k : goal.invariant-loop-k
invariant-loop-k l = Valid l.at.control l.tables × (l.id < l.n)
