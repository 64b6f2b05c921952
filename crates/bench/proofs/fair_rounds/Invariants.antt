-- `bench::fair_rounds`: the place is one of the demands and of the rates.
use Rattle.std.proofs.Common.{◌<◌}
use Rattle.bench.proofs.fair_rounds.Given as goal

abbrev pub invariant-loop-k : goal.invariant-loop-k
invariant-loop-k l = l.i < l.count
