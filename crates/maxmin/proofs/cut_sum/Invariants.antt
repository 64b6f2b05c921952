-- With what the demands that are left come to, the sum is the whole.
use Rattle.std.proofs.Common.{◌≡◌, ◌+◌, drop}
use Rattle.definitions.specs.FairRates.{cut_sum}
use Rattle.maxmin.proofs.cut_sum.Given as goal

abbrev pub invariant-loop-demand : goal.invariant-loop-demand
invariant-loop-demand l = l.sum + cut_sum l.level (drop l.demand-index l.demands) ≡ cut_sum l.level l.demands
