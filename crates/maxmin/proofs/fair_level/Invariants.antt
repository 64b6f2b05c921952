-- The demands fit at `level`, and not at `above`, unless that is past the highest.
use Rattle.std.proofs.Common.{◌+◌, ◌-◌, ◌≤◌, ◌<◌}
use Rattle.definitions.specs.Sizes.{shares}
use Rattle.definitions.specs.FairRates.{cut_sum}
use Rattle.maxmin.proofs.fair_level.Given as goal

abbrev pub invariant-loop-above : goal.invariant-loop-above
invariant-loop-above l =
    (cut_sum l.level l.demands ≤ l.threshold)
    × (l.level < l.above)
    × (l.above ≤ shares + 1)
    × (l.above ≤ shares → l.threshold < cut_sum l.above l.demands)

abbrev pub decreases-loop-above : goal.decreases-loop-above
decreases-loop-above l = l.above - l.level
