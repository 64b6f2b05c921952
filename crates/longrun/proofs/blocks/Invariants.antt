-- `longrun::blocks`: the calls made so far are those of so many blocks.
use Rattle.std.proofs.Common.{◌*◌}
use Rattle.runs.specs.LongRun.{block}
use Rattle.runs.specs.Stands.{Goes}
use Rattle.longrun.proofs.blocks.Given as goal

abbrev pub invariant-loop-before : goal.invariant-loop-before
invariant-loop-before g l =
    let old = l.initial in
    Goes (l.before * block) old.at old.tables l.at l.tables
