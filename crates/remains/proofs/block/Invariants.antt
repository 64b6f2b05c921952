-- `remains::block`: the calls made so far are those of so many stretches.
use Rattle.std.proofs.Common.{◌*◌}
use Rattle.runs.specs.Stands.{Goes}
use Rattle.remains.specs.Started.{stretch}
use Rattle.remains.proofs.block.Given as goal

abbrev pub invariant-loop : goal.invariant-loop
invariant-loop l =
    let old = l.initial in
    Goes (l.counter * stretch) old.at old.tables l.at l.tables
