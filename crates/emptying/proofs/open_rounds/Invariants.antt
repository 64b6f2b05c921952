-- `emptying::open_rounds`: the core is valid.
use Rattle.tables.specs.Invariant.{Valid}
use Rattle.emptying.proofs.open_rounds.Given as goal

abbrev pub invariant-loop-k : goal.invariant-loop-k
invariant-loop-k l = Valid l.at.control l.tables
