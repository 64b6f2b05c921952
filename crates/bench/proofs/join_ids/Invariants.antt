-- `bench::join_ids`: the core is valid.
use Rattle.tables.specs.Tables.{tables}
use Rattle.tables.specs.Invariant.{Valid}
use Rattle.bench.proofs.join_ids.Given as goal

abbrev pub invariant-loop-id : goal.invariant-loop-id
invariant-loop-id l = Valid l.at (tables l.terms l.stocks l.handles l.lengths l.links l.counts)
