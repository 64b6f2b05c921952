-- `emptying::empty_ids`: the core is valid, and the places stand.
use Rattle.tables.specs.Invariant.{Valid}
use Rattle.tables.specs.Places.{PlacesStand}
use Rattle.emptying.proofs.empty_ids.Given as goal

abbrev pub invariant-loop-id : goal.invariant-loop-id
invariant-loop-id l = Valid l.at.control l.tables × PlacesStand l.initial.tables l.tables
