-- `emptying::empty_rounds`: the core is valid, and the places stand.
use Rattle.tables.specs.Invariant.{Valid}
use Rattle.tables.specs.Places.{PlacesStand}
use Rattle.emptying.proofs.empty_rounds.Given as goal

abbrev pub invariant-loop : goal.invariant-loop
invariant-loop l = Valid l.at.control l.tables × PlacesStand l.initial.tables l.tables
