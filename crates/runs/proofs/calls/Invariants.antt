-- `runs::calls`: so many calls have been made.
use Rattle.runs.specs.Advance.{Advances}
use Rattle.runs.proofs.calls.Given as goal

abbrev pub invariant-loop : goal.invariant-loop
invariant-loop g l =
    let old = l.initial in
    Advances g.R.Run.control g.R.Run.meaning g.R.Run.next l.counter old.at old.tables l.at l.tables
