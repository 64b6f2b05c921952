-- `greedy::level_of`: the level stands in its column of the terms.
use borrow.Author.Tests.{not-true, not-false}
use Rattle.definitions.specs.Sizes.{ids}
use Rattle.tables.specs.Tables.{field}
use Rattle.tables.specs.Meaning.{client_at, clients_of, state_of, core_of}
use Rattle.greedy.specs.GreedyRun.{level_in}
use Rattle.greedy.proofs.level_of.Goals as goal

pub returns-then-not-control : goal.returns-then-not-control
unfolding level_in core_of
returns-then-not-control c = rw (not-true c.args.control.opened c.if-not-control.true)

pub returns : goal.returns
unfolding level_in core_of state_of clients_of client_at field ids
returns c = rw (not-false c.args.control.opened c.if-not-control.false)
