-- `notes::reason` meets its contract: an unopened core and a sum of 0 have no draw, and else the control holds the value of the target.
-- Assumes nothing.
use borrow.Author.Tests.{eq-eqb, ne_eqb, not-true, not-false}
use Rattle.tables.specs.Meaning.{state_of, side_of}
use Rattle.tables.proofs.Promises.{core_of-opened, core_of_shut}
use Rattle.notes.specs.ReasonLeft.{reason_left}
use Rattle.notes.proofs.reason.Goals as goal

pub returns-then-not-control : goal.returns-then-not-control
unfolding reason_left
returns-then-not-control c t =
    let a = c.args in
    rw (core_of_shut a.control t (not-true a.control.opened c.if-not-control.true))

pub returns-then-sum-eq0 : goal.returns-then-sum-eq0
unfolding reason_left
returns-then-sum-eq0 c t =
    let a = c.args in
    rw (core_of-opened a.control t (not-false a.control.opened c.if-not-control.false), eq-eqb a.sum 0 c.if-sum-eq0.true)

pub returns : goal.returns
unfolding reason_left state_of side_of
returns c t =
    let a = c.args in
    rw (core_of-opened a.control t (not-false a.control.opened c.if-not-control.false), ne_eqb a.sum 0 c.if-sum-eq0.false, c.remainder.ensures)
