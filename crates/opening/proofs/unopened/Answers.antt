-- `opening::unopened` meets its contract: a control that is not opened means an unopened core, whatever the tables hold.
-- Assumes nothing.
use mathlib.Core.Path.{ap}
use Rattle.definitions.proofs.Laws.Tests.{true-false}
use Rattle.tables.specs.declared.Control.{Control}
use Rattle.tables.proofs.Promises.{core_of_shut}
use Rattle.opening.proofs.unopened.Goals as goal

pub returns : goal.returns
returns c t =
    let shut = ap (λ (d : Control). d.opened) c.control_of.ensures in
    (core_of_shut c.control_of.result t shut, λ e. true-false e shut)
