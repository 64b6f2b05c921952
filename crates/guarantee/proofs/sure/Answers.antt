-- Each test says which case of the figure it is; behind both the figure is what the demand leaves.
use Rattle.std.proofs.Common.{ℕ, ◌-◌, ap, ◌∙◌}
use borrow.Author.Tests.{not-true, not-false}
use Rattle.tables.specs.Tables.{tables}
use Rattle.guarantee.proofs.SureCore.{sure_unopened, sure-nobody, sure_rest}
use Rattle.guarantee.proofs.sure.Goals as goal
use Rattle.guarantee.proofs.sure.Goals.{then-not-control-via-then-not-control, then-not-control-via-else-not-control+then-not-any}

pub returns-then-not-control : goal.returns-then-not-control
returns-then-not-control c handles lengths links counts valid =
    elim c.then-not-control.branch [
      | then-not-control-via-then-not-control w ↦ sure_unopened _ _ _ (not-true c.args.control.opened w.if-not-control.true)
      | then-not-control-via-else-not-control+then-not-any w ↦
          sure-nobody c.args.control _ valid (not-false c.args.control.opened w.if-not-control.false) c.args.ticks w.any.ensures w.if-not-any.true
    ]

pub returns : goal.returns
returns c handles lengths links counts valid =
    c.saturating_sub.ensures
    ∙ ap (λ (n : ℕ). n - c.demand-taken.result) c.from-slots.ensures
    ∙ sure_rest c.args.control (tables c.args.terms.now c.args.stocks.now handles lengths links counts) valid
    (not-false c.args.control.opened c.if-not-control.false) c.args.ticks c.any.ensures c.if-not-any.false c.demand-taken.ensures
