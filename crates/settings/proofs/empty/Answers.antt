-- `settings::empty` meets its contract: the id's places leave the order, and its stock is bare. Assumes nothing.
use Rattle.settings.proofs.Emptying.{emptied_by}
use Rattle.settings.proofs.empty.Goals as goal

pub returns : goal.returns
returns c terms handles lengths counts shape =
    let w = c.withdraw.ensures in
    let a = c.args in
    rw c.clear.ensures.stocks_after
    (emptied_by a.control _ shape a.id c.requires.1 c.clear.result _ c.clear.ensures.quiet w.sound
    (w.withdraws shape.order shape.ordered (shape.placed a.id c.requires.1)))
