-- `remains::start`: by whether there is an earlier history.
use Rattle.remains.proofs.Starting.{starts_unopened, starts-behind}
use Rattle.remains.proofs.start.Goals as goal

pub returns-then-earlier-eq0 : goal.returns-then-earlier-eq0
returns-then-earlier-eq0 c = starts_unopened c.if-earlier-eq0.true c.begin.ensures

pub calls-left-requires : goal.calls-left-requires
calls-left-requires c = c.begin-first.ensures.valid _

pub returns : goal.returns
returns c = starts-behind c.if-earlier-eq0.false c.begin-first.ensures c.calls-left.ensures c.begin-2.ensures
