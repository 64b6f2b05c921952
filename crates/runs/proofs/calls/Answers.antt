-- `runs::calls`: no calls have been made at first, and one more in each turn.
use Rattle.runs.proofs.Going.{goes_none, goes_on}
use Rattle.runs.proofs.calls.Goals as goal

pub loop-init : goal.loop-init
loop-init g c = goes_none _ _ c.requires

pub loop-preserved : goal.loop-preserved
loop-preserved g c = goes_on c.loop.invariant c.call_once-at.ensures
