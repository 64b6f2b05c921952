-- `runs::ProgressRun::call_once`: its draws make the call that is taken.
use Rattle.runs.proofs.Going.{goes_once}
use Rattle.runs.proofs.ProgressRun.call_once.Goals as goal

pub returns : goal.returns
returns c = goes_once _ _ c.draw-draws.ensures (rw c.k_of.ensures at c.call_of-call.ensures) c.take.ensures
