-- `greedy::GreedyProgressRun::call_once`: four draws make the call of the phase, it is taken, and its answer is counted.
use Rattle.greedy.proofs.Offers.{goes_once}
use Rattle.greedy.proofs.GreedyProgressRun.call_once.Goals as goal

pub returns : goal.returns
returns c =
    goes_once _ _ c.draw-draws.ensures c.call_in-call.ensures c.take-taken.ensures c.level_of-level.ensures c.turn.ensures
