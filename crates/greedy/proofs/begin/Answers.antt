-- `greedy::begin`: the run begins as any, and the counts are 0.
use Rattle.greedy.specs.GreedyRun.{begun}
use Rattle.greedy.proofs.begin.Goals as goal

pub returns : goal.returns
unfolding begun
returns c = let first = c.begin.ensures in record { run = λ t. rw (first.run t); valid = first.valid }
