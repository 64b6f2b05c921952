-- `runs::begin`: the control is unopened, the maker has the seed and a busy time, and the check is 0.
use Rattle.runs.specs.LongRun.{begun_on}
use Rattle.runs.proofs.begin.Goals as goal

pub returns : goal.returns
unfolding begun_on
returns c = let shut = c.unopened.ensures in record { run = λ t. rw ((shut t).0, c.new.ensures); valid = λ t. (shut t).1 }
