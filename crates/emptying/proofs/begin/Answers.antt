-- `emptying::begin`: an unopened core is valid whatever its tables hold.
use Rattle.emptying.proofs.begin.Goals as goal

pub open-requires : goal.open-requires
open-requires c = (c.unopened-shut.ensures _).1
