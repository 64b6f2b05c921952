-- `remains::block`: each stretch goes on where the last one ended.
use Rattle.std.proofs.Common.{arith}
use Rattle.runs.proofs.Going.{goes_none, goes_as, goes_on}
use Rattle.remains.proofs.block.Goals as goal

pub loop-init : goal.loop-init
loop-init c = goes_none _ _ c.requires

pub loop-preserved : goal.loop-preserved
loop-preserved c = goes_as (omega arith) (goes_on c.loop.invariant c.stretch-at.ensures)

pub returns : goal.returns
returns c = goes_as (omega arith) c.loop.invariant
