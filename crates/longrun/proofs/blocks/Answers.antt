-- `longrun::blocks`: each block goes on where the last one ended.
use Rattle.std.proofs.Common.{arith}
use Rattle.runs.proofs.Going.{goes_none, goes_as, goes_on, check-after}
use Rattle.longrun.proofs.blocks.Goals as goal

pub loop-before-init : goal.loop-before-init
loop-before-init g c = goes_none _ _ (c.begin-at.ensures.valid _)

pub tell-requires : goal.tell-requires
tell-requires g c = check-after _ c.begin-at.ensures (goes_as (omega arith) (goes_on c.loop-before.invariant c.calls-at.ensures))

pub loop-before-preserved : goal.loop-before-preserved
loop-before-preserved g c = goes_as (omega arith) (goes_on c.loop-before.invariant c.calls-at.ensures)
