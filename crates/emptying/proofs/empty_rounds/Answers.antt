-- `emptying::empty_rounds`: each round takes up the valid core that was kept.
use Rattle.emptying.proofs.empty_rounds.Goals as goal

pub empty_ids-at-requires : goal.empty_ids-at-requires
empty_ids-at-requires c = let stand = c.loop.invariant.1 in rw (stand.handles, stand.lengths) c.requires
