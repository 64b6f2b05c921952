-- A turn of the sweep, and its end.
use Rattle.std.proofs.Common.{◌≡◌, ◌<◌, arith}
use Rattle.definitions.specs.Sizes.{ids}
use Rattle.tables.specs.Tables.{field}
use Rattle.slot.proofs.RefillMarked.{rate_first}
use Rattle.slot.proofs.RefillEach.{reached_bucket, sweep_step, sweep_done}
use Rattle.slot.proofs.refill_each.Goals as goal

pub level_after-requires : goal.level_after-requires
unfolding field ids
level_after-requires c =
    let below : c.loop-id.id < 64 = omega arith in
    rw (← (rate_first c.loop-id.terms c.loop-id.id))
    (reached_bucket c.args.terms.now c.loop-id.terms c.loop-id.id c.loop-id.invariant below (c.requires.buckets c.loop-id.id below))

pub loop-id-preserved : goal.loop-id-preserved
unfolding field ids
loop-id-preserved c =
    let below : c.loop-id.id < 64 = omega arith in
    rw (c.level_after.ensures, ← (rate_first c.loop-id.terms c.loop-id.id))
    (sweep_step c.args.terms.now c.loop-id.terms c.loop-id.id c.loop-id.invariant below c.requires.size)

pub returns : goal.returns
unfolding ids
returns c =
    let all : c.loop-id.id ≡ 64 = omega arith in
    sweep_done _ _ _ c.requires (rw all at c.loop-id.invariant)
