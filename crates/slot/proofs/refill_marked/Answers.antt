-- A turn of the walk, and its end. Each index is that of an id in a column.
use Rattle.std.proofs.Common.{◌∙◌, arith}
use Rattle.definitions.specs.Sizes.{ids}
use Rattle.tables.specs.Tables.{field}
use Rattle.slot.specs.Buckets.{level_after}
use Rattle.slot.proofs.RefillMarked.{filling_done, filling_lt, next_bucket, filling_step, rate_first}
use Rattle.slot.proofs.refill_marked.Goals as goal

pub overflow_add-at : goal.overflow_add-at
unfolding ids
overflow_add-at c = omega (arith, filling_lt (rw c.in-Some.ensures.steps at c.loop-id.invariant.2))

pub bounds-terms-at : goal.bounds-terms-at
unfolding ids
bounds-terms-at c = omega (arith, filling_lt (rw c.in-Some.ensures.steps at c.loop-id.invariant.2))

pub bounds-terms-id : goal.bounds-terms-id
unfolding ids
bounds-terms-id c = omega (arith, filling_lt (rw c.in-Some.ensures.steps at c.loop-id.invariant.2))

pub overflow_add-id : goal.overflow_add-id
unfolding ids
overflow_add-id c = omega (arith, filling_lt (rw c.in-Some.ensures.steps at c.loop-id.invariant.2))

pub bounds-terms-id-in-loop-id : goal.bounds-terms-id-in-loop-id
unfolding ids
bounds-terms-id-in-loop-id c = omega (arith, filling_lt (rw c.in-Some.ensures.steps at c.loop-id.invariant.2))

pub bounds-terms-at-in-loop-id : goal.bounds-terms-at-in-loop-id
unfolding ids
bounds-terms-at-in-loop-id c = omega (arith, filling_lt (rw c.in-Some.ensures.steps at c.loop-id.invariant.2))

pub level_after-requires : goal.level_after-requires
unfolding field ids
level_after-requires c =
    rw (← (rate_first c.loop-id.terms c.in-Some.id)) (next_bucket (rw c.in-Some.ensures.steps at c.loop-id.invariant.2) c.requires)

pub loop-id-preserved : goal.loop-id-preserved
unfolding field ids level_after
loop-id-preserved c = (
  tt,
  tt,
  filling_step (rw c.in-Some.ensures.steps at c.loop-id.invariant.2) c.requires c.level_after.result
      (c.level_after.ensures ∙ rw (rate_first c.loop-id.terms c.in-Some.id)),
)

pub returns : goal.returns
returns c = filling_done (rw c.in-None.ensures.steps.0 at c.loop-id.invariant.2)
