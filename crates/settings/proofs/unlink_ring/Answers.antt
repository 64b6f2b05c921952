-- `settings::unlink_ring` meets its contract: turn by turn the id's next place leaves the order. Assumes nothing.
use Rattle.std.proofs.Common.{rules, arith, ◌≡◌, ◌+◌, ◌-◌}
use Prim.Native.Nat.{suc}
use Rattle.definitions.specs.Sizes.{ids, places}
use Rattle.settings.proofs.Withdrawing.{withdrawing_step, withdrawing_done}
use Rattle.settings.proofs.unlink_ring.Goals as goal

pub overflow_mul-id : goal.overflow_mul-id
unfolding ids
overflow_mul-id c = search rules

pub overflow_add-head : goal.overflow_add-head
unfolding places
overflow_add-head c = search rules

pub overflow_add-id : goal.overflow_add-id
unfolding ids places
overflow_add-id c = search rules

pub loop-i-preserved : goal.loop-i-preserved
unfolding places
loop-i-preserved c =
    let now = c.loop-i in
    let a = c.args in
    let left : a.count - now.i ≡ suc (a.count - (now.i + 1)) = omega arith in
    let next : suc (a.head + now.i) ≡ a.head + (now.i + 1) = omega arith in
    let u = c.unlink.ensures in
    record {
      sound = u.sound;
      left = λ order o e. rw next at (withdrawing_step _ _ _ _ _ _ u.by_index (rw left at (now.invariant.left order o e)));
    }

pub returns-clause-by_index : goal.returns-clause-by_index
returns-clause-by_index c order o e =
    let now = c.loop-i in
    let none : c.args.count - now.i ≡ 0 = omega arith in
    withdrawing_done _ _ _ _ (rw none at (now.invariant.left order o e))
