-- `maxmin::fair_level` meets its contract. Assumes nothing.
use Prim.Native.Nat.{suc}
use native.Mathlib.Omega.{arith}
use mathlib.Core.Path.{◌≡◌, sym}
use Rattle.definitions.specs.Sizes.{shares}
use Rattle.definitions.proofs.Fairness.Level.{cut_sum-zero, level_is_lem}
use Rattle.maxmin.proofs.fair_level.Goals as goal

pub loop-above-init : goal.loop-above-init
unfolding shares
loop-above-init c = (omega (arith, cut_sum-zero c.args.demands.now), omega arith, omega arith, λ low. absurd (omega arith))

pub returns : goal.returns
returns c =
    let loop = c.loop-above in
    let next : loop.above ≡ suc loop.level = omega (arith, c.loop-above-test.false, loop.invariant.1) in
    sym
    (level_is_lem c.args.threshold c.args.demands.now loop.level
    (omega (arith, loop.invariant.1, loop.invariant.2))
    loop.invariant.0
    (λ low. rw (sym next) (loop.invariant.3 (omega arith))))
