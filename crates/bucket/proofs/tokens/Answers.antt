-- The sum is that of the definition, and fits.
use Rattle.std.proofs.Common.{refl, arith}
use Rattle.definitions.specs.Sizes.{shares}
use Rattle.definitions.specs.Stretch.{tokens}
use Rattle.bucket.proofs.WideSums.{product_high}
use Rattle.bucket.proofs.tokens.Goals as goal

pub overflow_mul-result : goal.overflow_mul-result
overflow_mul-result c =
    let high = product_high {a = c.args.ticks} {b = c.args.rate} (omega arith) (omega arith) in
    rw (c.from-2.ensures, c.from-3.ensures) (omega (arith, high))

pub overflow_add-result : goal.overflow_add-result
overflow_add-result c =
    let high = product_high {a = c.args.ticks} {b = c.args.rate} (omega arith) (omega arith) in
    rw (c.from.ensures, c.from-2.ensures, c.from-3.ensures) (omega (arith, high))

pub returns : goal.returns
unfolding tokens shares
returns c =
    let high = product_high {a = c.args.ticks} {b = c.args.rate} (omega arith) (omega arith) in
    rw (c.from.ensures, c.from-2.ensures, c.from-3.ensures, c.from-4.ensures) (refl, omega (arith, high))
