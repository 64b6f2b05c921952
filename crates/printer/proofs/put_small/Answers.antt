-- `printer::put_small` meets its contract: a number below ten is one digit, and one below a hundred is its last two. Assumes
-- nothing.
use Prim.Native.Nat.{◌+◌}
use native.Mathlib.Omega.{arith}
use mathlib.Core.Path.{ap}
use lib.ListN.{length}
use Rattle.grammar.proofs.Decimals.{decimal_low, decimal_two, decimal_some}
use Rattle.printer.proofs.Appending.{appended_byte, appended_as}
use Rattle.printer.proofs.put_small.Goals as goal

pub bounds-out-at : goal.bounds-out-at
bounds-out-at c = omega (arith, decimal_some c.args.n)

pub returns-then-n-lt10 : goal.returns-then-n-lt10
returns-then-n-lt10 c =
    rw (decimal_low c.args.n c.if-n-lt10.true)
    (appended_byte (48 + c.args.n) c.args.out.now c.args.at (omega (arith, decimal_some c.args.n)))

pub put_two-requires : goal.put_two-requires
put_two-requires c =
    omega (arith, ap length (decimal_two c.args.n c.if-n-lt10.false c.requires.0), c.requires.1)

pub returns : goal.returns
returns c = appended_as (decimal_two c.args.n c.if-n-lt10.false c.requires.0) c.put_two.ensures
