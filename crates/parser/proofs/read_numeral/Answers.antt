-- `parser::read_numeral` meets its contract: the first digit, then those behind it, and at the end whether they are a number.
-- Assumes nothing.
use mathlib.Core.Path.{◌≡◌, refl}
use mathlib.Core.List.{[]}
use Prim.Native.Nat.{◌≤◌}
use native.Mathlib.Omega.{arith}
use Rattle.grammar.specs.Numerals.{leading}
use Rattle.parser.specs.Numbers.{largest64}
use Rattle.parser.proofs.NumeralWalk.{none_spelled, passed_one, passed_more, passed_zero, passed_led, passed_single}
use Rattle.parser.proofs.read_numeral.Goals as goal
use Rattle.parser.proofs.read_numeral.Goals.{else-first-eq0-via-then-first-eq0+else-rest-behind, else-first-eq0-via-else-first-eq0}

pub returns-in_err-first : goal.returns-in_err-first
returns-in_err-first c = rw c.from_residual.ensures (none_spelled _ c.in_err-first.ensures)

pub loop-digit-init : goal.loop-digit-init
loop-digit-init c = passed_one c.in_ok-first.ensures.0 c.in_ok-first.ensures.1

pub loop-digit-preserved : goal.loop-digit-preserved
loop-digit-preserved c =
    passed_more c.loop-digit.invariant c.in-Some.ensures.0 c.in-Some.ensures.1 c.more-amount.ensures

pub returns-then-rest-behind : goal.returns-then-rest-behind
returns-then-rest-behind c =
    passed_zero c.loop-digit.invariant (rw c.in_default.is at c.split_digit-in-loop-digit.ensures)
    c.if-first-eq0.true c.if-rest-behind.true

pub returns : goal.returns
returns c =
    let none : leading c.loop-digit.rest.now ≡ [] = rw c.in_default.is at c.split_digit-in-loop-digit.ensures in
    let fits : c.args.limit ≤ largest64 = omega (arith, c.ranges.limit.fits) in
    elim c.else-first-eq0.branch [
      | else-first-eq0-via-then-first-eq0+else-rest-behind w ↦
          passed_single c.loop-digit.invariant none w.if-rest-behind.false fits c.held.ensures refl
      | else-first-eq0-via-else-first-eq0 w ↦
          passed_led c.loop-digit.invariant none w.if-first-eq0.false fits c.held.ensures refl
    ]
