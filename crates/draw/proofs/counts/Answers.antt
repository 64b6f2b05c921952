-- A value with room for the total above it is below the span, and the span is all values but the remainder.
use Rattle.std.proofs.Common.{sym, ap₂, ltb, arith}
use borrow.Author.Tests.{lt-ltb, le-ltb}
use Rattle.definitions.specs.Sample.{even_span}
use Rattle.definitions.proofs.Sample.{even_span_rest, even_span-none, even_span_high}
use Rattle.draw.proofs.counts.Goals as goal

pub returns-then-total-eq0 : goal.returns-then-total-eq0
returns-then-total-eq0 c = sym (rw (c.if-total-eq0.true, even_span-none) (le-ltb c.args.value 0 (omega arith)))

pub returns-then-total-number : goal.returns-then-total-number
returns-then-total-number c =
    sym (lt-ltb c.args.value (even_span c.args.total) (even_span_high c.args.total c.args.value (omega arith) (omega arith)))

pub returns : goal.returns
returns c = ap₂ ltb c.from-number.ensures (omega (arith, even_span_rest c.args.total))
