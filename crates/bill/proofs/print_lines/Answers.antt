-- `bill::print_lines` meets its contract: each line is written behind those before it, in the room of a line. Assumes nothing.
use Rattle.std.proofs.Common.{arith, rules, ◌≡◌, ◌+◌, ◌≤◌, ℕ, refl, ap, length}
use mathlib.Core.Path.{◌∙◌}
use Rattle.definitions.specs.Sizes.{ids}
use Rattle.grammar.specs.CountLines.{lines_below}
use Rattle.printer.specs.Printed.{line_room}
use Rattle.tables.specs.Meaning.{whole_of}
use Rattle.bill.specs.Billed.{bill_room}
use Rattle.bill.proofs.Billing.{lines_more}
use Rattle.bill.proofs.print_lines.Goals as goal

pub loop-id-init : goal.loop-id-init
unfolding ids lines_below
loop-id-init c = (refl, omega arith, λ t e. refl)

pub loop-id-preserved : goal.loop-id-preserved
unfolding ids bill_room
loop-id-preserved c =
    let line = c.print_line-end in
    let loop = c.loop-id in
    let same : length line.new.out ≡ length loop.out = line.auto.out in
    let room : loop.end + line_room ≤ length loop.out = omega (arith, loop.auto.out, loop.invariant.1, c.requires, c.loop-id-test.true) in (
      same ∙ loop.invariant.0,
      omega (arith, line.ensures.1, loop.invariant.1),
      λ t e. lines_more (whole_of c.args.control t) loop.id (loop.invariant.2 t e) (line.ensures.0 t e) room,
    )

pub returns : goal.returns
unfolding ids bill_room
returns c t e =
    let loop = c.loop-id in
    let last : loop.id ≡ ids = omega (arith, loop.auto.id-end, c.loop-id-test.false) in
    record {
      written = loop.invariant.2 t e ∙ ap (λ (n : ℕ). lines_below n (whole_of c.args.control t)) last;
      fits = omega (arith, loop.invariant.0, last, loop.invariant.1, c.requires);
    }
