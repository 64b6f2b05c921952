-- `printer::print_refused` meets its contract: it writes nothing where a line may not fit, and else the line. Assumes nothing.
use native.Mathlib.Omega.{arith}
use mathlib.Core.Path.{ap}
use mathlib.Core.Bool.{not}
use mathlib.Core.List.{[], ◌∷◌}
use Rattle.grammar.specs.Bytes.{bytes}
use Rattle.grammar.specs.Templates.{filled}
use Rattle.grammar.specs.Printout.{printed}
use Rattle.printer.proofs.FilledLength.{ten_digits, filled_room}
use Rattle.printer.proofs.LineRoom.{roomy, unwritten, wrote}
use Rattle.printer.proofs.print_refused.Goals as goal

pub returns-then-not-has_room : goal.returns-then-not-has_room
returns-then-not-has_room c = unwritten c.args.out.now c.args.at c.has_room.ensures _ (ap not c.if-not-has_room.true)

pub put_between-requires : goal.put_between-requires
unfolding filled
put_between-requires c =
    let number = c.args.number in
    let short = ten_digits number (omega (arith, c.ranges.number)) in
    filled_room (bytes "(refused #)\n") (number ∷ []) (omega (arith, short)) c.args.at
    (roomy c.args.out.now c.args.at c.has_room.ensures (ap not c.if-not-has_room.false))

pub returns : goal.returns
unfolding printed filled
returns c = wrote c.args.out.now c.args.at c.has_room.ensures (ap not c.if-not-has_room.false) c.put_between.ensures
