-- `printer::print_pair` meets its contract: it writes nothing where a line may not fit, and else the line, whose second number
-- goes on where the first one ended. Assumes nothing.
use native.Mathlib.Omega.{arith}
use Prim.Native.Nat.{ℕ, ◌+◌, ◌≤◌, ◌<◌, ◌^◌}
use mathlib.Core.Path.{ap}
use mathlib.Core.Bool.{not}
use mathlib.Core.List.{List, ◌++◌}
use lib.ListN.{length, length-append}
use Rattle.grammar.specs.Bytes.{bytes}
use Rattle.grammar.specs.Numerals.{decimal}
use Rattle.printer.specs.Printed.{line_room, word_room}
use Rattle.printer.proofs.Appending.{front_room, appended_room, appended_more}
use Rattle.printer.proofs.FilledLength.{ten_digits}
use Rattle.printer.proofs.LineRoom.{roomy, unwritten, wrote}
use Rattle.printer.proofs.print_pair.Goals as goal

-- the two parts of the line, each with its number
abbrev first_part : List ℕ → ℕ → List ℕ
first_part text first = text ++ decimal first

abbrev second_part : ℕ → List ℕ
second_part second = (bytes " " ++ decimal second) ++ bytes ")\n"

-- where a line has room both have it: 32 bits have at most ten digits
both-room : (text : List ℕ) (first second at size : ℕ) → length text ≤ word_room → first < 2 ^ 32 → second < 2 ^ 32
    → at + line_room ≤ size → at + length (first_part text first ++ second_part second) ≤ size
both-room text first second at size short low high room =
    simp length-append (omega (arith, short, ten_digits first low, ten_digits second high, room))

pub returns-then-not-has_room : goal.returns-then-not-has_room
returns-then-not-has_room c =
    unwritten c.args.out.now c.args.at c.has_room.ensures _ (ap not c.if-not-has_room.true)

pub put_number-end-requires : goal.put_number-end-requires
put_number-end-requires c =
    let a = c.args in
    let room = roomy a.out.now a.at c.has_room.ensures (ap not c.if-not-has_room.false) in
    rw c.from.ensures
    (front_room (first_part a.text.now a.first) (second_part a.second) a.out.now a.at
    (both-room a.text.now a.first a.second a.at _ c.requires (omega arith) (omega arith) room))

pub put_between-requires : goal.put_between-requires
put_between-requires c =
    let a = c.args in
    let room = roomy a.out.now a.at c.has_room.ensures (ap not c.if-not-has_room.false) in
    appended_room (rw c.from.ensures at c.put_number-end.ensures) (second_part a.second)
    (both-room a.text.now a.first a.second a.at _ c.requires (omega arith) (omega arith) room)

pub returns : goal.returns
returns c =
    wrote c.args.out.now c.args.at c.has_room.ensures (ap not c.if-not-has_room.false)
    (appended_more (rw c.from.ensures at c.put_number-end.ensures) c.put_between.ensures)
