-- `printer::put_real` meets its contract: the line is four texts, each with a number, and one goes on where the other ended.
-- Assumes nothing.
use Prim.Native.Nat.{ℕ, ◌+◌, ◌≤◌}
use mathlib.Core.Path.{◌≡◌, refl}
use mathlib.Core.List.{List, ◌++◌}
use lib.ListN.{length}
use Rattle.definitions.specs.declared.Packet.{Packet}
use Rattle.definitions.specs.declared.Outcome.TheVariants.{Real}
use Rattle.definitions.specs.declared.Answer.TheVariants.{Slot}
use Rattle.definitions.specs.Answers.{values}
use Rattle.grammar.specs.Bytes.{bytes}
use Rattle.grammar.specs.Numerals.{decimal}
use Rattle.grammar.specs.Templates.{filled}
use Rattle.grammar.specs.Printout.{printed}
use Rattle.printer.proofs.Appending.{front_room, appended_room, appended_more, appended_as}
use Rattle.printer.proofs.put_real.Goals as goal

-- the four texts, and what is to follow the first and the second
module _ (id : ℕ) (packet : Packet) (padding : ℕ) where
  abbrev id_text : List ℕ
  id_text = bytes "(slot (real " ++ decimal id

  abbrev handle_text : List ℕ
  handle_text = bytes " " ++ decimal packet.handle

  abbrev length_text : List ℕ
  length_text = bytes " " ++ decimal packet.length

  abbrev padding_text : List ℕ
  padding_text = (bytes " " ++ decimal padding) ++ bytes "))\n"

  abbrev behind_handle : List ℕ
  behind_handle = length_text ++ padding_text

  abbrev behind_id : List ℕ
  behind_id = handle_text ++ behind_handle

  whole : printed (Slot (Real id packet padding)) ≡ id_text ++ behind_id
  unfolding printed values filled
  whole = refl

  room : (out : List ℕ) (at : ℕ) → at + length (printed (Slot (Real id packet padding))) ≤ length out
      → at + length (id_text ++ behind_id) ≤ length out
  room out at requires = rw whole at requires

pub put_number-id_end-requires : goal.put_number-id_end-requires
put_number-id_end-requires c =
    let a = c.args in
    rw c.from.ensures
    (front_room (id_text a.id a.packet a.padding) (behind_id a.id a.packet a.padding) a.out.now a.at
    (room a.id a.packet a.padding a.out.now a.at c.requires))

pub put_number-handle_end-requires : goal.put_number-handle_end-requires
put_number-handle_end-requires c =
    let a = c.args in
    let first = room a.id a.packet a.padding a.out.now a.at c.requires in
    let second = appended_room (rw c.from.ensures at c.put_number-id_end.ensures) (behind_id a.id a.packet a.padding) first in
    front_room (handle_text a.id a.packet a.padding) (behind_handle a.id a.packet a.padding) _ _ second

pub put_number-length_end-requires : goal.put_number-length_end-requires
put_number-length_end-requires c =
    let a = c.args in
    let first = room a.id a.packet a.padding a.out.now a.at c.requires in
    let second = appended_room (rw c.from.ensures at c.put_number-id_end.ensures) (behind_id a.id a.packet a.padding) first in
    let third = appended_room c.put_number-handle_end.ensures (behind_handle a.id a.packet a.padding) second in
    rw c.from-2.ensures (front_room (length_text a.id a.packet a.padding) (padding_text a.id a.packet a.padding) _ _ third)

pub put_between-requires : goal.put_between-requires
put_between-requires c =
    let a = c.args in
    let first = room a.id a.packet a.padding a.out.now a.at c.requires in
    let second = appended_room (rw c.from.ensures at c.put_number-id_end.ensures) (behind_id a.id a.packet a.padding) first in
    let third = appended_room c.put_number-handle_end.ensures (behind_handle a.id a.packet a.padding) second in
    appended_room (rw c.from-2.ensures at c.put_number-length_end.ensures) (padding_text a.id a.packet a.padding) third

pub returns : goal.returns
returns c =
    let a = c.args in
    appended_as (whole a.id a.packet a.padding)
    (appended_more (rw c.from.ensures at c.put_number-id_end.ensures)
    (appended_more c.put_number-handle_end.ensures
    (appended_more (rw c.from-2.ensures at c.put_number-length_end.ensures) c.put_between.ensures)))
