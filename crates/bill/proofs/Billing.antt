-- The lines of the ids one behind the other, and which lines are told behind a script. Assumes nothing.
use Prim.Native.Nat.{ℕ, ◌+◌, ◌≤◌, ◌<◌}
use native.Mathlib.Numerals.{add-one}
use mathlib.Core.Path.{◌≡◌, refl, ap, ◌∙◌}
use mathlib.Core.List.{List, ◌++◌}
use native.Mathlib.Omega.{arith}
use lib.ListN.{length, take}
use borrow.Author.Tests.{lt-ltb, le-ltb}
use Rattle.definitions.specs.Sizes.{ids}
use Rattle.definitions.specs.Counts.{Whole, Sheet, count_sheet}
use Rattle.grammar.specs.Bytes.{text_limit}
use Rattle.grammar.specs.CountLines.{sheet_line, line_of, lines_below, counts_printed}
use Rattle.printer.specs.Printed.{line_room, LineWritten}
use Rattle.printer.proofs.Appending.{appended_front}
use Rattle.script.specs.declared.Progress.{Progress}
use Rattle.tables.specs.declared.Tables.{Tables}
use Rattle.tables.specs.Meaning.{whole_of}
use Rattle.carried.specs.CarriedOut.{CarriedOut}
use Rattle.bill.specs.Billed.{bill_room, AllLines, Billed}

-- the line of a sheet that is an id's
pub sheet_line_lem : (w : Whole) (id : ℕ) {sheet : Sheet} → sheet ≡ count_sheet w.core w.counts id → sheet_line id sheet ≡ line_of w id
unfolding line_of
sheet_line_lem w id e = ap (sheet_line id) e

-- one line more
pub lines_more : (w : Whole) (id : ℕ) {out after : List ℕ} {end more : ℕ}
    → take end out ≡ lines_below id w
    → LineWritten (line_of w id) out end after more
    → end + line_room ≤ length out
    → take more after ≡ lines_below (id + 1) w
unfolding lines_below
lines_more w id so line room =
    rw (add-one id) (appended_front (line.written room) ∙ ap (λ (l : List ℕ). l ++ line_of w id) so)

module _ (text before : List ℕ) (t : Tables) where
  pub billed_bare : length before < bill_room → Billed text before t before 0 t
  billed_bare little = record { told = λ room. absurd (omega arith); fits = omega arith; bare = λ less. (refl, refl, refl) }

  module _ (room : bill_room ≤ length before) where
    line_room_lem : line_room ≤ length before
    unfolding bill_room ids
    line_room_lem = omega (arith, room)

    -- a text that is too long: its line is written
    pub billed_long : {out : List ℕ} {r : Progress} {u : Tables} → length out ≡ length before → CarriedOut text out r u
        → text_limit < length text
        → Billed text before t out r.written u
    unfolding counts_printed
    billed_long same carried over = record {
      told = λ wide. rw (counts_printed, lt-ltb text_limit (length text) over) (carried.long (omega (arith, line_room_lem)) over);
      fits = carried.fits;
      bare = λ little. absurd (omega arith);
    }

    -- else the lines behind it
    pub billed_lines : {out after : List ℕ} {end : ℕ} {r : Progress} {u : Tables} → length out ≡ length before
        → length text ≤ text_limit
        → CarriedOut text out r u
        → AllLines (whole_of r.control u) after end
        → Billed text before t after end u
    unfolding counts_printed
    billed_lines same short carried lines = record {
      told = λ wide.
          lines.written
          ∙ ap (lines_below ids) (carried.left (omega (arith, line_room_lem)) short)
          ∙ rw (counts_printed, le-ltb text_limit (length text) short) refl;
      fits = lines.fits;
      bare = λ little. absurd (omega arith);
    }
