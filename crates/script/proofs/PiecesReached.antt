-- How far the pieces of a text have come, whoever asks for them: the bytes so far, the place, and control and tables there. So a
-- caller's loop keeps one fact, which each piece carries on. Assumes nothing.
use Prim.Native.Nat.{ℕ, ◌≤◌, ◌<◌}
use mathlib.Core.Path.{◌≡◌}
use mathlib.Core.List.{List, [], ◌++◌}
use lib.ListN.{length, take}
use Rattle.definitions.specs.Counts.{whole_new}
use Rattle.grammar.specs.Bytes.{text_limit}
use Rattle.grammar.specs.Printout.{whole_from}
use Rattle.printer.specs.Printed.{line_room}
use Rattle.tables.specs.declared.Control.{Control}
use Rattle.tables.specs.declared.Tables.{Tables}
use Rattle.tables.specs.Meaning.{whole_of}
use Rattle.tables.specs.Invariant.{Valid}
use Rattle.grammar.specs.declared.Audience.{Audience}
use Rattle.script.specs.declared.Progress.{Progress}
use Rattle.script.specs.Pieces.{Start, Piece, Written, started, piece}
use Rattle.script.proofs.PiecesPrinted.{start_place, pieces_printed}

pub record Reached (to : Audience) (text bytes : List ℕ) (c : Control) (t : Tables) (at : ℕ) : Type 0 where
  pub sofar : Written to text bytes at c t
  pub within : at ≤ length text
  pub read : at < length text → length text ≤ text_limit
  pub valid : Valid c t

pub reached_first : {to : Audience} {text out : List ℕ} {r : Progress} → Start text out r → line_room ≤ length out → (t : Tables)
    → Reached to text (take r.written out) r.control t r.next
reached_first s room t = record {
  sofar = started s room;
  within = (start_place s).0;
  read = (start_place s).1;
  valid = (s.core t).1;
}

module _ {to : Audience} {text bytes : List ℕ} {c : Control} {t : Tables} {at : ℕ} (k : Reached to text bytes c t at) where
  pub reached_more : {new : List ℕ} {r : Progress} {u : Tables} → Piece to text at c t new r u → at < length text
      → Reached to text (bytes ++ take r.written new) r.control u r.next
  reached_more p inside = record {
    sofar = piece k.sofar p;
    within = p.walked.within k.within;
    read = λ more. k.read inside;
    valid = p.walked.valid;
  }

  -- at the end of a text that is not too long
  pub reached_left : length text ≤ text_limit → length text ≤ at → whole_of c t ≡ whole_from whole_new [] text
  reached_left short past = pieces_printed.whole_left to text bytes at c t k.sofar short past
