-- Between two pieces: some bytes were handed on, piece behind piece, and counted. Each piece goes a byte of the text further at
-- least, so the count fits; at the end of the text it is the printout's length (script, PiecesPrinted). Assumes nothing.
use Prim.Native.Nat.{ℕ, ◌+◌, ◌*◌, ◌≤◌, ◌<◌}
use mathlib.Core.Path.{◌≡◌, sym, ap, ◌∙◌}
use mathlib.Core.List.{List, ◌++◌}
use native.Mathlib.Omega.{arith}
use lib.ListN.{length, take, length-append}
use lib.Seq.{length-take-le}
use Rattle.grammar.specs.declared.Audience.{Audience}
use Rattle.grammar.specs.Bytes.{text_limit}
use Rattle.grammar.specs.Printout.{printout_for}
use Rattle.tables.specs.declared.Control.{Control}
use Rattle.tables.specs.declared.Tables.{Tables}
use Rattle.script.specs.declared.Progress.{Progress}
use Rattle.script.specs.Pieces.{Start, Piece}
use Rattle.script.proofs.PiecesPrinted.{pieces_printed}
use Rattle.script.proofs.PiecesReached.{Reached, reached_first, reached_more}
use Rattle.slots.specs.PieceRoom.{piece_room}

pub record Counted (to : Audience) (text out : List ℕ) (c : Control) (t : Tables) (at written total : ℕ) : Type 0 where
  pub bytes : List ℕ
  pub reached : Reached to text bytes c t at
  pub count : total ≡ length bytes
  pub room : piece_room ≡ length out
  pub fits : written ≤ length out
  pub few : total ≤ piece_room * at + piece_room

pub counted_first : {to : Audience} {text out : List ℕ} {r : Progress} → Start text out r → piece_room ≡ length out → (t : Tables)
    → Counted to text out r.control t r.next r.written r.written
counted_first {out = out} {r} s room t = record {
  bytes = take r.written out;
  reached = reached_first s (omega arith) t;
  count = sym (length-take-le r.written out s.fits);
  room = room;
  fits = s.fits;
  few = omega (arith, s.fits);
}

module _ {to : Audience} {text out : List ℕ} {c : Control} {t : Tables} {at written total : ℕ}
    (k : Counted to text out c t at written total) where
  pub counted_on : {new : List ℕ} {r : Progress} {u : Tables} → Piece to text at c t new r u → length new ≡ length out
      → at < length text
      → at < r.next
  counted_on p same inside = p.onward inside (omega (arith, k.room))

  pub counted-fits : {new : List ℕ} {r : Progress} {u : Tables} → Piece to text at c t new r u → length new ≡ length out
      → at < length text
      → total + r.written ≤ piece_room * text_limit + piece_room
  unfolding text_limit
  counted-fits p same inside = omega (arith, k.few, k.room, k.reached.read inside, p.walked.fits)

  pub counted_more : {new : List ℕ} {r : Progress} {u : Tables} → Piece to text at c t new r u → length new ≡ length out
      → at < length text
      → Counted to text new r.control u r.next r.written (total + r.written)
  counted_more {new} {r} p same inside = record {
    bytes = k.bytes ++ take r.written new;
    reached = reached_more k.reached p inside;
    count = omega (
      arith,
      k.count,
      length-append k.bytes (take r.written new),
      length-take-le r.written new p.walked.fits,
    );
    room = k.room ∙ sym same;
    fits = p.walked.fits;
    few = omega (arith, k.few, k.room, same, p.walked.fits, counted_on p same inside);
  }

  pub counted_all : length text ≤ at → total ≡ length (printout_for to text)
  counted_all past = k.count ∙ ap length (pieces_printed.whole to text k.bytes at c t k.reached.sofar past)
