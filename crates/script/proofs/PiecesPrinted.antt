-- The pieces of a text are its printout: each equation puts what one piece wrote before what is ahead, so they chain, whatever
-- the buffers' lengths. Assumes nothing.
use Prim.Native.Nat.{ℕ, ◌+◌, ◌-◌, ◌≤◌, ◌<◌}
use mathlib.Core.Path.{◌≡◌, refl, sym, ap, ◌∙◌}
use mathlib.Core.List.{List, [], ◌++◌, append_assoc, append-nil}
use native.Mathlib.Omega.{arith}
use lib.ListN.{length, take}
use lib.Seq.{take_all}
use borrow.Author.Tests.{lt-ltb, le-ltb}
use Rattle.definitions.specs.declared.Answer.TheVariants.{Refused}
use Rattle.definitions.specs.State.{Core, unopened}
use Rattle.definitions.specs.Counts.{Whole, whole_new}
use Rattle.definitions.proofs.Laws.Tests.{lt_cases}
use Rattle.grammar.specs.declared.Audience.{Audience}
use Rattle.grammar.specs.Bytes.{text_limit}
use Rattle.grammar.specs.Printout.{whole_from, printout_for, printout_in}
use Rattle.printer.specs.Printed.{line_room, Printed}
use Rattle.printer.proofs.Appending.{appended_front}
use Rattle.tables.specs.declared.Control.{Control}
use Rattle.tables.specs.declared.Tables.{Tables}
use Rattle.tables.specs.Meaning.{core_of, whole_of}
use Rattle.tables.specs.Invariant.{Valid}
use Rattle.tables.proofs.RunCounts.{shut_whole}
use Rattle.script.specs.declared.Progress.{Progress}
use Rattle.script.specs.Pieces.{ahead, left_behind, Walked, Unmoved, Piece, Start, Written, started, piece, PiecesPrinted}
use Rattle.script.proofs.LinePrinted.{ahead_none, left_here}

-- ---- lines behind one another

pub walked_none : (to : Audience) (text : List ℕ) (at : ℕ) (c : Control) (t : Tables) (out : List ℕ) → Valid c t
    → Walked to text at c t [] out (record { control = c; next = at; written = 0 }) t
walked_none to text at c t out valid = record {
  printed = refl;
  fits = omega arith;
  left = λ upto past. refl;
  forth = omega arith;
  within = λ here. here;
  valid = valid;
}

pub walked_more : {to : Audience} {text : List ℕ} {at : ℕ} {c : Control} {t : Tables} {before out : List ℕ} {r : Progress} {u : Tables}
    {last : List ℕ}
    {s : Progress} {v : Tables}
    → Walked to text at c t before out r u
    → Walked to text r.next r.control u (take r.written out) last s v
    → Walked to text at c t before last s v
walked_more w more = record {
  printed = more.printed ∙ w.printed;
  fits = more.fits;
  left = λ upto past. more.left upto past ∙ w.left upto (omega (arith, more.forth, past));
  forth = omega (arith, w.forth, more.forth);
  within = λ here. more.within (w.within here);
  valid = more.valid;
}

-- a walk that stopped for want of lines or of room is a piece
pub piece_done : {to : Audience} {text : List ℕ} {at : ℕ} {c : Control} {t : Tables} {out : List ℕ} {r : Progress} {u : Tables}
    → Walked to text at c t [] out r u
    → (r.next < length text → length out < r.written + line_room)
    → (r.next ≤ at → r.written ≡ 0)
    → (length out < line_room → Unmoved at c t r u)
    → (length text ≤ at → Unmoved at c t r u)
    → Piece to text at c t out r u
piece_done {to} {text} {at} {out = out} {r} w full still bare ended = record {
  walked = w;
  full = full;
  onward = λ inside room.
      lt_cases at r.next (λ forth. forth) (λ back. absurd (omega (arith, full (omega arith), still back)));
  bare = bare;
  ended = ended;
}

-- a piece behind some bytes: what was written, with what is ahead, stays what it was
pub piece_printed : {to : Audience} {text : List ℕ} {at : ℕ} {c : Control} {t : Tables} {out : List ℕ} {r : Progress} {u : Tables} {all : List ℕ}
    (bytes : List ℕ)
    → Piece to text at c t out r u
    → bytes ++ ahead to (core_of c t) text at ≡ all
    → (bytes ++ take r.written out) ++ ahead to (core_of r.control u) text r.next ≡ all
piece_printed {to} {text} {out = out} {r} {u} bytes p before =
    append_assoc bytes (take r.written out) (ahead to (core_of r.control u) text r.next)
    ∙ ap (λ (l : List ℕ). bytes ++ l) p.walked.printed
    ∙ before

-- and core and counts go on as others do, if those before it did
pub piece_alike : {to : Audience} {text : List ℕ} {at : ℕ} {c : Control} {t : Tables} {out : List ℕ} {r : Progress} {u : Tables}
    {other : ℕ → Whole}
    → Piece to text at c t out r u
    → ((upto : ℕ) → at ≤ upto → left_behind (whole_of c t) text at upto ≡ other upto)
    → (upto : ℕ) → r.next ≤ upto
    → left_behind (whole_of r.control u) text r.next upto ≡ other upto
piece_alike p before upto past = p.walked.left upto past ∙ before upto (omega (arith, p.walked.forth, past))

-- ---- before the first piece

module _ (text : List ℕ) (c : Control) (new : (t : Tables) → (core_of c t ≡ unopened) × Valid c t) where
  pub start_read : (out : List ℕ) → length text ≤ text_limit → Start text out (record { control = c; next = 0; written = 0 })
  unfolding printout_in
  start_read out short = record {
    printed = λ to room. rw (printout_in, le-ltb text_limit (length text) short) refl;
    bare = λ little. refl;
    fits = omega arith;
    next = rw (le-ltb text_limit (length text) short) refl;
    core = new;
  }

  pub start_long : (out last : List ℕ) (written : ℕ) → text_limit < length text → Printed (Refused 18) out 0 last written
      → length last ≡ length out
      → Start text last (record { control = c; next = length text; written = written })
  unfolding printout_in
  start_long out last written over p same = record {
    printed = λ to room.
        ap (λ (l : List ℕ). take written last ++ l) (ahead_none to unopened text (length text) (omega arith))
        ∙ append-nil (take written last)
        ∙ appended_front (p.written (omega arith))
        ∙ rw (printout_in, lt-ltb text_limit (length text) over) refl;
    bare = λ little. (p.untouched (omega arith)).0;
    fits = fits;
    next = rw (lt-ltb text_limit (length text) over) refl;
    core = new;
  }
    where
      fits : written ≤ length last
      fits =
          lt_cases (length out) line_room (λ little. omega (arith, (p.untouched (omega arith)).0))
          (λ room. omega (arith, (p.written (omega arith)).room))

-- the place before the first piece is in the text, and at its end where it is too long
pub start_place : {text out : List ℕ} {r : Progress} → Start text out r
    → (r.next ≤ length text) × (r.next < length text → length text ≤ text_limit)
start_place {text} {r = r} s =
    lt_cases text_limit (length text)
    (λ over. let end = rw (lt-ltb text_limit (length text) over) at s.next in (omega (arith, end), λ more. absurd (omega (arith, end))))
    (λ short. let first = rw (le-ltb text_limit (length text) short) at s.next in (omega (arith, first), λ more. short))

-- ---- the theorem

sofar : (to : Audience) (text bytes : List ℕ) (at : ℕ) (c : Control) (t : Tables) → Written to text bytes at c t
    → bytes ++ ahead to (core_of c t) text at ≡ printout_for to text
sofar to text _ _ _ t (started {out} {r} s room) =
    ap (λ (x : Core). take r.written out ++ ahead to x text r.next) (s.core t).0 ∙ s.printed to room
sofar to text _ _ _ u (piece {bytes} {at} {c} {t} w p) = piece_printed bytes p (sofar to text bytes at c t w)

-- core and counts go with the text up to any later place as those of an unopened core do from the first byte
alike : (to : Audience) (text bytes : List ℕ) (at : ℕ) (c : Control) (t : Tables) → Written to text bytes at c t → length text ≤ text_limit
    → (upto : ℕ) → at ≤ upto
    → left_behind (whole_of c t) text at upto ≡ left_behind whole_new text 0 upto
alike to text _ _ _ t (started {out} {r} s room) short upto past =
    let first : r.next ≡ 0 = rw (le-ltb text_limit (length text) short) at s.next in
    λ i. left_behind (shut_whole r.control t (s.core t).0 i) text (first i) upto
alike to text _ _ _ u (piece {bytes} {at} {c} {t} w p) short upto past =
    piece_alike p (λ place behind. alike to text bytes at c t w short place behind) upto past

left : (to : Audience) (text bytes : List ℕ) (at : ℕ) (c : Control) (t : Tables) → Written to text bytes at c t → length text ≤ text_limit
    → whole_of c t ≡ whole_from whole_new [] (take at text)
left to text bytes at c t w short =
    let all : at - 0 ≡ at = omega arith in
    sym (left_here (whole_of c t) text at) ∙ alike to text bytes at c t w short at (omega arith)
    ∙ ap (λ (n : ℕ). whole_from whole_new [] (take n text)) all

-- a text that is too long is at its end from the start, and stays there
unread : (to : Audience) (text bytes : List ℕ) (at : ℕ) (c : Control) (t : Tables) → Written to text bytes at c t → text_limit < length text
    → (length text ≤ at) × (core_of c t ≡ unopened)
unread to text _ _ _ t (started {out} {r} s room) over =
    let end : r.next ≡ length text = rw (lt-ltb text_limit (length text) over) at s.next in (omega (arith, end), (s.core t).0)
unread to text _ _ _ u (piece {bytes} {at} {c} {t} {out = out} {r} w p) over =
    let sofar = unread to text bytes at c t w over in
    let same = p.ended sofar.0 in (
      omega (arith, sofar.0, p.walked.forth),
      ap (λ (x : Progress). core_of x.control u) same.0 ∙ ap (core_of c) same.1 ∙ sofar.1,
    )

pub pieces_printed : PiecesPrinted
pieces_printed = record {
  sofar = sofar;
  whole = λ to text bytes at c t w past.
      sym (append-nil bytes) ∙ ap (λ (l : List ℕ). bytes ++ l) (sym (ahead_none to (core_of c t) text at past))
      ∙ sofar to text bytes at c t w;
  left = left;
  whole_left = λ to text bytes at c t w short past.
      left to text bytes at c t w short ∙ ap (whole_from whole_new []) (take_all at text past);
  too_long = λ to text bytes at c t w over. (unread to text bytes at c t w over).1;
}
