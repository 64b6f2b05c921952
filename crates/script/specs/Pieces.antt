-- "Each line prints one line" (paper 01, "Script and printout"). The printout is written in pieces, each of whole lines, into
-- buffers of any length, the first with room for a line, and for whomever. What a piece wrote, and behind it what the core after it
-- prints for the rest of the text, is what the core before it prints for the text from its place on. `PiecesPrinted` says that the
-- pieces, one behind the other, are the printout.
use Rattle.std.specs.Prelude.{ℕ, ◌+◌, ◌≤◌, ◌<◌, ◌≡◌, List, [], ◌++◌, cond, ltb, length, take, drop}
use Rattle.definitions.specs.State.{Core, unopened}
use Rattle.definitions.specs.Counts.{Whole, whole_new}
use Rattle.grammar.specs.Bytes.{text_limit}
use Rattle.grammar.specs.declared.Audience.{Audience}
use Rattle.grammar.specs.Printout.{printed_from, whole_from, printout_for}
use Rattle.printer.specs.Printed.{line_room}
use Rattle.reader.specs.LineSpans.{between}
use Rattle.tables.specs.declared.Control.{Control}
use Rattle.tables.specs.declared.Tables.{Tables}
use Rattle.tables.specs.Meaning.{core_of, whole_of}
use Rattle.tables.specs.Invariant.{Valid}
use Rattle.script.specs.declared.Progress.{Progress}

-- what a core prints for a text from a place on
abbrev pub ahead : Audience → Core → List ℕ → ℕ → List ℕ
ahead to core text at = printed_from to core [] (drop at text)

-- core and counts behind a text from a place on, up to another
abbrev pub left_behind : Whole → List ℕ → ℕ → ℕ → Whole
left_behind w text at upto = whole_from w [] (between text at upto)

-- Lines from a place on were printed behind some bytes: control, place and number of bytes are then those of r, the tables are
-- u, and the bytes stand in out. Up to any place from there on core and counts go as those before do: up to the place itself, they
-- are those behind the bytes that were passed.
pub record Walked (to : Audience) (text : List ℕ) (at : ℕ) (c : Control) (t : Tables) (before out : List ℕ) (r : Progress)
    (u : Tables) : Type 0 where
  pub printed : take r.written out ++ ahead to (core_of r.control u) text r.next ≡ before ++ ahead to (core_of c t) text at
  pub fits : r.written ≤ length out
  pub left : (upto : ℕ) → r.next ≤ upto
      → left_behind (whole_of r.control u) text r.next upto ≡ left_behind (whole_of c t) text at upto
  pub forth : at ≤ r.next
  pub within : at ≤ length text → r.next ≤ length text
  pub valid : Valid r.control u

-- nothing was done
abbrev pub Unmoved : ℕ → Control → Tables → Progress → Tables → Type 0
Unmoved at c t r u = (r ≡ record { control = c; next = at; written = 0 }) × (u ≡ t)

-- A piece: the lines from a place on, until the text ends or the room for a line does; one at least, where both are there, and
-- nothing is done where one is not.
pub record Piece (to : Audience) (text : List ℕ) (at : ℕ) (c : Control) (t : Tables) (out : List ℕ) (r : Progress) (u : Tables)
    : Type 0 where
  pub walked : Walked to text at c t [] out r u
  pub full : r.next < length text → length out < r.written + line_room
  pub onward : at < length text → line_room ≤ length out → at < r.next
  pub bare : length out < line_room → Unmoved at c t r u
  pub ended : length text ≤ at → Unmoved at c t r u

-- Before the first piece: an unopened core at the first byte of the text. Of a "whole text over 60,000 bytes" its only line is
-- written, for which there has to be room, and the place is behind the text.
pub record Start (text out : List ℕ) (r : Progress) : Type 0 where
  pub printed : (to : Audience) → line_room ≤ length out
      → take r.written out ++ ahead to unopened text r.next ≡ printout_for to text
  pub bare : length out < line_room → r.written ≡ 0
  pub fits : r.written ≤ length out
  pub next : r.next ≡ cond (ltb text_limit (length text)) (length text) 0
  pub core : (t : Tables) → (core_of r.control t ≡ unopened) × Valid r.control t

-- Pieces one after the other, each in a buffer of its own: the bytes that were written, and the place, control and tables
-- behind them.
pub data Written (to : Audience) (text : List ℕ) : List ℕ → ℕ → Control → Tables → Type 0 where
  started : {out : List ℕ} {r : Progress} {t : Tables}
      → Start text out r
      → line_room ≤ length out
      → Written to text (take r.written out) r.next r.control t
  piece : {bytes : List ℕ} {at : ℕ} {c : Control} {t u : Tables} {out : List ℕ} {r : Progress}
      → Written to text bytes at c t
      → Piece to text at c t out r u
      → Written to text (bytes ++ take r.written out) r.next r.control u

-- Wherever the pieces have come, what was written with what is ahead is the printout; so at the end of the text it is the
-- printout. Core and counts there are those behind the bytes so far, and of a text that is too long the core is unopened.
pub record PiecesPrinted : Type 0 where
  pub sofar : (to : Audience) (text bytes : List ℕ) (at : ℕ) (c : Control) (t : Tables)
      → Written to text bytes at c t
      → bytes ++ ahead to (core_of c t) text at ≡ printout_for to text
  pub whole : (to : Audience) (text bytes : List ℕ) (at : ℕ) (c : Control) (t : Tables)
      → Written to text bytes at c t
      → length text ≤ at
      → bytes ≡ printout_for to text
  pub left : (to : Audience) (text bytes : List ℕ) (at : ℕ) (c : Control) (t : Tables)
      → Written to text bytes at c t
      → length text ≤ text_limit
      → whole_of c t ≡ whole_from whole_new [] (take at text)
  pub whole_left : (to : Audience) (text bytes : List ℕ) (at : ℕ) (c : Control) (t : Tables)
      → Written to text bytes at c t
      → length text ≤ text_limit
      → length text ≤ at
      → whole_of c t ≡ whole_from whole_new [] text
  pub too_long : (to : Audience) (text bytes : List ℕ) (at : ℕ) (c : Control) (t : Tables)
      → Written to text bytes at c t
      → text_limit < length text
      → core_of c t ≡ unopened
