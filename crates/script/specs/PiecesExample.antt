-- There are pieces as `Pieces` speaks of them, for whomever: to the end of any text that is too long, and of any other if some control and
-- tables hold the core behind it, as they do behind an open; and, as an example, those of a text of two lines into three
-- buffers. The first has no room for a line, and nothing is written; the second has room for one line; the third is given the
-- rest.
use Rattle.std.specs.Prelude.{ℕ, ◌-◌, ◌≤◌, ◌<◌, ◌≡◌, List, [], ◌++◌, length, replicate}
use Rattle.definitions.specs.Counts.{whole_new}
use Rattle.grammar.specs.declared.Audience.{Audience}
use Rattle.grammar.specs.declared.Audience.TheVariants.{Caller}
use Rattle.grammar.specs.Bytes.{bytes, text_limit}
use Rattle.grammar.specs.Printout.{whole_from}
use Rattle.printer.specs.Printed.{line_room}
use Rattle.tables.specs.declared.Control.{Control}
use Rattle.tables.specs.declared.Tables.{Tables}
use Rattle.tables.specs.Meaning.{whole_of}
use Rattle.tables.specs.Invariant.{Valid}
use Rattle.script.specs.declared.Progress.{Progress}
use Rattle.script.specs.Pieces.{Start, Piece, Written}

abbrev pub two_lines : List ℕ
two_lines = bytes "(tick)\n(leave 5"

-- a buffer with the room of a line that begins with a line of thirteen bytes
abbrev pub buffer : List ℕ → List ℕ
buffer line = line ++ replicate (line_room - 13) 0

abbrev pub progress : Control → ℕ → ℕ → Progress
progress c next written = record { control = c; next = next; written = written }

pub record ThreePieces (c : Control) (t : Tables) : Type 0 where
  pub start : Start two_lines (replicate line_room 0) (progress c 0 0)
  pub bare : Piece Caller two_lines 0 c t [] (progress c 0 0) t
  pub line : Piece Caller two_lines 0 c t (buffer (bytes "(refused 19)\n")) (progress c 7 13) t
  pub rest : Piece Caller two_lines 7 c t (buffer (bytes "(refused 16)\n")) (progress c 15 13) t

-- some control and tables hold the core behind a text, and the counts
abbrev pub Held : List ℕ → Type 0
Held text = (c : Control) × (t : Tables) × Valid c t × (whole_of c t ≡ whole_from whole_new [] text)

-- there are pieces to the end of a text
abbrev pub Ended : Audience → List ℕ → Type 0
Ended to text = (bytes : List ℕ) × (c : Control) × (t : Tables) × Written to text bytes (length text) c t

pub record PiecesExist : Type 0 where
  pub too_long : (to : Audience) (text : List ℕ) → text_limit < length text → Ended to text
  pub read : (to : Audience) (text : List ℕ) → length text ≤ text_limit → Held text → Ended to text
  pub held : Held (bytes "(open 50 1 7)\n")
  pub example : (c : Control) × (t : Tables) × ThreePieces c t
