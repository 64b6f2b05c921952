-- A line that is written into bytes from a place on, which takes room for any line. Where that room is not there nothing is
-- written, so that a caller who sees to the room gets every line whole.
use Rattle.std.specs.Prelude.{ℕ, ◌+◌, ◌-◌, ◌≤◌, ◌<◌, ◌≡◌, List, ◌++◌, length}
use Rattle.definitions.specs.declared.Answer.{Answer}
use Rattle.grammar.specs.Bytes.{bytes}
use Rattle.grammar.specs.Numerals.{decimal}
use Rattle.grammar.specs.Printout.{printed}
use Rattle.printer.specs.Appended.{Appended}

-- The room of a line. The longest is the sentence of a packet that was drawn: of its outcome a template of 57 bytes, three numbers of ten
-- digits and a handle of twenty, and of its draw one of 40, a target of ten digits and a sum of twenty.
abbrev pub outcome_room : ℕ
outcome_room = 112

abbrev pub reason_room : ℕ
reason_room = 80

abbrev pub line_room : ℕ
line_room = outcome_room + reason_room

pub record LineWritten (line before : List ℕ) (at : ℕ) (after : List ℕ) (end : ℕ) : Type 0 where
  pub written : at + line_room ≤ length before → Appended line before at after end
  pub untouched : length before < at + line_room → (end ≡ at) × (after ≡ before)

-- the line of an answer
abbrev pub Printed : Answer → List ℕ → ℕ → List ℕ → ℕ → Type 0
Printed answer = LineWritten (printed answer)

-- the line of a text and two numbers: "one blank between" them
abbrev pub pair_line : List ℕ → ℕ → ℕ → List ℕ
pair_line text first second = (text ++ decimal first) ++ ((bytes " " ++ decimal second) ++ bytes ")\n")

-- the room of its text, beside two numbers of ten digits and the three bytes around them
abbrev pub word_room : ℕ
word_room = line_room - 23
