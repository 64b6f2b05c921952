-- The lines of a text, from any place of it (paper 01, "Script and printout": "One form a line, each line closed by a line
-- feed"). Every place has a line, which may be empty: behind the last byte it ends where it begins.
use Rattle.std.specs.Prelude.{ℕ, suc, ◌+◌, ◌-◌, ◌≤◌, ◌<◌, ◌≡◌, Bool, true, false, List, [], ◌∷◌, eqb, ltb, leb, length, get_or, take, drop}
use Rattle.grammar.specs.Bytes.{line_feed, Unbroken}
use Rattle.reader.specs.declared.Span.{Span}

-- how many bytes stand before the first line feed, or before the end
abbrev pub line_length : List ℕ → ℕ
line_length [] = 0
line_length (b ∷ bs) = elim (eqb b line_feed) [ true ↦ 0 | false ↦ suc (line_length bs) ]

-- where the line that begins at a place ends
unfoldable pub line_end : List ℕ → ℕ → ℕ
line_end text at = at + line_length (drop at text)

-- the place behind a line that ends there: its line feed is passed, if it has one
unfoldable pub after_line : List ℕ → ℕ → ℕ
after_line text end = elim (ltb end (length text)) [ true ↦ end + 1 | false ↦ end ]

-- no byte stands at a place
abbrev pub is_end : List ℕ → ℕ → Bool
is_end text at = leb (length text) at

-- the line that begins at a place
abbrev pub span_at : List ℕ → ℕ → Span
span_at text at = record { end = line_end text at; next = after_line text (line_end text at) }

-- the bytes from one place of a text up to another
abbrev pub between : List ℕ → ℕ → ℕ → List ℕ
between text at end = take (end - at) (drop at text)

-- what holds of the end of a line that begins within the text: no line feed stands before it, and one stands there, unless the
-- text ends
pub record LineEnd (text : List ℕ) (at end : ℕ) : Type 0 where
  pub forth : at ≤ end
  pub within : end ≤ length text
  pub unbroken : Unbroken (between text at end)
  pub closed : end < length text → get_or text end 0 ≡ line_feed
