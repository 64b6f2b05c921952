-- What is told behind a script: the lines of `counts_printed`, at the start of a buffer that has room for a line of every id.
use Rattle.std.specs.Prelude.{ℕ, ◌*◌, ◌≤◌, ◌<◌, ◌≡◌, List, length, take}
use Rattle.definitions.specs.Sizes.{ids}
use Rattle.definitions.specs.Counts.{Whole}
use Rattle.grammar.specs.CountLines.{lines_below, counts_printed}
use Rattle.printer.specs.Printed.{line_room}
use Rattle.tables.specs.declared.Tables.{Tables}

unfoldable pub bill_room : ℕ
bill_room = ids * line_room

-- the lines of all ids stand at the start of some bytes, and take so many
pub record AllLines (w : Whole) (out : List ℕ) (r : ℕ) : Type 0 where
  pub written : take r out ≡ lines_below ids w
  pub fits : r ≤ length out

-- the bytes and the tables before and after, and how many bytes were written
pub record Billed (text before : List ℕ) (t : Tables) (after : List ℕ) (r : ℕ) (u : Tables) : Type 0 where
  pub told : bill_room ≤ length before → take r after ≡ counts_printed text
  pub fits : r ≤ length after
  -- without room for a line of every id nothing is done
  pub bare : length before < bill_room → (r ≡ 0) × (after ≡ before) × (u ≡ t)
