-- What is written for a text of demands: its printout, at the start of a buffer that has room for a line for each demand that may
-- be listed (paper 02, S-8: "up to 64 demands").
use Rattle.std.specs.Prelude.{ℕ, ◌*◌, ◌≤◌, ◌<◌, ◌≡◌, List, length, take, drop}
use Rattle.definitions.specs.Sizes.{ids}
use Rattle.grammar.specs.FairSheet.{fair_printout}
use Rattle.printer.specs.Printed.{line_room}

abbrev pub sheet_room : ℕ
sheet_room = ids * line_room

-- the buffer before and after, and how many bytes were written
pub record SheetWritten (text before after : List ℕ) (r : ℕ) : Type 0 where
  pub told : sheet_room ≤ length before → take r after ≡ fair_printout text
  pub fits : r ≤ length after
  -- what stands behind it is as it was
  pub rest : drop r after ≡ drop r before
  -- without room for all rates nothing is done
  pub bare : length before < sheet_room → (r ≡ 0) × (after ≡ before)
