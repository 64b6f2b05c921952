-- What `slots --counts` prints for a script, in place of its answers (paper 02, S-7): "for every active client by rising id", behind the
-- script, its counts "in the order in which billing names them". The lines are spelt as those of a printout are.
use Rattle.std.specs.Prelude.{ℕ, zero, suc, ◌≡◌, true, false, List, [], ◌∷◌, ◌++◌, ltb, length, Ok, Err}
use Rattle.definitions.specs.declared.Answer.TheVariants.{Refused}
use Rattle.definitions.specs.declared.CountSheet.{CountSheet}
use Rattle.definitions.specs.Sizes.{ids}
use Rattle.definitions.specs.Counts.{Whole, whole_new, Sheet, count_sheet}
use Rattle.definitions.specs.Counted.{counts_behind}
use Rattle.definitions.specs.History.{scheduler, after}
use Rattle.grammar.specs.Bytes.{bytes, text_limit}
use Rattle.grammar.specs.Templates.{filled}
use Rattle.grammar.specs.Printout.{printed, whole_from}
use Rattle.grammar.specs.Lines.{lines, told}
use Rattle.grammar.specs.Sheet.{kept_of}

-- "`(counts I ..)`": the line of an id and its six counts
unfoldable pub count_line : ℕ → CountSheet → List ℕ
count_line id c =
    filled (bytes "(counts # # # # # # #)\n")
    (id ∷ c.accepted ∷ c.sent ∷ c.full ∷ c.drained ∷ c.emptied ∷ c.dummies ∷ [])

-- an id that is not active has no line
unfoldable pub sheet_line : ℕ → Sheet → List ℕ
sheet_line id (Ok c) = count_line id c
sheet_line id (Err n) = []

unfoldable pub line_of : Whole → ℕ → List ℕ
line_of w id = sheet_line id (count_sheet w.core w.counts id)

-- "by rising id": the lines of the first n ids
unfoldable pub lines_below : ℕ → Whole → List ℕ
lines_below zero w = []
lines_below (suc n) w = lines_below n w ++ line_of w n

-- the lines behind a whole script; "whole text over 60,000 bytes; the only line printed"
unfoldable pub counts_printed : List ℕ → List ℕ
counts_printed text =
    elim (ltb text_limit (length text)) [
      | true ↦ printed (Refused 18)
      | false ↦ lines_below ids (whole_from whole_new [] text)
    ]

pub record CountsOnPaper : Type 0 where
  -- the counts behind a text are those behind the history that it tells
  pub behind : (text : List ℕ)
      → whole_from whole_new [] text
      ≡ record { core = after scheduler (told (lines text)); counts = counts_behind (told (lines text)) }
  -- "The chosen client's sheet is as private as its queue": any client, and any two texts whose kept calls for it are equal
  pub private : (chosen : ℕ) (a b : List ℕ)
      → kept_of chosen (lines a) ≡ kept_of chosen (lines b)
      → line_of (whole_from whole_new [] a) chosen ≡ line_of (whole_from whole_new [] b) chosen
