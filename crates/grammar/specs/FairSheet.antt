-- What `fair` prints for a text of demands (paper 02, S-8): a first line `(threshold T)` and then a line `(demand I D)` for each
-- demand, spelt by the script's rules; for each a line `(rate I R)`, or one line that refuses the text.
use Rattle.std.specs.Prelude.{ℕ, Bool, true, false, ◌&&◌, List, [], ◌∷◌, ◌++◌, map, ltb, length}
use Rattle.std.proofs.Math.Option.{Option, none, some}
use Rattle.definitions.specs.declared.Answer.TheVariants.{Refused}
use Rattle.definitions.specs.FairRates.{acceptable, fair_rates}
use Rattle.grammar.specs.Bytes.{bytes, text_limit}
use Rattle.grammar.specs.Templates.{limits, numbers_fit, matched, filled}
use Rattle.grammar.specs.Grammar.{nth}
use Rattle.grammar.specs.Printout.{printed}
use Rattle.grammar.specs.Lines.{lines}

-- The two forms, each with the line feed that closes it: bytes behind the last line feed have no form.
abbrev pub threshold_form : List ℕ
threshold_form = bytes "(threshold #)\n"

abbrev pub demand_form : List ℕ
demand_form = bytes "(demand # #)\n"

-- the numbers of one line before those of others, where both have their form
abbrev pub with_line : Option (List ℕ) → Option (List (List ℕ)) → Option (List (List ℕ))
with_line none others = none
with_line (some numbers) none = none
with_line (some numbers) (some others) = some (numbers ∷ others)

-- the numbers of lines that all have the form of a demand
unfoldable pub demand_rows : List (List ℕ) → Option (List (List ℕ))
demand_rows [] = some []
demand_rows (line ∷ rest) = with_line (matched demand_form line) (demand_rows rest)

-- what a text of the right shape holds: the numbers of its first line, and of each demand
pub record DemandSheet : Type 0 where
  pub first : List ℕ
  pub rows : List (List ℕ)

abbrev pub demand_sheet : Option (List ℕ) → Option (List (List ℕ)) → Option DemandSheet
demand_sheet none rows = none
demand_sheet (some first) none = none
demand_sheet (some first) (some rows) = some (record { first = first; rows = rows })

unfoldable pub shaped : List (List ℕ) → Option DemandSheet
shaped [] = none
shaped (first ∷ rest) = demand_sheet (matched threshold_form first) (demand_rows rest)

-- whether none of the demands' numbers is "above 4294967295"
unfoldable pub rows_fit : List (List ℕ) → Bool
rows_fit [] = true
rows_fit (numbers ∷ rest) = numbers_fit (limits demand_form) numbers && rows_fit rest

-- the ids and the demands, one to a line
abbrev pub column : ℕ → List (List ℕ) → List ℕ
column n rows = map (λ numbers. nth numbers n) rows

unfoldable pub rate_line : ℕ → ℕ → List ℕ
rate_line id rate = filled (bytes "(rate # #)\n") (id ∷ rate ∷ [])

unfoldable pub rate_lines : List ℕ → List ℕ → List ℕ
rate_lines [] rates = []
rate_lines (i ∷ is) [] = []
rate_lines (i ∷ is) (r ∷ rs) = rate_line i r ++ rate_lines is rs

-- what is printed for a threshold and demands; 22 is the only check
unfoldable pub rates_printed : ℕ → List ℕ → List ℕ → List ℕ
rates_printed threshold ids demands =
    elim (acceptable threshold ids demands) [
      | true ↦ rate_lines ids (fair_rates threshold demands)
      | false ↦ printed (Refused 22)
    ]

-- whether no number of a text is "above 4294967295"
unfoldable pub sheet_fits : DemandSheet → Bool
sheet_fits s = numbers_fit (limits threshold_form) s.first && rows_fit s.rows

-- shape is judged before size, and both before the demands: another shape is 16, "right shape, but a number above" 17
unfoldable pub sheet_printed : Option DemandSheet → List ℕ
sheet_printed none = printed (Refused 16)
sheet_printed (some s) =
    elim (sheet_fits s) [
      | true ↦ rates_printed (nth s.first 0) (column 0 s.rows) (column 1 s.rows)
      | false ↦ printed (Refused 17)
    ]

-- the whole; "whole text over 60,000 bytes; the only line printed"
unfoldable pub fair_printout : List ℕ → List ℕ
fair_printout text =
    elim (ltb text_limit (length text)) [
      | true ↦ printed (Refused 18)
      | false ↦ sheet_printed (shaped (lines text))
    ]
