-- What reading a text of demands gives (paper 02, S-8): what it is refused for, or its threshold and the columns of its demands.
-- "Not a form of the grammar" is 16 and comes first, "right shape, but a number above 4294967295" 17 (paper 01, "Numbers, by the
-- place of the check").
use Rattle.std.specs.Prelude.{ℕ, ◌≤◌, ◌≡◌, true, cond, List, length, take, Result, Ok, Err}
use Rattle.std.proofs.Math.Option.{Option, none, some}
use Rattle.grammar.specs.declared.Unread.{Unread}
use Rattle.grammar.specs.declared.Unread.TheVariants.{NoForm, TooLarge}
use Rattle.grammar.specs.Grammar.{nth}
use Rattle.grammar.specs.FairSheet.{DemandSheet, rows_fit, sheet_fits, column}
use Rattle.fairsheet.specs.declared.Reading.{Reading}

-- demands: how many there are
abbrev pub rows_read : Option (List (List ℕ)) → Result ℕ Unread
rows_read none = Err NoForm
rows_read (some rows) = cond (rows_fit rows) (Ok (length rows)) (Err TooLarge)

-- a text
abbrev pub sheet_read : Option DemandSheet → Result Reading Unread
sheet_read none = Err NoForm
sheet_read (some s) =
    cond (sheet_fits s) (Ok (record { threshold = nth s.first 0; count = length s.rows })) (Err TooLarge)

-- a column of the rows stands at the start of a list that has room for it: "a list over 64" is refused in any case
abbrev pub Column : ℕ → List (List ℕ) → List ℕ → Type 0
Column n rows list = length rows ≤ length list → take (length rows) list ≡ column n rows

pub record RowsKept (rows : List (List ℕ)) (listed demands : List ℕ) : Type 0 where
  pub ids : Column 0 rows listed
  pub shares : Column 1 rows demands

-- the demands behind a first line
pub record DemandsRead (rows : Option (List (List ℕ))) (listed demands : List ℕ) (result : Result ℕ Unread) : Type 0 where
  pub answer : result ≡ rows_read rows
  pub kept : (rs : List (List ℕ)) → rows ≡ some rs → rows_fit rs ≡ true → RowsKept rs listed demands

-- the whole text
pub record SheetRead (sheet : Option DemandSheet) (listed demands : List ℕ) (result : Result Reading Unread) : Type 0 where
  pub answer : result ≡ sheet_read sheet
  pub kept : (s : DemandSheet) → sheet ≡ some s → sheet_fits s ≡ true → RowsKept s.rows listed demands
