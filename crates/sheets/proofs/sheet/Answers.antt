-- `sheets::sheet` meets its contract: where a check fails its number is given, and else the id's part of the table. Assumes nothing.
use Rattle.std.proofs.Common.{ℕ, List, [], sym}
use Rattle.std.specs.Prelude.{Ok}
use mathlib.Core.Path.{refl, ap, ◌∙◌}
use Rattle.definitions.specs.declared.CountSheet.{CountSheet}
use Rattle.definitions.specs.Counts.{Sheet, sheet_of}
use Rattle.definitions.proofs.Laws.Refused.{number_of_some}
use Rattle.counts.specs.CountTable.{count_in}
use Rattle.tables.specs.Tables.{tables}
use Rattle.sheets.proofs.SheetGiven.{sheet-refused, sheet_below, sheet-given}
use Rattle.sheets.proofs.sheet.Goals as goal

pub returns-in-Err : goal.returns-in-Err
returns-in-Err c t e =
    sheet-refused c.args.control t c.args.id _ (c.in-Err.ensures t) (number_of_some c.in-Err.refusal)

pub sheet-requires : goal.sheet-requires
sheet-requires c =
    sheet_below c.args.control (tables [] [] [] [] [] []) c.args.id 0 (c.in_default.ensures _) refl

pub returns : goal.returns
returns c t e =
    let a = c.args in
    let given : CountSheet → Sheet = λ s. Ok s in
    ap given (c.sheet.ensures ∙ ap (λ (table : List ℕ). sheet_of (count_in table a.id)) (sym e))
    ∙ sheet-given a.control t a.id 0 (c.in_default.ensures t) refl
