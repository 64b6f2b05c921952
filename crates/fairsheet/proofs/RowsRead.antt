-- Demands are read line by line: the rows so far stand before those of the lines ahead, and their columns at the start of the
-- lists. A line of another shape leaves the whole without rows. Assumes nothing.
use Prim.Native.Nat.{ℕ, suc, ◌+◌, ◌≤◌}
use mathlib.Core.Path.{◌≡◌, refl, sym, ap, subst, ◌∙◌}
use mathlib.Core.Bool.{Bool, true, false, not, ◌&&◌, and-true, and-false, and_assoc}
use mathlib.Core.List.{List, [], ◌∷◌, ◌++◌, append_assoc, append-nil, map-append}
use mathlib.Core.Option.{Option, none, some}
use native.Mathlib.Omega.{arith}
use lib.ListN.{length, take, drop, set, length-append, length-set}
use lib.Seq.{take-suc-set}
use Rattle.grammar.specs.Templates.{limits, numbers_fit, matched}
use Rattle.grammar.specs.Grammar.{nth}
use Rattle.grammar.specs.Lines.{lines}
use Rattle.grammar.specs.FairSheet.{demand_form, with_line, demand_rows, rows_fit, column}
use Rattle.parser.specs.declared.Pair.{Pair}
use Rattle.reader.specs.LineSpans.{between}
use Rattle.reader.proofs.LinesAhead.{Passed, lines_none}
use Rattle.std.specs.Prelude.{Ok, Err}
use Rattle.grammar.specs.declared.Unread.TheVariants.{NoForm, TooLarge}
use Rattle.fairsheet.specs.SheetRead.{rows_read, Column, RowsKept, DemandsRead}
use Rattle.fairsheet.proofs.PairsFound.{Found, Holds}

-- ---- one row more

-- rows before those of more lines, where all have their form
abbrev before : List (List ℕ) → Option (List (List ℕ)) → Option (List (List ℕ))
before rows none = none
before rows (some more) = some (rows ++ more)

before_none : (more : Option (List (List ℕ))) → more ≡ before [] more
before_none none = refl
before_none (some more) = refl

before_row : (rows : List (List ℕ)) (numbers : List ℕ) (more : Option (List (List ℕ)))
    → before rows (with_line (some numbers) more) ≡ before (rows ++ (numbers ∷ [])) more
before_row rows numbers none = refl
before_row rows numbers (some more) = ap some (sym (append_assoc rows (numbers ∷ []) more))

demand_rows_line : (text : List ℕ) (at next : ℕ) → Passed text at next → (found : Option (List ℕ))
    → matched demand_form (between text at next) ≡ found
    → demand_rows (lines (drop at text)) ≡ with_line found (demand_rows (lines (drop next text)))
unfolding demand_rows
demand_rows_line text at next passed found shape =
    ap demand_rows passed.ahead
    ∙ ap (λ (f : Option (List ℕ)). with_line f (demand_rows (lines (drop next text)))) shape

rows_fit_row : (rows : List (List ℕ)) (numbers : List ℕ)
    → rows_fit (rows ++ (numbers ∷ [])) ≡ (rows_fit rows && numbers_fit (limits demand_form) numbers)
unfolding rows_fit
rows_fit_row [] numbers = and-true (numbers_fit (limits demand_form) numbers)
rows_fit_row (row ∷ rows) numbers =
    ap (λ (b : Bool). numbers_fit (limits demand_form) row && b) (rows_fit_row rows numbers)
    ∙ sym (and_assoc (numbers_fit (limits demand_form) row) (rows_fit rows) (numbers_fit (limits demand_form) numbers))

column_row : (n : ℕ) (rows : List (List ℕ)) (numbers list : List ℕ) {x count : ℕ} → count ≡ length rows
    → x ≡ nth numbers n
    → Column n rows list
    → Column n (rows ++ (numbers ∷ [])) (set list count x)
column_row n rows numbers list {x} {count} all value kept room =
    let longer : length (rows ++ (numbers ∷ [])) ≡ suc (length rows)
    = length-append rows (numbers ∷ []) ∙ omega arith in
    ap (λ (k : ℕ). take k (set list count x)) longer
    ∙ ap (λ (k : ℕ). take (suc (length rows)) (set list k x)) all
    ∙ take-suc-set list (length rows) x (omega (arith, longer, length-set list count x))
    ∙ ap (λ (l : List ℕ). l ++ (x ∷ [])) (kept (omega (arith, longer, length-set list count x)))
    ∙ ap (λ (v : ℕ). column n rows ++ (v ∷ [])) value
    ∙ sym (map-append (λ (row : List ℕ). nth row n) rows (numbers ∷ []))

-- ---- the rows so far

pub record RowsRead (text : List ℕ) (from : ℕ) (listed demands : List ℕ) (large : Bool) (count at : ℕ) : Type 0 where
  pub rows : List (List ℕ)
  pub ahead : demand_rows (lines (drop from text)) ≡ before rows (demand_rows (lines (drop at text)))
  pub size : rows_fit rows ≡ not large
  pub few : count ≤ at
  pub all : count ≡ length rows
  pub kept : large ≡ false → RowsKept rows listed demands

pub rows_none : (text : List ℕ) (from : ℕ) (listed demands : List ℕ) → RowsRead text from listed demands false 0 from
unfolding rows_fit
rows_none text from listed demands = record {
  rows = [];
  ahead = before_none (demand_rows (lines (drop from text)));
  size = refl;
  few = omega arith;
  all = refl;
  kept = λ fits. record { ids = λ room. refl; shares = λ room. refl };
}

module _ {text : List ℕ} {from : ℕ} {listed demands : List ℕ} {large : Bool} {count at : ℕ}
    (r : RowsRead text from listed demands large count at) where
  -- at the end of the text
  module _ (past : length text ≤ at) where
    whole : demand_rows (lines (drop from text)) ≡ some r.rows
    unfolding demand_rows
    whole =
        r.ahead ∙ ap (λ (ls : List (List ℕ)). before r.rows (demand_rows ls)) (lines_none text at past)
        ∙ ap some (append-nil r.rows)

    pub rows_large : large ≡ true → DemandsRead (demand_rows (lines (drop from text))) listed demands (Err TooLarge)
    rows_large e = record {
      answer = sym (ap rows_read whole ∙ rw (r.size, e));
      kept = λ rs given fits.
          let same : rs ≡ r.rows = cc whole in
          let never : ◌≡◌ {A = Bool} true false = sym fits ∙ ap rows_fit same ∙ r.size ∙ ap not e in
          absurd (cc);
    }

    pub rows_done : large ≡ false → DemandsRead (demand_rows (lines (drop from text))) listed demands (Ok count)
    rows_done e = record {
      answer = sym (ap rows_read whole ∙ rw (r.size, e, r.all));
      kept = λ rs given fits.
          let same : r.rows ≡ rs = cc whole in
          subst (λ (rows : List (List ℕ)). RowsKept rows listed demands) same (r.kept e);
    }

  module _ {next : ℕ} (passed : Passed text at next) where
    -- a line of another shape
    pub rows_unformed : matched demand_form (between text at next) ≡ none
        → DemandsRead (demand_rows (lines (drop from text))) listed demands (Err NoForm)
    rows_unformed shape =
        let whole : demand_rows (lines (drop from text)) ≡ none
        = r.ahead ∙ ap (before r.rows) (demand_rows_line text at next passed none shape) in
        record { answer = ap rows_read (sym whole); kept = λ rs given fits. absurd (cc) }

    -- a demand
    module _ {fits : Bool} (f : Found demand_form (between text at next) fits) where
      abbrev longer : List (List ℕ)
      longer = r.rows ++ (f.numbers ∷ [])

      longer_ahead : demand_rows (lines (drop from text)) ≡ before longer (demand_rows (lines (drop next text)))
      longer_ahead =
          r.ahead
          ∙ ap (before r.rows) (demand_rows_line text at next passed (some f.numbers) f.shape)
          ∙ before_row r.rows f.numbers (demand_rows (lines (drop next text)))

      longer_size : rows_fit longer ≡ (not large && fits)
      longer_size = rows_fit_row r.rows f.numbers ∙ rw (r.size, f.size)

      longer_all : count + 1 ≡ length longer
      longer_all = omega (arith, r.all, length-append r.rows (f.numbers ∷ []))

    pub row_large : Found demand_form (between text at next) false → RowsRead text from listed demands true (count + 1) next
    row_large f = record {
      rows = longer f;
      ahead = longer_ahead f;
      size = longer_size f ∙ and-false (not large);
      few = omega (arith, passed.forth, r.few);
      all = longer_all f;
      kept = λ e. absurd (cc);
    }

    pub row_kept : {row : Pair} → Holds demand_form (between text at next) row
        → {listed' demands' : List ℕ}
        → listed' ≡ set listed count row.first
        → demands' ≡ set demands count row.second
        → RowsRead text from listed' demands' large (count + 1) next
    row_kept {row} h {listed'} {demands'} set_l set_d =
        let f = h.found in
        record {
          rows = longer f;
          ahead = longer_ahead f;
          size = longer_size f ∙ and-true (not large);
          few = omega (arith, passed.forth, r.few);
          all = longer_all f;
          kept = λ e.
              let columns = r.kept e in record {
                ids = subst (Column 0 (longer f)) (sym set_l) (column_row 0 r.rows f.numbers listed r.all h.first columns.ids);
                shares = subst (Column 1 (longer f)) (sym set_d) (column_row 1 r.rows f.numbers demands r.all h.second columns.shares);
              };
        }
