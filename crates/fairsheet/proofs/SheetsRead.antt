-- A whole text, read: the first line, and the demands behind it. Assumes nothing.
use Prim.Native.Nat.{ℕ, ◌-◌}
use mathlib.Core.Path.{◌≡◌, refl, sym, ap, subst, ◌∙◌}
use mathlib.Core.Bool.{Bool, true, false, cond, ◌&&◌, and-true, and-false}
use mathlib.Core.List.{List, [], ◌∷◌}
use mathlib.Core.Option.{Option, none, some}
use native.Mathlib.Omega.{arith}
use lib.ListN.{length, take, drop}
use Rattle.std.specs.Prelude.{Result, Ok, Err}
use Rattle.grammar.specs.declared.Unread.{Unread}
use Rattle.grammar.specs.declared.Unread.TheVariants.{NoForm, TooLarge}
use lib.Seq.{take-nil}
use Rattle.definitions.proofs.Laws.Tests.{and_both}
use Rattle.grammar.specs.Templates.{matched}
use Rattle.grammar.specs.Grammar.{nth}
use Rattle.grammar.specs.Lines.{lines}
use Rattle.grammar.specs.FairSheet.{threshold_form, demand_rows, DemandSheet, demand_sheet, shaped, rows_fit, sheet_fits}
use Rattle.parser.specs.declared.Pair.{Pair}
use Rattle.parser.specs.Pairs.{pair_of}
use Rattle.reader.specs.declared.Span.{Span}
use Rattle.reader.specs.LineSpans.{span_at}
use Rattle.reader.proofs.LinesAhead.{span_passed}
use Rattle.fairsheet.specs.declared.Reading.{Reading}
use Rattle.fairsheet.specs.SheetRead.{rows_read, sheet_read, RowsKept, DemandsRead, SheetRead}
use Rattle.fairsheet.proofs.PairsFound.{Found, line_holds, line_large, line_unformed}

-- the first line is the one that is read at the first byte; a text without bytes has none, and no form fits it
shaped_first : (text : List ℕ) (span : Span) → span ≡ span_at text 0
    → shaped (lines text) ≡ demand_sheet (matched threshold_form (take span.next text)) (demand_rows (lines (drop span.next text)))
unfolding shaped lines matched
shaped_first [] span read = rw take-nil
shaped_first (b ∷ bs) span read =
    let text = b ∷ bs in
    let whole : span.next - 0 ≡ span.next = omega arith in
    ap shaped (span_passed text 0 span read (omega arith)).ahead
    ∙ ap (λ (n : ℕ). demand_sheet (matched threshold_form (take n text)) (demand_rows (lines (drop span.next text)))) whole

-- ---- what was read of a text whose first line has its form

module _ {line : List ℕ} {fits : Bool} (f : Found threshold_form line fits) where
  abbrev whole : List (List ℕ) → DemandSheet
  whole rows = record { first = f.numbers; rows = rows }

  whole_fits : (rows : List (List ℕ)) → sheet_fits (whole rows) ≡ (fits && rows_fit rows)
  unfolding sheet_fits
  whole_fits rows = rw f.size

  -- behind a first line with a number that is too large the demands have their form, or the text has another shape
  sheet_refused : {unread : Unread} (rows : Option (List (List ℕ))) → ◌≡◌ {A = Result ℕ Unread} (Err unread) (rows_read rows)
      → ◌≡◌ {A = Result Reading Unread} (Err unread) (sheet_read (demand_sheet (some f.numbers) rows))
  sheet_refused none e = cc
  sheet_refused {unread} (some rows) e = go (rows_fit rows) refl e
    where
      go : (t : Bool) → rows_fit rows ≡ t
          → ◌≡◌ {A = Result ℕ Unread} (Err unread) (cond t (Ok (length rows)) (Err TooLarge))
          → ◌≡◌ {A = Result Reading Unread} (Err unread) (sheet_read (some (whole rows)))
      go true q d = absurd (cc)
      go false q d = let same : unread ≡ TooLarge = cc in rw (same, whole_fits rows, q, and-false fits)

  sheet_kept : {n : ℕ} (rows : Option (List (List ℕ))) → ◌≡◌ {A = Result ℕ Unread} (Ok n) (rows_read rows)
      → sheet_read (demand_sheet (some f.numbers) rows)
      ≡ cond fits (Ok (record { threshold = nth f.numbers 0; count = n })) (Err TooLarge)
  sheet_kept none e = absurd (cc)
  sheet_kept {n} (some rows) e = go (rows_fit rows) refl e
    where
      go : (t : Bool) → rows_fit rows ≡ t
          → ◌≡◌ {A = Result ℕ Unread} (Ok n) (cond t (Ok (length rows)) (Err TooLarge))
          → sheet_read (some (whole rows)) ≡ cond fits (Ok (record { threshold = nth f.numbers 0; count = n })) (Err TooLarge)
      go true q d = let same : n ≡ length rows = cc in rw (same, whole_fits rows, q, and-true fits)
      go false q d = absurd (cc)

  -- the columns are those of the demands
  sheet_columns : {listed demands : List ℕ} {result : Result ℕ Unread} (rows : Option (List (List ℕ)))
      → DemandsRead rows listed demands result
      → (s : DemandSheet) → demand_sheet (some f.numbers) rows ≡ some s → sheet_fits s ≡ true → RowsKept s.rows listed demands
  sheet_columns none d s given all = absurd (cc)
  sheet_columns {listed} {demands} (some rows) d s given all =
      let same : whole rows ≡ s = cc in
      subst (λ (x : DemandSheet). RowsKept x.rows listed demands) same
      (d.kept rows refl (and_both fits (rows_fit rows) (sym (whole_fits rows) ∙ ap sheet_fits same ∙ all)).1)

module _ (text : List ℕ) (span : Span) (found : span ≡ span_at text 0) where
  abbrev first_line : List ℕ
  first_line = take span.next text

  abbrev behind : Option (List (List ℕ))
  behind = demand_rows (lines (drop span.next text))

  shaped_by : {o : Option (List ℕ)} → matched threshold_form first_line ≡ o → shaped (lines text) ≡ demand_sheet o behind
  shaped_by shape = shaped_first text span found ∙ ap (λ (o : Option (List ℕ)). demand_sheet o behind) shape

  module _ {listed demands : List ℕ} where
    pub sheet_unformed : ◌≡◌ {A = Result Pair Unread} (Err NoForm) (pair_of threshold_form first_line)
        → SheetRead (shaped (lines text)) listed demands (Err NoForm)
    sheet_unformed read =
        subst (λ (o : Option DemandSheet). SheetRead o listed demands (Err NoForm))
        (sym (shaped_by (line_unformed threshold_form _ read)))
        (record { answer = refl; kept = λ s given fits. absurd (cc) })

    module _ {fits : Bool} (f : Found threshold_form first_line fits) where
      pub sheet_demands : {unread : Unread} → DemandsRead behind listed demands (Err unread)
          → SheetRead (shaped (lines text)) listed demands (Err unread)
      sheet_demands {unread} d =
          subst (λ (o : Option DemandSheet). SheetRead o listed demands (Err unread)) (sym (shaped_by f.shape))
          (record { answer = sheet_refused f behind d.answer; kept = sheet_columns f behind d })

      sheet_by : {n : ℕ} {result : Result Reading Unread} → DemandsRead behind listed demands (Ok n)
          → result ≡ cond fits (Ok (record { threshold = nth f.numbers 0; count = n })) (Err TooLarge)
          → SheetRead (shaped (lines text)) listed demands result
      sheet_by {result = result} d e =
          subst (λ (o : Option DemandSheet). SheetRead o listed demands result) (sym (shaped_by f.shape))
          (record { answer = e ∙ sym (sheet_kept f behind d.answer); kept = sheet_columns f behind d })

    pub sheet_large : {n : ℕ} → ◌≡◌ {A = Result Pair Unread} (Err TooLarge) (pair_of threshold_form first_line)
        → DemandsRead behind listed demands (Ok n) → SheetRead (shaped (lines text)) listed demands (Err TooLarge)
    sheet_large read d = sheet_by (line_large threshold_form _ read) d refl

    pub sheet_whole : {p : Pair} {n : ℕ} → ◌≡◌ {A = Result Pair Unread} (Ok p) (pair_of threshold_form first_line)
        → DemandsRead behind listed demands (Ok n)
        → SheetRead (shaped (lines text)) listed demands (Ok (record { threshold = p.first; count = n }))
    sheet_whole {p} {n} read d =
        let h = line_holds threshold_form _ p read in
        sheet_by h.found d (ap (λ (t : ℕ). Ok (record { threshold = t; count = n })) h.first)
