-- What is written for a text of demands is its printout: by what refuses it, and else by the answer for its rates. Assumes
-- nothing.
use Prim.Native.Nat.{ℕ, ◌≤◌, ◌<◌}
use mathlib.Core.Path.{◌≡◌, refl, sym, ap, subst, ◌∙◌}
use mathlib.Core.Bool.{Bool, true, false, cond, ◌&&◌, and-false}
use mathlib.Core.List.{List, [], ◌∷◌, ◌++◌}
use mathlib.Core.Option.{Option, none, some}
use native.Mathlib.Omega.{arith}
use lib.Dec.{leb}
use lib.ListN.{length, take, drop, length-map}
use lib.Seq.{drop_at}
use borrow.Author.Tests.{le-leb, lt-leb, lt-ltb, le-ltb}
use Rattle.definitions.specs.declared.Answer.{Answer}
use Rattle.definitions.specs.declared.Answer.TheVariants.{Accepted, Refused}
use Rattle.definitions.specs.Sizes.{ids, shares}
use Rattle.definitions.specs.Checks.{within}
use Rattle.definitions.specs.FairRates.{fair_rates, acceptable, fair_answer}
use Rattle.definitions.proofs.Laws.Tests.{T_true, eqb-cases, true-false}
use Rattle.definitions.proofs.Fairness.Claims.{accepted_parts}
use Rattle.grammar.specs.Bytes.{text_limit}
use Rattle.grammar.specs.Lines.{lines}
use Rattle.grammar.specs.Printout.{printed}
use Rattle.grammar.specs.FairSheet.{DemandSheet, shaped, column, rate_line, rate_lines, rates_printed}
use Rattle.grammar.specs.FairSheet.{sheet_fits, sheet_printed, fair_printout}
use Rattle.printer.specs.Appended.{Appended}
use Rattle.printer.specs.Printed.{LineWritten}
use Rattle.printer.proofs.Appending.{appended_whole, appended_front, appended_length, appended_as}
use Rattle.maxmin.specs.Shared.{granted, Shared}
use Rattle.maxmin.proofs.DemandWalk.{listed_unequal}
use Rattle.maxmin.proofs.RatesGiven.{accepted_few}
use Rattle.maxmin.proofs.FairlyShared.{Given, accepted-given}
use Rattle.std.specs.Prelude.{Result, Ok, Err}
use Rattle.grammar.specs.declared.Unread.{Unread}
use Rattle.grammar.specs.declared.Unread.TheVariants.{NoForm, TooLarge}
use Rattle.grammar.specs.Unread.{unread_number}
use Rattle.grammar.specs.Grammar.{nth}
use Rattle.fairsheet.specs.declared.Reading.{Reading}
use Rattle.fairsheet.specs.SheetRead.{RowsKept, SheetRead}
use Rattle.fairsheet.specs.Written.{sheet_room, SheetWritten}

-- ---- the rates of a list

-- what stands behind as many rates as there are ids has no line
rate_lines_more : (is rates more : List ℕ) → length is ≤ length rates → rate_lines is (rates ++ more) ≡ rate_lines is rates
unfolding rate_lines
rate_lines_more [] rates more enough = refl
rate_lines_more (i ∷ is) [] more enough = absurd (omega arith)
rate_lines_more (i ∷ is) (r ∷ rates) more enough =
    ap (λ (rest : List ℕ). rate_line i r ++ rest) (rate_lines_more is rates more (omega arith))

module _ (threshold : ℕ) (is ds : List ℕ) where
  pub accepted-listed : acceptable threshold is ds ≡ true → length is ≡ length ds
  accepted-listed e =
      let listed = T_true (accepted_parts threshold is ds (rw e tt)).2 in
      eqb-cases (λ t. length is ≡ length ds) (length is) (length ds) (λ same. same)
      (λ other. true-false listed (listed_unequal is ds 0 other))

  pub too_many : ids < length ds → rates_printed threshold is ds ≡ printed (Refused 22)
  unfolding rates_printed acceptable
  too_many over = rw (rates_printed, lt-leb (length ds) ids over, and-false (within 1 shares threshold))

  module _ {room after : List ℕ} {answer : Answer} (size : length room ≡ ids) (s : Shared threshold is ds room answer after) where
    -- with room for every list that is accepted, the answer says whether this one is
    granted-accepted : granted threshold is ds room ≡ acceptable threshold is ds
    unfolding granted
    granted-accepted = go (acceptable threshold is ds) refl
      where
        go : (t : Bool) → acceptable threshold is ds ≡ t → (t && leb (length ds) (length room)) ≡ t
        go true e = le-leb (length ds) (length room) (omega (arith, size, accepted_few threshold is ds e))
        go false e = refl

    said : answer ≡ fair_answer (acceptable threshold is ds)
    said = s.said ∙ ap fair_answer granted-accepted

    given : answer ≡ Accepted → Given threshold is ds room after
    given e = accepted-given (subst (λ (a : Answer). Shared threshold is ds room a after) e s)

    pub shared_accepted : answer ≡ Accepted → acceptable threshold is ds ≡ true
    shared_accepted e = T_true (given e).ok

    pub shared_refused : (answer ≡ Accepted → ⊥) → printed (Refused 22) ≡ rates_printed threshold is ds
    unfolding rates_printed
    shared_refused other = go (acceptable threshold is ds) refl
      where
        go : (t : Bool) → acceptable threshold is ds ≡ t → printed (Refused 22) ≡ rates_printed threshold is ds
        go true e = absurd (other (said ∙ ap fair_answer e))
        go false e = rw (rates_printed, e)

    pub shared_lines : answer ≡ Accepted → rate_lines is after ≡ rates_printed threshold is ds
    unfolding rates_printed
    shared_lines e =
        let yes : acceptable threshold is ds ≡ true = shared_accepted e in
        ap (rate_lines is) (given e).whole
        ∙ rate_lines_more is (fair_rates threshold ds) _ (omega (arith, accepted-listed yes, (given e).fair.one_each))
        ∙ rw (rates_printed, yes)

-- ---- the printout of what was read

-- the rows of a text that nothing refuses
pub record Rows (o : Option DemandSheet) (listed demands : List ℕ) (r : Reading) : Type 0 where
  pub rows : List (List ℕ)
  pub kept : RowsKept rows listed demands
  pub all : r.count ≡ length rows
  pub prints : rates_printed r.threshold (column 0 rows) (column 1 rows) ≡ sheet_printed o

module _ {listed demands : List ℕ} where
  pub read_refused : {unread : Unread} (o : Option DemandSheet) → SheetRead o listed demands (Err unread)
      → printed (Refused (unread_number unread)) ≡ sheet_printed o
  unfolding sheet_printed
  read_refused {unread} none read = let same : unread ≡ NoForm = cc in rw same
  read_refused {unread} (some s) read = go (sheet_fits s) refl read.answer
    where
      go : (t : Bool) → sheet_fits s ≡ t
          → ◌≡◌ {A = Result Reading Unread} (Err unread) (cond t (Ok (record { threshold = nth s.first 0; count = length s.rows })) (Err TooLarge))
          → printed (Refused (unread_number unread)) ≡ sheet_printed (some s)
      go true e q = absurd (cc)
      go false e q = let same : unread ≡ TooLarge = cc in rw (sheet_printed, e, same)

  pub read_rows : {r : Reading} (o : Option DemandSheet) → SheetRead o listed demands (Ok r) → Rows o listed demands r
  unfolding sheet_printed
  read_rows none read = absurd (cc)
  read_rows {r} (some s) read = go (sheet_fits s) refl read.answer
    where
      go : (t : Bool) → sheet_fits s ≡ t
          → ◌≡◌ {A = Result Reading Unread} (Ok r) (cond t (Ok (record { threshold = nth s.first 0; count = length s.rows })) (Err TooLarge))
          → Rows (some s) listed demands r
      go true e q =
          let same : r ≡ record { threshold = nth s.first 0; count = length s.rows } = cc in record {
            rows = s.rows;
            kept = read.kept s refl e;
            all = ap (λ (x : Reading). x.count) same;
            prints =
                rw (sheet_printed, e)
                (ap (λ (x : Reading). rates_printed x.threshold (column 0 s.rows) (column 1 s.rows)) same);
          }
      go false e q = absurd (cc)

module _ {o : Option DemandSheet} {listed demands : List ℕ} {r : Reading} (s : Rows o listed demands r) where
  pub rows_many : ids < r.count → printed (Refused 22) ≡ sheet_printed o
  rows_many over =
      let size : length (column 1 s.rows) ≡ length s.rows = length-map s.rows _ in
      sym (too_many r.threshold (column 0 s.rows) (column 1 s.rows) (omega (arith, size, s.all))) ∙ s.prints

  pub rows_few : r.count ≤ length listed → r.count ≤ length demands
      → rates_printed r.threshold (take r.count listed) (take r.count demands) ≡ sheet_printed o
  rows_few room room' =
      let all : r.count ≡ length s.rows = s.all in
      rw (all, s.kept.ids (omega arith), s.kept.shares (omega arith)) s.prints

-- ---- the bytes

pub line_written : {line before after : List ℕ} {r : ℕ} → sheet_room ≤ length before → LineWritten line before 0 after r
    → Appended line before 0 after r
unfolding ids
line_written room w = w.written (omega arith)

-- what stands behind a text at the start is as it was
appended_rest : {text before after : List ℕ} {r : ℕ} → Appended text before 0 after r → drop r after ≡ drop r before
appended_rest {text} {before} {after} {r} a = rw (appended_whole a) (drop_at text (drop r before) r (omega (arith, a.place)))

module _ (text before : List ℕ) where
  pub sheet-bare : length before < sheet_room → SheetWritten text before before 0
  sheet-bare little = record { told = λ room. absurd (omega arith); fits = omega arith; rest = refl; bare = λ less. (refl, refl) }

  module _ (room : sheet_room ≤ length before) {after : List ℕ} {r : ℕ} where
    sheet-told : Appended (fair_printout text) before 0 after r → SheetWritten text before after r
    sheet-told a = record {
      told = λ enough. appended_front a;
      fits = omega (arith, a.room, appended_length a);
      rest = appended_rest a;
      bare = λ little. absurd (omega arith);
    }

    pub told-long : text_limit < length text → Appended (printed (Refused 18)) before 0 after r
        → SheetWritten text before after r
    unfolding fair_printout
    told-long over a = sheet-told (appended_as (rw (fair_printout, lt-ltb text_limit (length text) over)) a)

    pub told_read : length text ≤ text_limit → Appended (sheet_printed (shaped (lines text))) before 0 after r
        → SheetWritten text before after r
    unfolding fair_printout
    told_read short a = sheet-told (appended_as (rw (fair_printout, le-ltb text_limit (length text) short)) a)
