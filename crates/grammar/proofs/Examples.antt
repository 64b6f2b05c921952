-- The examples, computed over the definitions; a text that is too long by induction over its empty lines. Assumes nothing.
use Prim.Native.Nat.{ℕ, zero, suc, ◌<◌}
use mathlib.Core.Path.{◌≡◌, refl, ap}
use mathlib.Core.List.{List, ◌++◌, zip, zip_with}
use native.Mathlib.Omega.{arith}
use lib.ListN.{length, length-replicate, replicate}
use borrow.Author.Tests.{lt-ltb}
use Rattle.definitions.specs.History.{History, scheduler, after, answer_at, dealing_at, trace_of}
use Rattle.definitions.specs.Sameness.{is_tick, names, indifferent_by, indifferent_since, is_struck, kept, departure}
use Rattle.definitions.specs.Checks.{first_failed}
use Rattle.definitions.specs.Notes.{reason_of, note_of, operator_note, holder, seen_by, tenant_checks, tenant_seen, tenant_note}
use Rattle.definitions.proofs.Everything.{everything}
use Rattle.definitions.specs.Sizes.{number_limit, handle_limit}
use Rattle.definitions.specs.FairRates.{cut_sum, fits, largest_up_to, fair_level, extra, rates_at, fair_rates}
use Rattle.definitions.specs.FairRates.{entry_fits, listed_from, acceptable}
use Rattle.grammar.specs.declared.Audience.TheVariants.{Caller}
use Rattle.grammar.specs.Bytes.{line_feed, text_limit}
use Rattle.grammar.specs.Numerals.{is_digit, leading, behind, is_numeral, value_from, digits, decimal}
use Rattle.grammar.specs.Templates.{limits_in, numbers_fit, filled, matched}
use Rattle.grammar.specs.Grammar.{sized_in, parsed_by_in, parsed_in}
use Rattle.grammar.proofs.AllForms.{forms}
use Rattle.grammar.proofs.HandleEditions.{handle_editions}
use Rattle.grammar.proofs.TenantPapers.{tenant_on_paper}
use Rattle.grammar.specs.Printout.{printed, answered, shown, printed_from_in, left_from_in, printout_in}
use Rattle.grammar.specs.Sentences.{outcome_text, drawn_text, reason_text, sentence}
use Rattle.grammar.specs.TenantPaper.{TenantOnPaper}
use Rattle.grammar.specs.HandleEditions.{longer, longer_from}
use Rattle.grammar.specs.Lines.{lines, held_from, heard, told_from, told}
use Rattle.grammar.specs.FairSheet.{demand_rows, shaped, rows_fit, rate_line, rate_lines, rates_printed}
use Rattle.grammar.specs.FairSheet.{sheet_fits, sheet_printed, fair_printout}
use Rattle.grammar.specs.Sheet.{noted, noted_from}
use Rattle.grammar.specs.Examples.{PaperPrintout, BadPrintout, short_text, HandlePrintouts, NumberPrintout}
use Rattle.grammar.specs.Examples.{FairPrintouts, call, silence, CallAndSilence, SheetsOfTwo, SheetsOfChanges, too_long, LimitNeeded}

unfoldable pub printing : Type 0
unfolding everything text_limit number_limit handle_limit is_digit leading behind is_numeral value_from digits decimal filled matched
    limits_in numbers_fit forms sized_in parsed_by_in parsed_in printed answered shown printed_from_in left_from_in printout_in
printing = Unit {0}

-- and what reads a text beside its printout
unfoldable pub comparing : Type 0
unfolding printing after answer_at dealing_at trace_of is_tick names indifferent_by indifferent_since is_struck kept departure lines
    held_from heard told_from zip zip_with noted noted_from
comparing = Unit {0}

pub paper_printout : PaperPrintout
unfolding PaperPrintout printing
paper_printout = refl

pub bad_printout : BadPrintout
unfolding BadPrintout printing
bad_printout = refl

-- of this text by the theorem
short_alike_lem : printout_in 4294967295 Caller short_text ≡ printout_in 18446744073709551615 Caller short_text
unfolding printing longer longer_from
short_alike_lem = handle_editions.same_printout 4294967295 18446744073709551615 (omega arith) Caller short_text refl

pub handle_printouts : HandlePrintouts
unfolding printing longer longer_from
handle_printouts = record { newer = refl; older = refl; longer_handles = refl; short_handles = refl; short_alike = short_alike_lem }

pub number-printout : NumberPrintout
unfolding NumberPrintout printing
number-printout = refl

-- what reads a text of demands and prints its rates
unfoldable pub sharing : Type 0
unfolding printing lines cut_sum fits largest_up_to fair_level extra rates_at fair_rates entry_fits listed_from acceptable
    demand_rows shaped rows_fit rate_line rate_lines rates_printed sheet_fits sheet_printed fair_printout
sharing = Unit {0}

pub fair_printouts : FairPrintouts
unfolding sharing
fair_printouts = record {
  rates = refl;
  no_demands = refl;
  no_threshold = refl;
  not_closed = refl;
  shape_first = refl;
  size_next = refl;
  unfair = refl;
}

pub call-and-silence : CallAndSilence
unfolding comparing
call-and-silence = record {
  kept_alike = refl;
  call_printed = refl;
  silence_printed = refl;
  chosen_calls = refl;
  chosen_slots = refl;
  indifferent_calls = refl;
  indifferent_slots = refl;
  neighbour_in_call = refl;
  neighbour_in_silence = refl;
}

-- and what writes sheets
unfoldable pub sheets : Type 0
unfolding printing is_tick first_failed reason_of note_of operator_note holder seen_by tenant_checks tenant_seen tenant_note outcome_text
    drawn_text reason_text sentence
sheets = Unit {0}

pub sheets_of_two : SheetsOfTwo
unfolding sheets TenantOnPaper
sheets_of_two = record {
  tenant_in_call = refl;
  tenant_alike = tenant_on_paper 5 call silence (omega arith) (omega arith) call-and-silence.kept_alike;
  operator_in_call = refl;
  operator_in_silence = refl;
  operators_differ = λ same. absurd (omega (arith, ap (λ (l : List ℕ). length l) same));
}

pub sheets_of_changes : SheetsOfChanges
unfolding sheets
sheets_of_changes = record { operator = refl; tenant = refl; no_client = refl }

-- empty lines tell nothing
feeds_told : (h : History) (n : ℕ) → told_from h (lines (replicate n line_feed)) ≡ h
unfolding lines told_from held_from heard parsed_in forms parsed_by_in matched
feeds_told h zero = refl
feeds_told h (suc n) = feeds_told h n

silence-told : (n : ℕ) → told (lines (silence ++ replicate n line_feed)) ≡ told (lines silence)
unfolding comparing
silence-told n = feeds_told (told (lines silence)) n

over_limit : (n : ℕ) → n < length (silence ++ replicate n line_feed)
over_limit n = omega (arith, length-replicate n line_feed)

pub limit_needed : LimitNeeded
unfolding printout_in printed filled decimal digits
limit_needed = record {
  kept_alike = ap (λ (h : History). kept 5 (trace_of scheduler h)) (silence-told text_limit);
  too_long_printed = rw (printout_in, lt-ltb text_limit (length too_long) (over_limit text_limit));
}
