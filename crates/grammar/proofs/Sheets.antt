-- Demand 3 on paper, from demand 3: a printout falls into the lines that the history's calls print, one for each line of the
-- text, so what is noted of a sheet is the log of that history, printed. Assumes nothing.
use Prim.Native.Nat.{ℕ, zero, suc, ◌≤◌}
use mathlib.Core.Path.{◌≡◌, refl, sym, ap, ◌∙◌}
use mathlib.Core.Bool.{Bool, true, false, cond}
use mathlib.Core.List.{List, [], ◌∷◌, map, zip, zip_with, flatten, reverse, reverse_aux, reverse_aux-append, reverse-reverse}
use native.Mathlib.Omega.{arith}
use lib.ListN.{length, take}
use Rattle.definitions.specs.declared.Answer.{Answer}
use Rattle.definitions.specs.State.{Core}
use Rattle.definitions.specs.History.{History, start, ◌then◌, Place, end, before, calls, Dealing, Trace, Holdings, scheduler, after, answer_at, dealing_at, trace_of}
use Rattle.definitions.specs.Sameness.{kept, log, answers_of, SameDealings, LooksSame, Sameness}
use Rattle.definitions.proofs.Sameness.Theorem.{sameness}
use Rattle.grammar.specs.Unread.{Line}
use Rattle.std.specs.Prelude.{Ok, Err}
use Rattle.grammar.specs.declared.Audience.TheVariants.{Caller}
use Rattle.grammar.specs.Bytes.{text_limit}
use Rattle.grammar.specs.Calls.{event_of}
use Rattle.grammar.specs.Printout.{printed, answered, shown, printout}
use Rattle.grammar.specs.Lines.{lines, held, heard, told_from, told, printed_lines, LinesPrinted}
use Rattle.grammar.specs.Sheet.{Sheet, sheet, noted, noted_from, printed_of, SameLines, PrintsSame, SamenessOnPaper}
use Rattle.grammar.proofs.LineSplits.{OneLine, printed_line}
use Rattle.grammar.proofs.LinesShown.{short_printed}

-- ---- every printed answer is one line, so the lines of the whole are they

shown-one : (core : Core) (l : Line) → OneLine (shown Caller core l)
unfolding shown
shown-one core l = printed_line (answered core l).answer

lines_again : (h : History) (ls : List (List ℕ)) → lines (flatten (printed_lines Caller h ls)) ≡ printed_lines Caller h ls
unfolding flatten printed_lines lines
lines_again h [] = refl
lines_again h (l ∷ ls) =
    shown-one (after scheduler h) (held l) (flatten (printed_lines Caller (heard h (held l)) ls))
    ∙ ap (λ (rest : List (List ℕ)). shown Caller (after scheduler h) (held l) ∷ rest) (lines_again (heard h (held l)) ls)

pub lines-printed : LinesPrinted
unfolding LinesPrinted
lines-printed text short = ap lines (short_printed Caller text short) ∙ lines_again start (lines text)

-- ---- what is noted of a sheet is a log, from the first to the last

noted_if : {A : Type 0} (b : Bool) (x : A) (l : List A) → reverse_aux (cond b (x ∷ []) []) l ≡ cond b (x ∷ l) l
noted_if true x l = refl
noted_if false x l = refl

-- the rows of lines that were told behind a history
rows_of : History → List (List ℕ) → Sheet
rows_of h ls = zip ls (printed_lines Caller h ls)

in_print : (ℕ × Answer) → ℕ × List ℕ
in_print entry = (entry.0, printed entry.1)

module _ (chosen : ℕ) (which : Trace → Dealing → Bool) where
  -- what some dealings of a history printed
  printed_log : History → List (ℕ × List ℕ)
  printed_log h = log chosen which (λ d. printed d.answer) (trace_of scheduler h)

  line_noted : (h : History) (l : Line)
      → reverse_aux (noted chosen which h l (shown Caller (after scheduler h) l)) (printed_log h) ≡ printed_log (heard h l)
  unfolding noted shown answered answer_at heard printed_log log trace_of dealing_at
  line_noted h (Ok call) =
      noted_if (which (trace_of scheduler h) (dealing_at scheduler h (event_of call)))
      (calls (kept chosen (trace_of scheduler h)), printed (answer_at scheduler h (event_of call))) (printed_log h)
  line_noted h (Err unread) = refl

  rows_noted : (h : History) (m : ℕ) (ls : List (List ℕ))
      → reverse_aux (noted_from chosen which h (take m (rows_of h ls))) (printed_log h) ≡ printed_log (told_from h (take m ls))
  unfolding rows_of zip zip_with printed_lines noted_from told_from
  rows_noted h zero ls = refl
  rows_noted h (suc m) [] = refl
  rows_noted h (suc m) (l ∷ ls) =
      let later : List (ℕ × List ℕ) = noted_from chosen which (heard h (held l)) (take m (rows_of (heard h (held l)) ls)) in
      reverse_aux-append (noted chosen which h (held l) (shown Caller (after scheduler h) (held l))) later (printed_log h)
      ∙ ap (reverse_aux later) (line_noted h (held l))
      ∙ rows_noted (heard h (held l)) m ls

  log-printed : (h : History) → printed_log h ≡ map in_print (answers_of chosen which (trace_of scheduler h))
  unfolding printed_log log trace_of in_print
  log-printed start = refl
  log-printed (h then c) = go (which (trace_of scheduler h) (dealing_at scheduler h c)) (log-printed h)
    where
      entry : ℕ × Answer
      entry = (calls (kept chosen (trace_of scheduler h)), (dealing_at scheduler h c).answer)

      answers : List (ℕ × Answer)
      answers = answers_of chosen which (trace_of scheduler h)

      go : (b : Bool) → printed_log h ≡ map in_print answers
          → cond b (in_print entry ∷ printed_log h) (printed_log h) ≡ map in_print (cond b (entry ∷ answers) answers)
      go true e = ap (λ (l : List (ℕ × List ℕ)). in_print entry ∷ l) e
      go false e = e

  -- of a text beside its printout
  sheet_noted : (text : List ℕ) → length text ≤ text_limit → (m : ℕ)
      → reverse (printed_of chosen which (take m (sheet text (printout text))))
      ≡ map in_print (answers_of chosen which (trace_of scheduler (told (take m (lines text)))))
  unfolding LinesPrinted
  sheet_noted text short m =
      ap (λ (paper : List (List ℕ)). reverse (printed_of chosen which (take m (zip (lines text) paper))))
      (lines-printed text short)
      ∙ unfold rows_of printed_log log trace_of in rows_noted start m (lines text)
      ∙ log-printed (told (take m (lines text)))

-- ---- demand 3

-- what some lines tell is behind a place of what more lines tell
place_through : {h k l : History} → Place h k → Place k l → Place h l
place_through p end = p
place_through p (before q) = before (place_through p q)

heard_place : (h : History) (l : Line) → Place h (heard h l)
unfolding heard
heard_place h (Ok call) = before end
heard_place h (Err unread) = end

told_place : (h : History) (m : ℕ) (ls : List (List ℕ)) → Place (told_from h (take m ls)) (told_from h ls)
unfolding told_from
told_place h zero [] = end
told_place h zero (l ∷ ls) = place_through (heard_place h (held l)) (told_place (heard h (held l)) zero ls)
told_place h (suc m) [] = end
told_place h (suc m) (l ∷ ls) = told_place (heard h (held l)) m ls

module _ (chosen : ℕ) (a b : List ℕ) (short_a : length a ≤ text_limit) (short_b : length b ≤ text_limit) (m n : ℕ) where
  abbrev trace_a : Trace
  trace_a = trace_of scheduler (told (take m (lines a)))

  abbrev trace_b : Trace
  trace_b = trace_of scheduler (told (take n (lines b)))

  same_printed : (which : Trace → Dealing → Bool) → answers_of chosen which trace_a ≡ answers_of chosen which trace_b
      → printed_of chosen which (take m (sheet a (printout a))) ≡ printed_of chosen which (take n (sheet b (printout b)))
  same_printed which e =
      sym (reverse-reverse (printed_of chosen which (take m (sheet a (printout a)))))
      ∙ ap reverse (sheet_noted chosen which a short_a m ∙ ap (map in_print) e ∙ sym (sheet_noted chosen which b short_b n))
      ∙ reverse-reverse (printed_of chosen which (take n (sheet b (printout b))))

  same_lines : (id : ℕ) (when : Trace → Bool) → SameDealings chosen id when trace_a trace_b
      → SameLines chosen id when (take m (sheet a (printout a))) (take n (sheet b (printout b)))
  same_lines id when same = record { own_calls = same_printed _ same.answers; slots = same_printed _ same.departures }

  prints_same : {x y : Holdings} → LooksSame chosen trace_a x trace_b y
      → PrintsSame chosen (take m (sheet a (printout a))) (take n (sheet b (printout b)))
  prints_same same = record {
    settings = same_printed _ same.settings;
    chosen_lines = same_lines chosen _ same.chosen_dealings;
    indifferent_lines = λ id. same_lines id _ (same.indifferent_dealings id);
  }

pub sameness_on_paper : SamenessOnPaper
unfolding SamenessOnPaper Sameness
sameness_on_paper chosen a b short_a short_b e m n counts =
    prints_same chosen a b (omega arith) (omega arith) m n
    (sameness chosen (told (lines a)) (told (lines b)) e (told (take m (lines a))) (told (take n (lines b)))
    (told_place start m (lines a)) (told_place start n (lines b)) counts)
