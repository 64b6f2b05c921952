-- The counts behind a text are those behind the history that it tells, so the chosen client's line is as private as its sheet. By
-- induction over the text's bytes. Assumes nothing.
use Prim.Native.Nat.{ℕ}
use mathlib.Core.Path.{◌≡◌, refl, sym, ap, ◌∙◌}
use mathlib.Core.Bool.{Bool, true, false}
use mathlib.Core.Logic.{◌≢◌}
use mathlib.Core.List.{List, [], ◌∷◌, ◌++◌, append_assoc, append-nil}
use lib.Dec.{eqb}
use borrow.Author.Tests.{eqb-true, eqb-false}
use Rattle.definitions.specs.History.{History, start, scheduler, after, answer_at}
use Rattle.definitions.specs.Counts.{Whole, whole_new, whole_after}
use Rattle.definitions.specs.Counted.{counts_behind}
use Rattle.definitions.proofs.ChosenSheet.{sheet_same}
use Rattle.grammar.specs.Unread.{Line}
use Rattle.std.specs.Prelude.{Ok, Err}
use Rattle.grammar.specs.Bytes.{line_feed, Unbroken}
use Rattle.grammar.specs.Grammar.{parsed}
use Rattle.grammar.specs.Printout.{whole_by, left_from_in, whole_from}
use Rattle.grammar.specs.Lines.{lines, heard, told_from, told}
use Rattle.grammar.specs.CountLines.{sheet_line, line_of, CountsOnPaper}
use Rattle.grammar.proofs.LineSplits.{closed_line, open_line, held_closed, held_open}
use Rattle.grammar.proofs.LinesShown.{unbroken_append}

-- core and counts behind a history
whole_at : History → Whole
whole_at h = record { core = after scheduler h; counts = counts_behind h }

whole_heard : (h : History) (l : Line) → whole_by (whole_at h) l ≡ whole_at (heard h l)
unfolding whole_at whole_by whole_after heard after answer_at counts_behind
whole_heard h (Ok call) = refl
whole_heard h (Err unread) = refl

-- what a closed line tells, and bytes behind the last line feed
told_closed : (h : History) (line text : List ℕ) → Unbroken line
    → told_from h (lines (line ++ line_feed ∷ text)) ≡ told_from (heard h (parsed line)) (lines text)
unfolding told_from
told_closed h line text whole =
    ap (told_from h) (ap lines (sym (append_assoc line (line_feed ∷ []) text)) ∙ closed_line line whole text)
    ∙ ap (λ (l : Line). told_from (heard h l) (lines text)) (held_closed line whole)

told_open : (h : History) (line : List ℕ) → Unbroken line → told_from h (lines line) ≡ h
unfolding told_from heard lines
told_open h [] whole = refl
told_open h (b ∷ line) whole =
    ap (told_from h) (open_line b line whole) ∙ ap (λ (l : Line). heard h l) (held_open (b ∷ line) whole)

text_told : (h : History) (line text : List ℕ) → Unbroken line
    → whole_from (whole_at h) line text ≡ whole_at (told_from h (lines (line ++ text)))
unfolding left_from_in
text_told h line [] whole = ap whole_at (sym (ap (λ (t : List ℕ). told_from h (lines t)) (append-nil line) ∙ told_open h line whole))
text_told h line (b ∷ text) whole = go (eqb b line_feed) refl
    (λ l. text_told (heard h l) [] text tt)
    (λ other. text_told h (line ++ (b ∷ [])) text (unbroken_append line b whole other))
  where
    go : (t : Bool) → eqb b line_feed ≡ t
        → ((l : Line) → whole_from (whole_at (heard h l)) [] text ≡ whole_at (told_from (heard h l) (lines text)))
        → (b ≢ line_feed → whole_from (whole_at h) (line ++ (b ∷ [])) text ≡ whole_at (told_from h (lines ((line ++ (b ∷ [])) ++ text))))
        → elim t [
          | true ↦ whole_from (whole_by (whole_at h) (parsed line)) [] text
          | false ↦ whole_from (whole_at h) (line ++ (b ∷ [])) text
        ]
        ≡ whole_at (told_from h (lines (line ++ b ∷ text)))
    go true e later joins =
        ap (λ (w : Whole). whole_from w [] text) (whole_heard h (parsed line))
        ∙ later (parsed line)
        ∙ ap whole_at (sym (told_closed h line text whole)
        ∙ ap (λ (x : ℕ). told_from h (lines (line ++ x ∷ text))) (sym (eqb-true b line_feed e)))
    go false e later joins =
        joins (eqb-false b line_feed e)
        ∙ ap (λ (t : List ℕ). whole_at (told_from h (lines t))) (append_assoc line (b ∷ []) text)

text_whole : (text : List ℕ) → whole_from whole_new [] text ≡ whole_at (told (lines text))
unfolding whole_at after counts_behind
text_whole text = text_told start [] text tt

pub counts_on_paper : CountsOnPaper
unfolding whole_at line_of
counts_on_paper = record {
  behind = text_whole;
  private = λ chosen a b e.
      rw (text_whole a, text_whole b) (ap (sheet_line chosen) (sheet_same chosen (told (lines a)) (told (lines b)) e));
}
