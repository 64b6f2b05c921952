-- A printout falls into what the lines of its text print, one behind the other, for whomever it is printed: each line on the core
-- behind the history that the lines before it tell. By induction over the text's bytes. Assumes nothing.
use Prim.Native.Nat.{ℕ, ◌≤◌}
use mathlib.Core.Path.{◌≡◌, refl, sym, ap, ◌∙◌}
use mathlib.Core.Bool.{Bool, true, false}
use mathlib.Core.Logic.{◌≢◌}
use mathlib.Core.List.{List, [], ◌∷◌, ◌++◌, flatten, append_assoc, append-nil}
use lib.Dec.{eqb}
use lib.ListN.{length}
use borrow.Author.Tests.{eqb-true, eqb-false, le-ltb}
use Rattle.definitions.specs.State.{Core}
use Rattle.definitions.specs.History.{History, start, scheduler, after}
use Rattle.grammar.specs.Unread.{Line}
use Rattle.std.specs.Prelude.{Ok, Err}
use Rattle.grammar.specs.declared.Unread.TheVariants.{NoForm}
use Rattle.grammar.specs.declared.Audience.{Audience}
use Rattle.grammar.specs.Bytes.{line_feed, Unbroken, text_limit}
use Rattle.grammar.specs.Grammar.{parsed}
use Rattle.grammar.specs.Printout.{answered, shown, printed_from, printed_from_in, printout_for, printout_in}
use Rattle.grammar.specs.Lines.{lines, held, heard, printed_lines}
use Rattle.grammar.proofs.LineSplits.{closed_line, open_line, held_closed, held_open}

line_heard : (h : History) (l : Line) → (answered (after scheduler h) l).core ≡ after scheduler (heard h l)
unfolding answered heard after
line_heard h (Ok call) = refl
line_heard h (Err unread) = refl

pub unbroken_append : (line : List ℕ) (b : ℕ) → Unbroken line → b ≢ line_feed → Unbroken (line ++ (b ∷ []))
unbroken_append [] b whole other = (other, tt)
unbroken_append (x ∷ line) b whole other = (whole.0, unbroken_append line b whole.1 other)

module _ (to : Audience) where
  -- what lines print, one after the other
  all_of : History → List (List ℕ) → List ℕ
  all_of h ls = flatten (printed_lines to h ls)

  first_printed : (h : History) (line : List ℕ) (rest : List (List ℕ)) (l : Line) → held line ≡ l
      → all_of h (line ∷ rest) ≡ shown to (after scheduler h) l ++ all_of (heard h l) rest
  unfolding all_of flatten printed_lines
  first_printed h line rest l e = rw e

  -- at a line feed, and behind the last one
  closed_printed : (h : History) (line text : List ℕ) → Unbroken line
      → all_of h (lines (line ++ line_feed ∷ text))
      ≡ shown to (after scheduler h) (parsed line) ++ all_of (heard h (parsed line)) (lines text)
  closed_printed h line text whole =
      ap (all_of h) (ap lines (sym (append_assoc line (line_feed ∷ []) text)) ∙ closed_line line whole text)
      ∙ first_printed h (line ++ line_feed ∷ []) (lines text) (parsed line) (held_closed line whole)

  open_printed : (h : History) (b : ℕ) (line : List ℕ) → Unbroken (b ∷ line)
      → all_of h (lines (b ∷ line)) ≡ shown to (after scheduler h) (Err NoForm)
  unfolding all_of flatten printed_lines heard
  open_printed h b line whole =
      ap (all_of h) (open_line b line whole)
      ∙ first_printed h (b ∷ line) [] (Err NoForm) (held_open (b ∷ line) whole)
      ∙ append-nil (shown to (after scheduler h) (Err NoForm))

  -- what is left of a text, with the bytes of the line so far
  text_printed : (h : History) (line text : List ℕ) → Unbroken line
      → printed_from to (after scheduler h) line text ≡ all_of h (lines (line ++ text))
  unfolding printed_from_in
  text_printed h [] [] whole = unfold all_of flatten printed_lines lines in refl
  text_printed h (b ∷ line) [] whole =
      sym (ap (λ (t : List ℕ). all_of h (lines t)) (append-nil (b ∷ line)) ∙ open_printed h b line whole)
  text_printed h line (b ∷ text) whole = go (eqb b line_feed) refl
      (λ l. text_printed (heard h l) [] text tt)
      (λ other. text_printed h (line ++ (b ∷ [])) text (unbroken_append line b whole other))
    where
      -- what the line holds, once it is closed, and the core behind it
      l : Line
      l = parsed line

      next : Core
      next = (answered (after scheduler h) l).core

      go : (t : Bool) → eqb b line_feed ≡ t
          → ((l : Line) → printed_from to (after scheduler (heard h l)) [] text ≡ all_of (heard h l) (lines text))
          → (b ≢ line_feed → printed_from to (after scheduler h) (line ++ (b ∷ [])) text ≡ all_of h (lines ((line ++ (b ∷ [])) ++ text)))
          → elim t [
            | true ↦ shown to (after scheduler h) l ++ printed_from to next [] text
            | false ↦ printed_from to (after scheduler h) (line ++ (b ∷ [])) text
          ]
          ≡ all_of h (lines (line ++ b ∷ text))
      go true e later joins =
          ap (λ (out : List ℕ). shown to (after scheduler h) l ++ out)
          (ap (λ (core : Core). printed_from to core [] text) (line_heard h l) ∙ later l)
          ∙ sym (closed_printed h line text whole)
          ∙ ap (λ (x : ℕ). all_of h (lines (line ++ x ∷ text))) (sym (eqb-true b line_feed e))
      go false e later joins =
          joins (eqb-false b line_feed e) ∙ ap (λ (t : List ℕ). all_of h (lines t)) (append_assoc line (b ∷ []) text)

  pub short_printed : (text : List ℕ) → length text ≤ text_limit
      → printout_for to text ≡ flatten (printed_lines to start (lines text))
  unfolding all_of after printout_in
  short_printed text short = rw (printout_in, le-ltb text_limit (length text) short) (text_printed start [] text tt)
