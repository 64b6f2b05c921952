-- Demand 3 on paper (paper 01, "Two histories"): a text and its printout side by side, line by line. What is compared is bytes of
-- two printouts. Which private neighbour a slot picked, and what clients hold, only `Sameness` compares: the line of such a slot
-- tells more than the pick, and the rest is not printed.
use Rattle.std.specs.Prelude.{ℕ, ◌≤◌, ◌≡◌, Bool, true, cond, ◌&&◌, length, take}
use mathlib.Core.List.{List, [], ◌∷◌, ◌++◌, zip}
use Rattle.definitions.specs.History.{History, start, calls, Dealing, Trace, scheduler, dealing_at, trace_of}
use Rattle.definitions.specs.Sameness.{is_setting, names, indifferent_at, kept, departure}
use Rattle.grammar.specs.Unread.{Line}
use Rattle.std.specs.Prelude.{Ok, Err}
use Rattle.grammar.specs.Bytes.{text_limit}
use Rattle.grammar.specs.Calls.{event_of}
use Rattle.grammar.specs.Printout.{printout}
use Rattle.grammar.specs.Lines.{lines, held, heard, told}

-- the lines of a text, each with the printed line beside it
abbrev pub Sheet : Type 0
Sheet = List (List ℕ × List ℕ)

abbrev pub sheet : List ℕ → List ℕ → Sheet
sheet text answers = zip (lines text) (lines answers)

module _ (chosen : ℕ) where
  -- the calls that are kept of some lines
  abbrev pub kept_of : List (List ℕ) → History
  kept_of text = kept chosen (trace_of scheduler (told text))

  module _ (which : Trace → Dealing → Bool) where
    -- of a line that holds such a call, the printed line beside it, with the call's number among the kept calls
    unfoldable pub noted : History → Line → List ℕ → List (ℕ × List ℕ)
    noted h (Ok call) answer =
        cond (which (trace_of scheduler h) (dealing_at scheduler h (event_of call)))
        ((calls (kept chosen (trace_of scheduler h)), answer) ∷ []) []
    noted h (Err unread) answer = []

    unfoldable pub noted_from : History → Sheet → List (ℕ × List ℕ)
    noted_from h [] = []
    noted_from h (row ∷ rows) = noted h (held row.0) row.1 ++ noted_from (heard h (held row.0)) rows

    -- the printed lines beside such calls, from the first to the last
    abbrev pub printed_of : Sheet → List (ℕ × List ℕ)
    printed_of rows = noted_from start rows

-- one client's printed lines, at those places where `when` holds: those of its own calls, its drops among them, and of its slots
pub record SameLines (chosen id : ℕ) (when : Trace → Bool) (x y : Sheet) : Type 0 where
  pub own_calls : printed_of chosen (λ t d. when t && names id d.event) x
      ≡ printed_of chosen (λ t d. when t && names id d.event) y
  pub slots : printed_of chosen (λ t d. when t && departure id d) x ≡ printed_of chosen (λ t d. when t && departure id d) y

pub record PrintsSame (chosen : ℕ) (x y : Sheet) : Type 0 where
  -- the lines of every open, join, change and leave
  pub settings : printed_of chosen (λ t d. is_setting d.event) x ≡ printed_of chosen (λ t d. is_setting d.event) y
  pub chosen_lines : SameLines chosen chosen (λ t. true) x y
  pub indifferent_lines : (id : ℕ) → SameLines chosen id (indifferent_at id) x y

-- Any chosen client, any two texts of at most 60,000 bytes whose kept calls are equal, and any place of either, behind m lines of
-- the one and n of the other, at which both have as many kept calls behind them.
unfoldable pub SamenessOnPaper : Type 0
SamenessOnPaper =
    (chosen : ℕ) (a b : List ℕ)
    → length a ≤ text_limit
    → length b ≤ text_limit
    → kept_of chosen (lines a) ≡ kept_of chosen (lines b)
    → (m n : ℕ)
    → calls (kept_of chosen (take m (lines a))) ≡ calls (kept_of chosen (take n (lines b)))
    → PrintsSame chosen (take m (sheet a (printout a))) (take n (sheet b (printout b)))
