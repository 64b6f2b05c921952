-- "Each line prints one line" (paper 01, "Script and printout"): the lines of a text, the history that they tell, one call for
-- each that holds a form, and the lines of its printout, of which the n-th answers the n-th of a text of at most 60,000 bytes.
use Rattle.std.specs.Prelude.{ℕ, ◌≤◌, ◌≡◌, true, false, cond, List, [], ◌∷◌, ◌++◌, eqb, length}
use Rattle.definitions.specs.History.{History, start, ◌then◌, scheduler, after}
use Rattle.grammar.specs.Unread.{Line}
use Rattle.std.specs.Prelude.{Ok, Err}
use Rattle.grammar.specs.declared.Unread.TheVariants.{NoForm}
use Rattle.grammar.specs.declared.Audience.{Audience}
use Rattle.grammar.specs.declared.Audience.TheVariants.{Caller}
use Rattle.grammar.specs.Bytes.{line_feed, text_limit}
use Rattle.grammar.specs.Calls.{event_of}
use Rattle.grammar.specs.Grammar.{parsed}
use Rattle.grammar.specs.Printout.{shown, printout}

-- a byte at the front of the first of some lines
abbrev pub at_front : ℕ → List (List ℕ) → List (List ℕ)
at_front b [] = (b ∷ []) ∷ []
at_front b (line ∷ rest) = (b ∷ line) ∷ rest

-- the lines of some bytes, each with the line feed that closes it; bytes behind the last line feed are a line that is not closed
unfoldable pub lines : List ℕ → List (List ℕ)
lines [] = []
lines (b ∷ text) = cond (eqb b line_feed) ((b ∷ []) ∷ lines text) (at_front b (lines text))

-- what a line of a text holds: "bytes after the last line feed, give 16"
unfoldable pub held_from : List ℕ → List ℕ → Line
held_from line [] = Err NoForm
held_from line (b ∷ bs) = elim (eqb b line_feed) [ true ↦ parsed line | false ↦ held_from (line ++ (b ∷ [])) bs ]

abbrev pub held : List ℕ → Line
held line = held_from [] line

-- the history behind a line: one that holds no form is no call
unfoldable pub heard : History → Line → History
heard h (Ok call) = h then event_of call
heard h (Err unread) = h

unfoldable pub told_from : History → List (List ℕ) → History
told_from h [] = h
told_from h (line ∷ rest) = told_from (heard h (held line)) rest

-- the history that lines tell
abbrev pub told : List (List ℕ) → History
told text = told_from start text

-- what lines print behind a history, each by what it holds
unfoldable pub printed_lines : Audience → History → List (List ℕ) → List (List ℕ)
printed_lines to h [] = []
printed_lines to h (line ∷ rest) = shown to (after scheduler h) (held line) ∷ printed_lines to (heard h (held line)) rest

-- the printout of a text of at most 60,000 bytes has one line for each line of it, and that line is what this one prints there
unfoldable pub LinesPrinted : Type 0
LinesPrinted = (text : List ℕ) → length text ≤ text_limit → lines (printout text) ≡ printed_lines Caller start (lines text)
