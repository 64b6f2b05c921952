-- Editions of the script (paper 02, S-6): "Handles go to 18446744073709551615 in calls, scripts and printed states. Number 17 uses
-- that limit for handles and the former one elsewhere." An edition is named by the largest handle that it takes, an older one by a
-- smaller. "Scripts .. without a longer handle mean what they meant; an older core meeting a longer handle refuses it with 17 in a
-- script": for any two editions.
use Rattle.std.specs.Prelude.{ℕ, ◌≤◌, ◌≡◌, Bool, true, false, ◌||◌, List, [], ◌∷◌, ◌++◌, eqb, ltb}
use Rattle.std.proofs.Math.Option.{Option, none, some}
use Rattle.definitions.specs.State.{Core}
use Rattle.definitions.specs.Counts.{Whole, whole_new}
use Rattle.definitions.specs.declared.Answer.TheVariants.{Refused}
use Rattle.std.specs.Prelude.{Err}
use Rattle.grammar.specs.declared.Unread.TheVariants.{TooLarge}
use Rattle.grammar.specs.declared.Audience.{Audience}
use Rattle.grammar.specs.declared.Audience.TheVariants.{Caller}
use Rattle.grammar.specs.Bytes.{line_feed, Unbroken}
use Rattle.grammar.specs.Templates.{matched}
use Rattle.grammar.specs.Grammar.{nth, arrival, parsed_in}
use Rattle.grammar.specs.Printout.{printed, printed_from_in, whole_by, left_from_in, printout_in}

-- whether the handle among the numbers of an arrival is above a limit
abbrev pub handle_above : ℕ → Option (List ℕ) → Bool
handle_above limit none = false
handle_above limit (some numbers) = ltb limit (nth numbers 1)

-- whether a line has a handle longer than an edition takes: it has the shape of an arrival, whatever its other numbers
unfoldable pub longer : ℕ → List ℕ → Bool
longer limit line = handle_above limit (matched arrival.template line)

-- whether a line of what is left of a text has one, with the bytes of the line so far; bytes after the last line feed are 16
unfoldable pub longer_from : ℕ → List ℕ → List ℕ → Bool
longer_from limit line [] = false
longer_from limit line (b ∷ text) =
    elim (eqb b line_feed) [
      | true ↦ longer limit line || longer_from limit [] text
      | false ↦ longer_from limit (line ++ (b ∷ [])) text
    ]

pub record HandleEditions : Type 0 where
  -- a line without a longer handle is read the same in both
  pub same_line : (older newer : ℕ) → older ≤ newer → (line : List ℕ) → longer older line ≡ false
      → parsed_in older line ≡ parsed_in newer line
  -- a text without one prints the same, for whomever
  pub same_printout : (older newer : ℕ) → older ≤ newer → (to : Audience) (text : List ℕ) → longer_from older [] text ≡ false
      → printout_in older to text ≡ printout_in newer to text
  -- and leaves the same core and counts
  pub same_whole : (older newer : ℕ) → older ≤ newer → (text : List ℕ) → longer_from older [] text ≡ false
      → left_from_in older whole_by whole_new [] text ≡ left_from_in newer whole_by whole_new [] text
  -- a line with a longer handle is 17
  pub long_line : (limit : ℕ) (line : List ℕ) → longer limit line ≡ true → parsed_in limit line ≡ Err TooLarge
  -- So where such a line, closed by its line feed, comes up in what is left of a text, 17 is printed for the caller, and the text goes
  -- on with core and counts as they were.
  pub long_printed : (limit : ℕ) (core : Core) (line text : List ℕ) → Unbroken line → longer limit line ≡ true
      → printed_from_in limit Caller core [] (line ++ line_feed ∷ text)
      ≡ printed (Refused 17) ++ printed_from_in limit Caller core [] text
  pub long_passed : (limit : ℕ) (w : Whole) (line text : List ℕ) → Unbroken line → longer limit line ≡ true
      → left_from_in limit whole_by w [] (line ++ line_feed ∷ text) ≡ left_from_in limit whole_by w [] text
