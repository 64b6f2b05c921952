-- What the arguments ask for, and the bytes that are then written behind a text: without any its printout, with an option another
-- sheet, the forecast or the count sheets, and with any others nothing.
use Rattle.std.specs.Prelude.{ℕ, Bool, true, false, cond, ◌&&◌, List, [], ◌∷◌, eqb, leb, Option, Some, None}
use Rattle.grammar.specs.declared.Audience.TheVariants.{Caller, Operator, Tenant}
use Rattle.grammar.specs.Bytes.{bytes}
use Rattle.grammar.specs.Printout.{printout_for}
use Rattle.grammar.specs.Forecast.{forecast_behind}
use Rattle.grammar.specs.CountLines.{counts_printed}
use Rattle.slots.specs.declared.Request.{Request}
use Rattle.slots.specs.declared.Request.TheVariants.{Printout, Forecast, Bill, Help, Unknown}

-- whether two texts are the same bytes
unfoldable pub same_bytes : List ℕ → List ℕ → Bool
same_bytes [] [] = true
same_bytes [] (b ∷ bs) = false
same_bytes (a ∷ more) [] = false
same_bytes (a ∷ more) (b ∷ bs) = eqb a b && same_bytes more bs

-- an option that stands alone
unfoldable pub alone : List ℕ → Request
alone option =
    cond (same_bytes option (bytes "--operator")) (Printout Operator)
    (cond (same_bytes option (bytes "--counts")) Bill (cond (same_bytes option (bytes "--help")) Help Unknown))

-- one with a number behind it
unfoldable pub numbered : List ℕ → ℕ → Request
numbered option value =
    cond (same_bytes option (bytes "--sure")) (Forecast value)
    (cond (same_bytes option (bytes "--tenant")) (Printout (Tenant value)) Unknown)

-- "a number of the script's spelling", and not above the largest
abbrev pub with_word : List ℕ → Option ℕ → Request
with_word option (Some value) = numbered option value
with_word option None = Unknown

-- the request of so many arguments, the program's name among them: the first behind it is the option, the second reads as a word
unfoldable pub asked : ℕ → List ℕ → Option ℕ → Request
asked count option word =
    cond (leb count 1) (Printout Caller) (cond (eqb count 2) (alone option) (cond (eqb count 3) (with_word option word) Unknown))

-- what `--help` prints, and any other argument on standard error
abbrev pub usage : List ℕ
usage = bytes "usage: slots [--sure N | --operator | --tenant I | --counts | --help]\n"

abbrev pub requested : Request → List ℕ → List ℕ
requested (Printout to) text = printout_for to text
requested (Forecast ticks) text = forecast_behind text ticks
requested Bill text = counts_printed text
requested Help text = usage
requested Unknown text = []
