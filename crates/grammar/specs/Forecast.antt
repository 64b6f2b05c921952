-- What `slots --sure N` prints for a script, in place of its answers: of how many picks the private side is sure in the next N
-- ticks behind the script (paper 02, S-14: "a figure for leases"). The line is spelt as those of a printout are.
use Rattle.std.specs.Prelude.{ℕ, true, false, List, [], ◌∷◌, ltb, length}
use Rattle.definitions.specs.declared.Answer.TheVariants.{Refused}
use Rattle.definitions.specs.State.{Core, unopened, running}
use Rattle.definitions.specs.Guarantee.{sure}
use Rattle.grammar.specs.Bytes.{bytes, text_limit}
use Rattle.grammar.specs.Templates.{filled}
use Rattle.grammar.specs.Printout.{printed, core_from}

-- the line of a number of ticks and a number of picks
unfoldable pub sure_line : ℕ → ℕ → List ℕ
sure_line ticks picks = filled (bytes "(sure # #)\n") (ticks ∷ picks ∷ [])

-- the line that a core gives for a number of ticks; "core unopened" has the number 19, as for a call
unfoldable pub forecast : Core → ℕ → List ℕ
forecast unopened ticks = printed (Refused 19)
forecast (running s) ticks = sure_line ticks (sure (running s) ticks)

-- the line behind a whole script; "whole text over 60,000 bytes; the only line printed"
unfoldable pub forecast_behind : List ℕ → ℕ → List ℕ
forecast_behind text ticks =
    elim (ltb text_limit (length text)) [
      | true ↦ printed (Refused 18)
      | false ↦ forecast (core_from unopened [] text) ticks
    ]
