-- What the start of a script leaves where nothing is carried out behind it: without room for a line, or of a text that is too long.
-- Assumes nothing.
use Prim.Native.Nat.{ℕ, ◌+◌, ◌<◌}
use mathlib.Core.Path.{◌≡◌, sym, ap, ◌∙◌}
use mathlib.Core.Bool.{Bool, true, not}
use mathlib.Core.List.{List, ◌++◌, append-nil}
use native.Mathlib.Omega.{arith}
use lib.Dec.{leb}
use lib.ListN.{length, take}
use borrow.Author.Tests.{leb-false, lt-ltb, not-true}
use Rattle.definitions.specs.declared.Answer.TheVariants.{Refused}
use Rattle.definitions.specs.State.{unopened}
use Rattle.grammar.specs.declared.Audience.TheVariants.{Caller}
use Rattle.grammar.specs.Bytes.{text_limit}
use Rattle.grammar.specs.Printout.{printed, printout, printout_in}
use Rattle.printer.specs.Printed.{line_room}
use Rattle.script.specs.declared.Progress.{Progress}
use Rattle.script.specs.Pieces.{Start}
use Rattle.script.proofs.LinePrinted.{ahead_none}
use Rattle.tables.specs.declared.Tables.{Tables}
use Rattle.carried.specs.CarriedOut.{CarriedOut}

module _ {text out : List ℕ} {r : Progress} (s : Start text out r) (u : Tables) where
  pub carried_none : {test : Bool} → test ≡ leb (0 + line_room) (length out) → not test ≡ true → CarriedOut text out r u
  carried_none {test} asked none =
      let little = leb-false (0 + line_room) (length out) (sym asked ∙ not-true test none) in
      record {
        valid = (s.core u).1;
        left = λ room short. absurd (omega arith);
        long = λ room over. absurd (omega arith);
        fits = s.fits;
      }

  printed-long : text_limit < length text → printout text ≡ printed (Refused 18)
  unfolding printout_in
  printed-long over = rw (printout_in, lt-ltb text_limit (length text) over)

  pub carried_long : text_limit < length text → CarriedOut text out r u
  carried_long over = record {
    valid = (s.core u).1;
    left = λ room short. absurd (omega arith);
    long = λ room again.
        sym (append-nil (take r.written out))
        ∙ ap (λ (rest : List ℕ). take r.written out ++ rest) (sym (ahead_none Caller unopened text r.next (omega (arith, end))))
        ∙ s.printed Caller room
        ∙ printed-long over;
    fits = s.fits;
  }
    where
      end : r.next ≡ length text
      end = rw (lt-ltb text_limit (length text) over) at s.next
