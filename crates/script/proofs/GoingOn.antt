-- What the test for one line more says, where it holds and where it does not. Assumes nothing.
use Prim.Native.Nat.{ℕ, ◌+◌, ◌≤◌, ◌<◌}
use mathlib.Core.Path.{◌≡◌, sym, ap, ◌∙◌}
use mathlib.Core.Bool.{Bool, true, false, ◌&&◌, not}
use mathlib.Core.List.{List}
use lib.Dec.{leb}
use lib.ListN.{length}
use borrow.Author.Tests.{leb-true, leb-false, lt-leb, not-true}
use Rattle.definitions.proofs.Laws.Tests.{and_both}
use Rattle.printer.specs.Printed.{line_room}
use Rattle.reader.specs.LineSpans.{is_end}

module _ (text : List ℕ) (at size written : ℕ) {test : Bool}
    (asked : test ≡ (not (is_end text at) && leb (written + line_room) size)) where
  pub on : test ≡ true → (at < length text) × (written + line_room ≤ size)
  on holds =
      let both = and_both (not (is_end text at)) (leb (written + line_room) size) (sym asked ∙ holds) in
      (leb-false (length text) at (not-true _ both.0), leb-true (written + line_room) size both.1)

  pub off : test ≡ false → at < length text → size < written + line_room
  off fails inside =
      leb-false (written + line_room) size
      (ap (λ (past : Bool). not past && leb (written + line_room) size) (sym (lt-leb (length text) at inside)) ∙ sym asked ∙ fails)
