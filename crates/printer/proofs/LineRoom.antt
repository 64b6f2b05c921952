-- What the test for room says of a line that is to be printed: with room it is written, and without it nothing is. Assumes
-- nothing.
use Prim.Native.Nat.{ℕ, ◌+◌, ◌≤◌}
use native.Mathlib.Omega.{arith}
use mathlib.Core.Path.{◌≡◌, refl, sym, subst, ◌∙◌}
use mathlib.Core.Bool.{Bool, true, false, not}
use mathlib.Core.List.{List}
use lib.Dec.{leb}
use lib.ListN.{length}
use borrow.Author.Tests.{leb-true, leb-false, not-true, not-false}
use Rattle.printer.specs.Appended.{Appended}
use Rattle.printer.specs.Printed.{line_room, LineWritten}

module _ (before : List ℕ) (at : ℕ) {test : Bool} (asked : test ≡ leb (at + line_room) (length before)) where
  pub roomy : not test ≡ false → at + line_room ≤ length before
  roomy left = leb-true (at + line_room) (length before) (sym asked ∙ not-false test left)

  pub unwritten : (line : List ℕ) → not test ≡ true → LineWritten line before at before at
  unwritten line taken =
      let none = leb-false (at + line_room) (length before) (sym asked ∙ not-true test taken) in
      record { written = λ room. absurd (omega arith); untouched = λ little. (refl, refl) }

  pub wrote : {line after : List ℕ} {end : ℕ} → not test ≡ false → Appended line before at after end
      → LineWritten line before at after end
  wrote left a =
      let room = roomy left in
      record { written = λ fits. a; untouched = λ little. absurd (omega arith) }

-- a line that was written is one that it equals
pub line_as : {line other before : List ℕ} {at : ℕ} {after : List ℕ} {end : ℕ} → line ≡ other
    → LineWritten line before at after end
    → LineWritten other before at after end
line_as {before = before} {at} {after} {end} e w = subst (λ (l : List ℕ). LineWritten l before at after end) e w
