-- The walk over a template that is written with numbers in its gaps: what is left to write is what is left of the template, filled with
-- the numbers that are left. A turn writes a number, where the next byte is a gap and a number is left, or else that byte. Assumes
-- nothing.
use Prim.Native.Nat.{ℕ, ◌+◌, ◌≤◌, ◌<◌, zero-le}
use native.Mathlib.Omega.{arith}
use native.Mathlib.Numerals.{add-one}
use mathlib.Core.Path.{◌≡◌, refl, ap, ap₂, ◌∙◌}
use mathlib.Core.Bool.{Bool, true, false, ◌&&◌}
use mathlib.Core.List.{List, [], ◌∷◌, ◌++◌}
use lib.Dec.{ltb}
use lib.ListN.{length, get_or, drop, set, drop_of_length-le}
use lib.Seq.{drop-cons}
use borrow.Author.Tests.{ltb-true, ltb-false}
use Rattle.definitions.proofs.Laws.Tests.{and_both}
use Rattle.grammar.specs.Numerals.{decimal}
use Rattle.grammar.specs.Templates.{is_gap, filled}
use Rattle.grammar.proofs.ReadBack.{filled_byte, filled_gap}
use Rattle.printer.specs.Appended.{Appended}
use Rattle.printer.proofs.Appending.{Left, left_all, left_room, left_less, left_none}

-- the whole on the bytes as they were, and what is left of it on the bytes as they are now
pub record Filling (template numbers before : List ℕ) (at : ℕ) (now : List ℕ) (end used i : ℕ) : Type 0 where
  pub left : Left (filled template numbers) before at (filled (drop i template) (drop used numbers)) now end
  pub within : i ≤ length template

module _ (template numbers before : List ℕ) (at : ℕ) where
  pub filling_all : at + length (filled template numbers) ≤ length before → Filling template numbers before at before at 0 0
  filling_all room = record { left = left_all _ _ _ room; within = zero-le }

module _ {template numbers before : List ℕ} {at : ℕ} {now : List ℕ} {end used i : ℕ}
    (f : Filling template numbers before at now end used i) where
  pub filling_none : length template ≤ i → Appended (filled template numbers) before at now end
  unfolding filled
  filling_none past = left_none (rw (drop_of_length-le template past) at f.left)

  module _ (more : i < length template) where
    abbrev byte : ℕ
    byte = get_or template i 0

    here : drop i template ≡ byte ∷ drop (i + 1) template
    here = rw add-one (drop-cons template i 0 more)

    -- a number is next
    module _ (takes : is_gap byte && ltb used (length numbers) ≡ true) where
      pub filling_used : used < length numbers
      filling_used = ltb-true used (length numbers) (and_both (is_gap byte) (ltb used (length numbers)) takes).1

      number-next : filled (drop i template) (drop used numbers)
          ≡ decimal (get_or numbers used 0) ++ filled (drop (i + 1) template) (drop (used + 1) numbers)
      number-next =
          ap₂ filled here (rw add-one (drop-cons numbers used 0 filling_used))
          ∙ filled_gap byte _ _ _ (and_both (is_gap byte) (ltb used (length numbers)) takes).0

      pub filling_number_room : end + length (decimal (get_or numbers used 0)) ≤ length now
      filling_number_room = left_room f.left (decimal (get_or numbers used 0)) _ number-next

      pub filling_number : {after : List ℕ} {stop : ℕ} → Appended (decimal (get_or numbers used 0)) now end after stop
          → Filling template numbers before at after stop (used + 1) (i + 1)
      filling_number a = record { left = left_less f.left (decimal (get_or numbers used 0)) _ number-next a; within = omega arith }

    -- the byte itself is next: it is no gap, or no number is left
    module _ (fixed : is_gap byte && ltb used (length numbers) ≡ false) where
      byte_next : filled (drop i template) (drop used numbers) ≡ (byte ∷ []) ++ filled (drop (i + 1) template) (drop used numbers)
      byte_next = ap (λ (bs : List ℕ). filled bs (drop used numbers)) here ∙ go (is_gap byte) refl fixed
        where
          go : (gap : Bool) → is_gap byte ≡ gap → gap && ltb used (length numbers) ≡ false
              → filled (byte ∷ drop (i + 1) template) (drop used numbers) ≡ byte ∷ filled (drop (i + 1) template) (drop used numbers)
          go false e none = filled_byte byte _ _ e
          go true e none =
              unfold filled in
              rw (drop_of_length-le numbers (ltb-false used (length numbers) none))

      pub filling_byte_room : end < length now
      filling_byte_room = omega (arith, left_room f.left (byte ∷ []) _ byte_next)

      pub filling_byte : Filling template numbers before at (set now end byte) (end + 1) used (i + 1)
      filling_byte = record {
        left = left_less f.left (byte ∷ []) _ byte_next (record { place = refl; room = omega (arith, filling_byte_room); bytes = refl });
        within = omega arith;
      }
