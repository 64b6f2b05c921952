-- Laws of a text that is written from a place on: one text after the other, and what the bytes are then.
-- A run of stores goes on where the one before it ended, so all of them follow by going along the text. Assumes nothing.
use Prim.Native.Nat.{ℕ, suc, ◌+◌, ◌≤◌, ◌<◌}
use native.Mathlib.Nat.{add-zero}
use native.Mathlib.Omega.{arith}
use mathlib.Core.Path.{◌≡◌, refl, sym, ap, ◌∙◌, subst}
use mathlib.Core.List.{List, [], ◌∷◌, ◌++◌}
use lib.ListN.{length, take, drop, set, length-append}
use lib.Seq.{sets, length-sets, sets-eq, take_at, length-take-le}
use Rattle.printer.specs.Appended.{Appended}

pub sets_append : (xs ys l : List ℕ) (i : ℕ) → sets l i (xs ++ ys) ≡ sets (sets l i xs) (i + length xs) ys
sets_append [] ys l i = rw add-zero
sets_append (x ∷ xs) ys l i =
    sets_append xs ys (set l i x) (suc i) ∙ ap (λ (k : ℕ). sets (sets (set l i x) (suc i) xs) k ys) (omega arith)

module _ {text before : List ℕ} {at : ℕ} {after : List ℕ} {end : ℕ} (a : Appended text before at after end) where
  pub appended_length : length after ≡ length before
  appended_length = rw a.bytes (length-sets before at text)

  -- the text stands between what was before its place and what was behind it
  pub appended_whole : after ≡ take at before ++ text ++ drop end before
  appended_whole =
      let room : at + length text ≤ length before = omega (arith, a.place, a.room) in
      rw a.place (a.bytes ∙ sets-eq text before at room)

  -- so the bytes before the new place are those before the old one, and the text
  pub appended_front : take end after ≡ take at before ++ text
  appended_front =
      let low : at ≤ length before = omega (arith, a.place, a.room) in
      rw appended_whole
      (take_at (take at before ++ text) _ end
      (length-append (take at before) text ∙ rw (length-take-le at before low) (sym a.place)))

  -- what is to follow has room behind it
  pub appended_room : (more : List ℕ) → at + length (text ++ more) ≤ length before → end + length more ≤ length after
  appended_room more room = omega (arith, length-append text more, a.place, appended_length, room)

  -- a second text goes on where the first one ended
  pub appended_more : {more last : List ℕ} {stop : ℕ} → Appended more after end last stop
      → Appended (text ++ more) before at last stop
  appended_more {more} b = record {
    place = omega (arith, length-append text more, a.place, b.place);
    room = omega (arith, appended_length, b.room);
    bytes = b.bytes ∙ rw (a.bytes, a.place) (sym (sets_append text more before at));
  }

-- where two texts have room, the first has it
pub front_room : (text more before : List ℕ) (at : ℕ) → at + length (text ++ more) ≤ length before
    → at + length text ≤ length before
front_room text more before at room = omega (arith, length-append text more, room)

pub appended_as : {other text before : List ℕ} {at : ℕ} {after : List ℕ} {end : ℕ} → other ≡ text
    → Appended text before at after end → Appended other before at after end
appended_as {before = before} {at} {after} {end} e a = subst (λ (t : List ℕ). Appended t before at after end) (sym e) a

pub appended_byte : (byte : ℕ) (before : List ℕ) (at : ℕ) → at < length before
    → Appended (byte ∷ []) before at (set before at byte) (at + 1)
appended_byte byte before at room = record { place = refl; room = omega arith; bytes = refl }

-- On the way: what is left to write, on the bytes as they are now, gives the whole text on the bytes as they were.
pub record Left (all before : List ℕ) (at : ℕ) (rest now : List ℕ) (end : ℕ) : Type 0 where
  pub place : end + length rest ≡ at + length all
  pub room : end + length rest ≤ length before
  pub same : length now ≡ length before
  pub bytes : sets now end rest ≡ sets before at all

pub left_all : (all before : List ℕ) (at : ℕ) → at + length all ≤ length before → Left all before at all before at
left_all all before at room = record { place = refl; room = room; same = refl; bytes = refl }

module _ {all before : List ℕ} {at : ℕ} {rest now : List ℕ} {end : ℕ} (l : Left all before at rest now end) where
  -- the text that is next has room
  pub left_room : (text less : List ℕ) → rest ≡ text ++ less → end + length text ≤ length now
  left_room text less e = omega (arith, ap length e ∙ length-append text less, l.room, l.same)

  -- and is written
  pub left_less : (text less : List ℕ) {after : List ℕ} {stop : ℕ} → rest ≡ text ++ less → Appended text now end after stop
      → Left all before at less after stop
  left_less text less e a =
      let lengths : length rest ≡ length text + length less = ap length e ∙ length-append text less in
      record {
        place = omega (arith, lengths, a.place, l.place);
        room = omega (arith, lengths, a.place, l.room);
        same = appended_length a ∙ l.same;
        bytes = rw (a.bytes, a.place) (sym (sets_append text less now end) ∙ rw (sym e) l.bytes);
      }

-- nothing is left
pub left_none : {all before : List ℕ} {at : ℕ} {now : List ℕ} {end : ℕ} → Left all before at [] now end
    → Appended all before at now end
left_none l = record { place = omega (arith, l.place); room = omega (arith, l.room); bytes = l.bytes }
