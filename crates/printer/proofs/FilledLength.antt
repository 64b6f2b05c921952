-- How long a template is when it is filled: no longer than its bytes and the digits of its numbers. So the line of a slot has room:
-- 32 bits have at most ten digits, and the 64 of a handle or a sum at most twenty. Assumes nothing.
use Prim.Native.Nat.{ℕ, suc, ◌+◌, ◌^◌, ◌≤◌, ◌<◌}
use native.Mathlib.Omega.{arith}
use mathlib.Core.Path.{◌≡◌, refl}
use mathlib.Core.Bool.{Bool, true, false}
use mathlib.Core.List.{List, [], ◌∷◌}
use lib.ListN.{length, length-append}
use Rattle.definitions.specs.declared.Outcome.{Outcome}
use Rattle.definitions.specs.declared.Outcome.TheVariants.{Real, Dummy, Idle, None}
use Rattle.definitions.specs.declared.Answer.TheVariants.{Slot}
use Rattle.definitions.specs.declared.CountSheet.{CountSheet}
use Rattle.definitions.specs.Answers.{values}
use Rattle.grammar.specs.Numerals.{decimal}
use Rattle.grammar.specs.Templates.{is_gap, filled}
use Rattle.grammar.specs.Printout.{printed}
use Rattle.grammar.proofs.Decimals.{decimal-length}
use Rattle.grammar.proofs.ReadBack.{filled_byte, filled_gap}
use Rattle.grammar.specs.Sentences.{outcome_text, drawn_text}
use Rattle.grammar.specs.CountLines.{count_line}
use Rattle.printer.specs.Printed.{outcome_room, reason_room, line_room}

pub ten_digits : (n : ℕ) → n < 2 ^ 32 → length (decimal n) ≤ 10
ten_digits n small = decimal-length 9 n (omega arith)

pub twenty_digits : (n : ℕ) → n < 2 ^ 64 → length (decimal n) ≤ 20
twenty_digits n small = decimal-length 19 n (omega arith)

-- the digits of some numbers together
abbrev pub digit_count : List ℕ → ℕ
digit_count [] = 0
digit_count (n ∷ ns) = length (decimal n) + digit_count ns

pub filled-length : (template numbers : List ℕ) → length (filled template numbers) ≤ length template + digit_count numbers
unfolding filled
filled-length [] numbers = omega arith
filled-length (b ∷ bs) [] = omega (arith, filled-length bs [])
filled-length (b ∷ bs) (n ∷ ns) = go (is_gap b) refl (filled-length bs ns) (filled-length bs (n ∷ ns))
  where
    go : (t : Bool) → is_gap b ≡ t
        → length (filled bs ns) ≤ length bs + digit_count ns
        → length (filled bs (n ∷ ns)) ≤ length bs + digit_count (n ∷ ns)
        → length (filled (b ∷ bs) (n ∷ ns)) ≤ suc (length bs) + digit_count (n ∷ ns)
    go true g taken kept = rw (filled_gap b bs n ns g) (simp length-append (omega arith))
    go false g taken kept = rw (filled_byte b bs (n ∷ ns) g) (omega arith)

-- so a filled template has at most some room, where that holds it and the digits
module _ (template numbers : List ℕ) {most : ℕ} (short : length template + digit_count numbers ≤ most) where
  pub filled_room : (at : ℕ) {size : ℕ} → at + most ≤ size → at + length (filled template numbers) ≤ size
  filled_room at room = omega (arith, filled-length template numbers)

-- an outcome of the code's widths
abbrev pub Narrow : Outcome → Type 0
Narrow (Real id packet padding) = (id < 2 ^ 32) × (packet.handle < 2 ^ 64) × (packet.length < 2 ^ 32) × (padding < 2 ^ 32)
Narrow (Dummy id) = id < 2 ^ 32
Narrow (Idle id) = id < 2 ^ 32
Narrow None = Unit {0}

-- so has the line of a slot
pub slot_room : (outcome : Outcome) → Narrow outcome → (at : ℕ) {size : ℕ} → at + line_room ≤ size
    → at + length (printed (Slot outcome)) ≤ size
unfolding printed values
slot_room (Real id packet padding) narrow at room =
    filled_room _ _
    (omega (arith, ten_digits id narrow.0, twenty_digits _ narrow.1, ten_digits _ narrow.2, ten_digits padding narrow.3)) at room
slot_room (Dummy id) narrow at room = filled_room _ _ (omega (arith, ten_digits id narrow)) at room
slot_room (Idle id) narrow at room = filled_room _ _ (omega (arith, ten_digits id narrow)) at room
slot_room None narrow at room = filled_room _ _ (omega arith) at room

-- and so have the words of an outcome, in theirs
pub outcome_room_lem : (outcome : Outcome) → Narrow outcome → (at : ℕ) {size : ℕ} → at + outcome_room ≤ size
    → at + length (outcome_text outcome) ≤ size
unfolding outcome_text values
outcome_room_lem (Real id packet padding) narrow at room =
    filled_room _ _
    (omega (arith, ten_digits id narrow.0, twenty_digits _ narrow.1, ten_digits _ narrow.2, ten_digits padding narrow.3)) at room
outcome_room_lem (Dummy id) narrow at room = filled_room _ _ (omega (arith, ten_digits id narrow)) at room
outcome_room_lem (Idle id) narrow at room = filled_room _ _ (omega (arith, ten_digits id narrow)) at room
outcome_room_lem None narrow at room = filled_room _ _ (omega arith) at room

-- and those of a draw
pub drawn_room : (target sum : ℕ) → target < 2 ^ 32 → sum < 2 ^ 64 → (at : ℕ) {size : ℕ} → at + reason_room ≤ size
    → at + length (drawn_text target sum) ≤ size
unfolding drawn_text
drawn_room target sum low wide at room =
    filled_room _ _ (omega (arith, ten_digits target low, twenty_digits sum wide)) at room

-- six counts of 64 bits
pub record NarrowCounts (id : ℕ) (c : CountSheet) : Type 0 where
  pub ids : id < 2 ^ 32
  pub accepted : c.accepted < 2 ^ 64
  pub sent : c.sent < 2 ^ 64
  pub full : c.full < 2 ^ 64
  pub drained : c.drained < 2 ^ 64
  pub emptied : c.emptied < 2 ^ 64
  pub dummies : c.dummies < 2 ^ 64

pub record CountDigits (id : ℕ) (c : CountSheet) : Type 0 where
  pub ids : length (decimal id) ≤ 10
  pub accepted : length (decimal c.accepted) ≤ 20
  pub sent : length (decimal c.sent) ≤ 20
  pub full : length (decimal c.full) ≤ 20
  pub drained : length (decimal c.drained) ≤ 20
  pub emptied : length (decimal c.emptied) ≤ 20
  pub dummies : length (decimal c.dummies) ≤ 20

pub counts_digits : (id : ℕ) (c : CountSheet) → NarrowCounts id c → CountDigits id c
counts_digits id c narrow = record {
  ids = ten_digits id narrow.ids;
  accepted = twenty_digits _ narrow.accepted;
  sent = twenty_digits _ narrow.sent;
  full = twenty_digits _ narrow.full;
  drained = twenty_digits _ narrow.drained;
  emptied = twenty_digits _ narrow.emptied;
  dummies = twenty_digits _ narrow.dummies;
}

-- and the line of an id and its counts
pub counts_room : (id : ℕ) (c : CountSheet) → NarrowCounts id c → (at : ℕ) {size : ℕ} → at + line_room ≤ size
    → at + length (count_line id c) ≤ size
unfolding count_line
counts_room id c narrow at room = filled_room _ _ (omega (arith, counts_digits id c narrow)) at room
