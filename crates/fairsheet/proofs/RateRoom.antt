-- The lines of rates, written one by one: each has room behind those before it, since no line is longer than the room of a line.
-- Assumes nothing.
use Prim.Native.Nat.{ℕ, suc, ◌+◌, ◌*◌, ◌^◌, ◌≤◌, ◌<◌}
use mathlib.Core.Path.{◌≡◌, refl, sym, ap, ◌∙◌}
use mathlib.Core.List.{List, [], ◌∷◌, ◌++◌}
use native.Mathlib.Omega.{arith}
use native.Mathlib.Numerals.{add-one}
use lib.ListN.{length, get_or, drop, drop_of_length-le, length-append}
use lib.Seq.{drop-cons, sets}
use Rattle.definitions.specs.Sizes.{ids}
use Rattle.grammar.specs.Bytes.{bytes}
use Rattle.grammar.specs.FairSheet.{rate_line, rate_lines}
use Rattle.printer.specs.Appended.{Appended}
use Rattle.printer.specs.Printed.{line_room, LineWritten}
use Rattle.printer.proofs.Appending.{sets_append, appended_length}
use Rattle.printer.proofs.FilledLength.{ten_digits, filled-length}
use Rattle.fairsheet.specs.Written.{sheet_room}

rate_line-length : (id rate : ℕ) → id < 2 ^ 32 → rate < 2 ^ 32 → length (rate_line id rate) ≤ line_room
unfolding rate_line
rate_line-length id rate small small' =
    omega (arith, filled-length (bytes "(rate # #)\n") (id ∷ rate ∷ []), ten_digits id small, ten_digits rate small')

rate_lines_first : (listed rates : List ℕ) (i : ℕ) → i < length listed → i < length rates
    → rate_lines (drop i listed) (drop i rates)
    ≡ rate_line (get_or listed i 0) (get_or rates i 0) ++ rate_lines (drop (suc i) listed) (drop (suc i) rates)
unfolding rate_lines
rate_lines_first listed rates i inside inside' = rw (drop-cons listed i 0 inside, drop-cons rates i 0 inside')

rate_lines-none : (rates : List ℕ) → rate_lines [] rates ≡ []
unfolding rate_lines
rate_lines-none rates = refl

-- the lines so far, and those that are left
pub record LinesPut (listed rates before out : List ℕ) (at i : ℕ) : Type 0 where
  pub same : length out ≡ length before
  pub upto : i ≤ length listed
  pub room : at ≤ i * line_room
  pub place : at + length (rate_lines (drop i listed) (drop i rates)) ≡ length (rate_lines listed rates)
  pub bytes : sets out at (rate_lines (drop i listed) (drop i rates)) ≡ sets before 0 (rate_lines listed rates)

pub put-none : (listed rates before : List ℕ) → LinesPut listed rates before before 0 0
put-none listed rates before = record {
  same = refl;
  upto = omega arith;
  room = omega arith;
  place = omega arith;
  bytes = refl;
}

module _ {listed rates before out : List ℕ} {at i : ℕ} (l : LinesPut listed rates before out at i)
    (few : length listed ≤ ids) (space : sheet_room ≤ length before) where
  pub put_more : (i < length listed) → (i < length rates) → get_or listed i 0 < 2 ^ 32 → get_or rates i 0 < 2 ^ 32
      → {out' : List ℕ} {end : ℕ} → LineWritten (rate_line (get_or listed i 0) (get_or rates i 0)) out at out' end
      → LinesPut listed rates before out' end (i + 1)
  put_more inside inside' small small' {out'} {end} w =
      let line = rate_line (get_or listed i 0) (get_or rates i 0) in
      let less = rate_lines (drop (suc i) listed) (drop (suc i) rates) in
      let first = rate_lines_first listed rates i inside inside' in
      let a : Appended line out at out' end = w.written (omega (arith, l.room, l.same)) in
      record {
        same = appended_length a ∙ l.same;
        upto = omega arith;
        room = omega (arith, l.room, a.place, rate_line-length (get_or listed i 0) (get_or rates i 0) small small');
        place = rw add-one (omega (arith, a.place, l.place, ap length first ∙ length-append line less));
        bytes = rw (add-one, a.bytes, a.place) (sym (sets_append line less out at) ∙ ap (sets out at) (sym first) ∙ l.bytes);
      }

  pub put_done : length listed ≤ i → Appended (rate_lines listed rates) before 0 out at
  put_done past =
      let none : rate_lines (drop i listed) (drop i rates) ≡ [] =
      ap (λ (is : List ℕ). rate_lines is (drop i rates)) (drop_of_length-le listed past) ∙ rate_lines-none (drop i rates)
      in
      record {
        place = omega (arith, l.place, ap length none);
        room = omega (arith, l.room, l.upto);
        bytes = ap (sets out at) (sym none) ∙ l.bytes;
      }
