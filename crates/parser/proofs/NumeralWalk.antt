-- Where the parser stands within a number, digit by digit, from the first byte to what follows.
-- Each digit is taken off the front of the digits that are left and onto the number so far. Assumes nothing.
use Prim.Native.Nat.{ℕ, ◌+◌, ◌-◌, ◌*◌, ◌≤◌, ◌<◌}
use mathlib.Core.Path.{◌≡◌, refl, sym, ◌∙◌, ap}
use mathlib.Core.Bool.{Bool, true, false, cond}
use mathlib.Core.List.{List, [], ◌∷◌}
use mathlib.Core.Logic.{◌≢◌}
use native.Mathlib.Omega.{arith}
use borrow.Author.Tests.{le-leb, lt-leb, leb-true, leb-false, eq-eqb, ne_eqb}
use lib.Dec.{leb}
use lib.ListN.{length}
use Rattle.std.specs.Prelude.{Option, Some, None}
use Rattle.grammar.specs.Numerals.{leading, behind, is_numeral, value_from}
use Rattle.parser.specs.declared.Numeral.{Numeral}
use Rattle.parser.specs.Numbers.{largest64, within_limit, Grows, Holds, Spelled}
use Rattle.parser.proofs.Digits.{digit_leading, digit_behind, none_behind}

-- ---- a number held to a limit

pub limit_kept : {limit n v : ℕ} → Some v ≡ within_limit limit n → (v ≡ n) × (n ≤ limit)
limit_kept {limit} {n} {v} e = go (leb n limit) refl e
  where
    go : (t : Bool) → leb n limit ≡ t → Some v ≡ cond t (Some n) None → (v ≡ n) × (n ≤ limit)
    go true q f = (cc, leb-true n limit q)
    go false q f = absurd (cc)

pub limit_passed : {limit n : ℕ} → None ≡ within_limit limit n → limit < n
limit_passed {limit} {n} e = go (leb n limit) refl e
  where
    go : (t : Bool) → leb n limit ≡ t → None ≡ cond t (Some n) None → limit < n
    go true q f = absurd (cc)
    go false q f = leb-false n limit q

pub limit_some : {limit n : ℕ} → n ≤ limit → Some n ≡ within_limit limit n
limit_some {limit} {n} h = rw (le-leb n limit h)

pub limit_none : {limit n : ℕ} → limit < n → None ≡ within_limit limit n
limit_none {limit} {n} h = rw (lt-leb n limit h)

-- ---- whether digits are a number

pub none_spelled : (l : List ℕ) → leading l ≡ [] → is_numeral (leading l) ≡ false
unfolding is_numeral
none_spelled l e = ap is_numeral e

single : (first : ℕ) (ds : List ℕ) → ds ≡ [] → is_numeral ((48 + first) ∷ ds) ≡ true
unfolding is_numeral
single first ds e = rw e

led_by : (first : ℕ) (ds : List ℕ) → first ≢ 0 → is_numeral ((48 + first) ∷ ds) ≡ true
unfolding is_numeral
led_by first [] ne = refl
led_by first (d ∷ ds) ne = rw (ne_eqb (48 + first) 48 (λ e. ne (omega arith)))

led_by-zero : (first : ℕ) (ds : List ℕ) → first ≡ 0 → 0 < length ds → is_numeral ((48 + first) ∷ ds) ≡ false
unfolding is_numeral
led_by-zero first [] e h = absurd (omega arith)
led_by-zero first (d ∷ ds) e h = rw (eq-eqb (48 + first) 48 (omega arith))

-- ---- the walk

-- what is left behind the first digit and those that were passed
pub record Passed (line : List ℕ) (first : ℕ) (others rest : List ℕ) (amount : Option ℕ) : Type 0 where
  pub front : line ≡ (48 + first) ∷ others
  pub small : first < 10
  pub onward : length rest ≤ length others
  pub still : length others ≤ length rest → rest ≡ others
  pub several : length rest < length others → 0 < length (leading others)
  pub end : behind rest ≡ behind line
  -- the number that the digits so far spell, and what all of them do
  pub so_far : ℕ
  pub stands : amount ≡ within_limit largest64 so_far
  pub total : value_from so_far (leading rest) ≡ value_from 0 (leading line)

pub passed_one : {line : List ℕ} {first : ℕ} {others : List ℕ} → line ≡ (48 + first) ∷ others → first < 10
    → Passed line first others others (Some first)
unfolding value_from
passed_one {line} {first} {others} e h =
    let same : 0 * 10 + ((48 + first) - 48) ≡ first = omega arith in record {
      front = e;
      small = h;
      onward = omega arith;
      still = λ k. refl;
      several = λ k. absurd (omega arith);
      end = sym (digit_behind e h);
      so_far = first;
      stands = limit_some (omega arith);
      total = sym (ap (λ (n : ℕ). value_from n (leading others)) same) ∙ sym (ap (value_from 0) (digit_leading e h));
    }

module _ {line : List ℕ} {first : ℕ} {others rest : List ℕ} {amount : Option ℕ} (p : Passed line first others rest amount) where
  pub passed_more : {digit : ℕ} {left : List ℕ} {amount' : Option ℕ} → rest ≡ (48 + digit) ∷ left → digit < 10
      → Grows amount digit amount' → Passed line first others left amount'
  unfolding value_from
  passed_more {digit} {left} {amount'} e h grows =
      let shorter : length rest ≡ length left + 1 = ap length e ∙ omega arith in
      let lead = digit_leading e h in
      let same : p.so_far * 10 + ((48 + digit) - 48) ≡ p.so_far * 10 + digit = omega arith in
      record {
        front = p.front;
        small = p.small;
        onward = omega (arith, p.onward);
        still = λ k. absurd (omega (arith, p.onward));
        several = λ k. elsewhere (leb (length others) (length rest)) refl lead;
        end = sym (digit_behind e h) ∙ p.end;
        so_far = p.so_far * 10 + digit;
        stands = grows p.so_far p.stands;
        total = sym (ap (λ (n : ℕ). value_from n (leading left)) same) ∙ sym (ap (value_from p.so_far) lead) ∙ p.total;
      }
    where
      elsewhere : (t : Bool) → leb (length others) (length rest) ≡ t → leading rest ≡ (48 + digit) ∷ leading left
          → 0 < length (leading others)
      elsewhere true q lead =
          let all : leading others ≡ (48 + digit) ∷ leading left = sym (ap leading (p.still (leb-true _ _ q))) ∙ lead in
          omega (arith, ap length all)
      elsewhere false q lead = p.several (leb-false _ _ q)

  -- at the end of the digits
  module _ (none : leading rest ≡ []) where
    lead : leading line ≡ (48 + first) ∷ leading others
    lead = digit_leading p.front p.small

    pub passed_zero : first ≡ 0 → length rest < length others → is_numeral (leading line) ≡ false
    passed_zero e h = ap is_numeral lead ∙ led_by-zero first (leading others) e (p.several h)

    whole : p.so_far ≡ value_from 0 (leading line)
    unfolding value_from
    whole = rw none at p.total

    all : is_numeral (leading line) ≡ true → {limit : ℕ} {numeral : Numeral} → limit ≤ largest64 → Holds amount limit numeral.value
        → numeral.rest.now ≡ rest → Spelled limit line numeral
    all right {limit} {numeral} fits holds after = record {
      right = right;
      amount = holds p.so_far fits p.stands ∙ ap (within_limit limit) whole;
      after = after ∙ sym (none_behind rest none) ∙ p.end;
    }

    pub passed_led : first ≢ 0 → {limit : ℕ} {numeral : Numeral} → limit ≤ largest64 → Holds amount limit numeral.value
        → numeral.rest.now ≡ rest → Spelled limit line numeral
    passed_led ne = all (ap is_numeral lead ∙ led_by first (leading others) ne)

    pub passed_single : length others ≤ length rest → {limit : ℕ} {numeral : Numeral} → limit ≤ largest64
        → Holds amount limit numeral.value → numeral.rest.now ≡ rest → Spelled limit line numeral
    passed_single h = all (ap is_numeral lead ∙ single first (leading others) (sym (ap leading (p.still h)) ∙ none))
