-- Where the parser stands within a template and a line: what it has found so far, with what the rest of the template finds in
-- the rest of the line, is what the template finds in the line. One law for each way that a byte of the template can go. Assumes
-- nothing.
use Prim.Native.Nat.{ℕ, ◌+◌, ◌≤◌, ◌<◌}
use mathlib.Core.Path.{◌≡◌, refl, sym, ap, ◌∙◌}
use mathlib.Core.Bool.{Bool, true, false, cond, ◌&&◌, ◌||◌}
use mathlib.Core.List.{List, [], ◌∷◌, ◌++◌, append_assoc, append-nil}
use mathlib.Core.Option.{Option, none, some}
use native.Mathlib.Numerals.{add-one}
use native.Mathlib.Omega.{arith}
use borrow.Author.Tests.{ltb-true, ltb-false, lt-leb, le-leb, lt-ltb, le-ltb, eq-eqb, ne_eqb}
use lib.Dec.{leb, ltb, eqb}
use lib.ListN.{length, take, drop, get_or, set, length-set, drop_of_length-le}
use lib.Seq.{drop-cons, take-suc-set}
use Rattle.std.specs.Prelude.{Some, None, Ok, Err, slice_get}
use Rattle.grammar.specs.declared.Unread.TheVariants.{NoForm, TooLarge}
use Rattle.grammar.specs.Numerals.{leading, is_numeral, value_from}
use Rattle.definitions.specs.Sizes.{handle_limit}
use Rattle.grammar.specs.Templates.{is_gap, limit_in, limits, limits_in, gaps, numbers_fit, with_number, matched}
use Rattle.grammar.proofs.TemplateSteps.{limits_gap, limits_byte, gap_fits, gap_misfits, byte_fits, byte_misfits}
use Rattle.parser.specs.declared.Numeral.{Numeral}
use Rattle.parser.specs.Numbers.{Spelled}
use Rattle.parser.proofs.NumeralWalk.{limit_kept, limit_passed}
use Rattle.parser.specs.Readings.{gap_of, Verdict, verdict_from, verdict, Room, Reads}

or-false : (a : Bool) → a || false ≡ a
or-false true = refl
or-false false = refl

or-true : (a : Bool) → a || true ≡ true
or-true true = refl
or-true false = refl

-- ---- a number more

verdict-number : (large : Bool) (l : ℕ) (ls : List ℕ) (n : ℕ) (found : Option (List ℕ))
    → verdict_from large (l ∷ ls) (with_number n found) ≡ verdict_from (large || ltb l n) ls found
unfolding numbers_fit
verdict-number large l ls n none = refl
verdict-number true l ls n (some ns) = refl
verdict-number false l ls n (some ns) = go (ltb l n) refl
  where
    go : (t : Bool) → ltb l n ≡ t
        → ◌≡◌ {A = Verdict} (cond (leb n l && numbers_fit ls ns) (Ok tt) (Err TooLarge))
        (cond t (Err TooLarge) (cond (numbers_fit ls ns) (Ok tt) (Err TooLarge)))
    go true e = rw (lt-leb n l (ltb-true l n e))
    go false e = rw (le-leb n l (ltb-false l n e))

-- numbers before those that are found
unfoldable pub before : List ℕ → Option (List ℕ) → Option (List ℕ)
before ns none = none
before ns (some ms) = some (ns ++ ms)

before_number : (ns : List ℕ) (n : ℕ) (found : Option (List ℕ)) → before ns (with_number n found) ≡ before (ns ++ (n ∷ [])) found
unfolding before
before_number ns n none = refl
before_number ns n (some ms) = ap some (sym (append_assoc ns (n ∷ []) ms))

before_none : (found : Option (List ℕ)) → found ≡ before [] found
unfolding before
before_none none = refl
before_none (some ms) = refl

-- ---- a byte of a template, and its gap

pub gap_some : (b : ℕ) {limit : ℕ} → Some limit ≡ gap_of b → (is_gap b ≡ true) × (limit ≡ limit_in handle_limit b)
gap_some b {limit} e = go (is_gap b) refl e
  where
    go : (t : Bool) → is_gap b ≡ t → Some limit ≡ cond t (Some (limit_in handle_limit b)) None
        → (is_gap b ≡ true) × (limit ≡ limit_in handle_limit b)
    go true q f = (q, cc)
    go false q f = absurd (cc)

pub gap_none : (b : ℕ) → None ≡ gap_of b → is_gap b ≡ false
gap_none b e = go (is_gap b) refl e
  where
    go : (t : Bool) → is_gap b ≡ t → None ≡ cond t (Some (limit_in handle_limit b)) None → is_gap b ≡ false
    go true q f = absurd (cc)
    go false q f = q

-- a line whose second byte is not that of a template has another shape
pub second_misfits : (b c : ℕ) (cs line : List ℕ) → is_gap b ≡ false → is_gap c ≡ false → (slice_get line 1 ≡ Some c → ⊥)
    → matched (b ∷ c ∷ cs) line ≡ none
unfolding matched
second_misfits b c cs [] first second h = refl
second_misfits b c cs (x ∷ []) first second h = go (eqb b x) refl
  where
    go : (t : Bool) → eqb b x ≡ t → matched (b ∷ c ∷ cs) (x ∷ []) ≡ none
    go true e = byte_fits b (c ∷ cs) x [] first e
    go false e = byte_misfits b (c ∷ cs) x [] first e
second_misfits b c cs (x ∷ y ∷ ys) first second h = go (eqb b x) refl
  where
    go : (t : Bool) → eqb b x ≡ t → matched (b ∷ c ∷ cs) (x ∷ y ∷ ys) ≡ none
    go true e =
        byte_fits b (c ∷ cs) x (y ∷ ys) first e ∙ byte_misfits c cs y ys second (ne_eqb c y (λ q. h (ap Some (sym q))))
    go false e = byte_misfits b (c ∷ cs) x (y ∷ ys) first e

-- ---- the walk

pub record Walked (line template : List ℕ) (large : Bool) (numbers : List ℕ) (count i : ℕ) (rest : List ℕ) : Type 0 where
  pub counted : count + gaps (drop i template) ≡ gaps template
  pub room : Room template numbers
  pub answer : verdict template (matched template line)
      ≡ verdict_from large (limits (drop i template)) (matched (drop i template) rest)
  pub found : large ≡ false → matched template line ≡ before (take count numbers) (matched (drop i template) rest)

pub walked_none : (line template numbers : List ℕ) → Room template numbers → Walked line template false numbers 0 0 line
walked_none line template numbers room = record {
  counted = omega arith;
  room = room;
  answer = refl;
  found = λ e. before_none (matched template line);
}

-- what was not found anywhere is refused by its shape
misfit : {line template : List ℕ} {large : Bool} {numbers : List ℕ} {count i : ℕ} {rest : List ℕ}
    → Walked line template large numbers count i rest → matched (drop i template) rest ≡ none
    → Reads template line (Err NoForm) numbers
misfit w e = record { answer = sym (w.answer ∙ rw e); places = tt; sized = w.room.sized }

module _ {line template : List ℕ} {large : Bool} {numbers : List ℕ} {count i : ℕ} {rest : List ℕ}
    (w : Walked line template large numbers count i rest) where
  -- a turn: a byte of the template
  module _ {byte : ℕ} (more : i < length template) (here : byte ≡ get_or template i 0) where
    next_byte : drop i template ≡ byte ∷ drop (i + 1) template
    next_byte = rw (here, add-one) (drop-cons template i 0 more)

    -- a gap
    module _ {limit : ℕ} (told : Some limit ≡ gap_of byte) where
      next_limit : limits (drop i template) ≡ limit ∷ limits (drop (i + 1) template)
      next_limit =
          ap limits next_byte
          ∙ limits_gap handle_limit byte (drop (i + 1) template) (gap_some byte told).0
          ∙ rw (gap_some byte told).1

      -- it has its place among the numbers
      pub walked_place : count < length numbers
      walked_place = omega (arith, w.counted, w.room.enough, w.room.sized, ap length next_limit)

      pub walked_gap_off : is_numeral (leading rest) ≡ false → Reads template line (Err NoForm) numbers
      walked_gap_off e =
          misfit w (rw next_byte (gap_misfits byte (drop (i + 1) template) rest (gap_some byte told).0 e))

      module _ {n : Numeral} (s : Spelled limit rest n) where
        fits : matched (drop i template) rest
            ≡ with_number (value_from 0 (leading rest)) (matched (drop (i + 1) template) n.rest.now)
        fits =
            ap (λ (t : List ℕ). matched t rest) next_byte
            ∙ gap_fits byte (drop (i + 1) template) rest (gap_some byte told).0 s.right
            ∙ rw s.after

        further : verdict template (matched template line)
            ≡ verdict_from (large || ltb limit (value_from 0 (leading rest))) (limits (drop (i + 1) template))
            (matched (drop (i + 1) template) n.rest.now)
        further = w.answer ∙ rw (next_limit, fits, verdict-number)

        pub walked_number : {value : ℕ} → n.value ≡ Some value
            → Walked line template large (set numbers count value) (count + 1) (i + 1) n.rest.now
        walked_number {value} e =
            let kept = limit_kept (sym e ∙ s.amount) in
            let small : ltb limit (value_from 0 (leading rest)) ≡ false = le-ltb limit (value_from 0 (leading rest)) kept.1 in
            record {
              counted = omega (arith, w.counted, ap length next_limit);
              room = record { sized = simp length-set w.room.sized; enough = w.room.enough };
              answer = further ∙ rw (small, or-false large);
              found = λ none.
                  w.found none
                  ∙ rw (
                    fits,
                    before_number,
                    ← kept.0,
                    add-one count,
                    take-suc-set numbers count value walked_place,
                  );
            }

        pub walked_over : n.value ≡ None → Walked line template true numbers (count + 1) (i + 1) n.rest.now
        walked_over e =
            let over : ltb limit (value_from 0 (leading rest)) ≡ true =
            lt-ltb limit (value_from 0 (leading rest)) (limit_passed (sym e ∙ s.amount)) in
            record {
              counted = omega (arith, w.counted, ap length next_limit);
              room = w.room;
              answer = further ∙ rw (over, or-true large);
              found = λ none. absurd (cc);
            }

    -- a fixed byte
    module _ (told : None ≡ gap_of byte) where
      pub walked_byte : {left : List ℕ} → rest ≡ byte ∷ left → Walked line template large numbers count (i + 1) left
      walked_byte {left} e =
          let fixed = gap_none byte told in
          let same = ap limits next_byte ∙ limits_byte handle_limit byte (drop (i + 1) template) fixed in
          let fits : matched (drop i template) rest ≡ matched (drop (i + 1) template) left =
          rw (next_byte, e) (byte_fits byte (drop (i + 1) template) byte left fixed (eq-eqb byte byte refl)) in
          record {
            counted = omega (arith, w.counted, ap length same);
            room = w.room;
            answer = w.answer ∙ rw (same, fits);
            found = λ none. w.found none ∙ rw fits;
          }

      pub walked_byte_off : ((left : List ℕ) → rest ≡ byte ∷ left → ⊥) → Reads template line (Err NoForm) numbers
      unfolding matched
      walked_byte_off other = misfit w (rw next_byte (go rest other))
        where
          go : (l : List ℕ) → ((left : List ℕ) → l ≡ byte ∷ left → ⊥) → matched (byte ∷ drop (i + 1) template) l ≡ none
          go [] other = refl
          go (x ∷ xs) other =
              byte_misfits byte (drop (i + 1) template) x xs (gap_none byte told)
              (ne_eqb byte x (λ q. other xs (ap (λ (b : ℕ). b ∷ xs) (sym q))))

  -- behind the last byte of the template
  module _ (h : length template ≤ i) where
    pub walked-behind : 0 < length rest → Reads template line (Err NoForm) numbers
    unfolding matched
    walked-behind k = misfit w (rw (drop_of_length-le template h) (go rest k))
      where
        go : (l : List ℕ) → 0 < length l → matched [] l ≡ none
        go [] k = absurd (omega arith)
        go (x ∷ xs) k = refl

    module _ (k : rest ≡ []) where
      ended : matched (drop i template) rest ≡ some []
      unfolding matched
      ended = rw (drop_of_length-le template h, k)

      pub walked_large : large ≡ true → Reads template line (Err TooLarge) numbers
      walked_large e = record { answer = sym (w.answer ∙ rw (ended, e)); places = tt; sized = w.room.sized }

      pub walked_all : large ≡ false → Reads template line (Ok tt) numbers
      unfolding before limits_in numbers_fit
      walked_all e =
          let none_left : limits (drop i template) ≡ [] = rw (drop_of_length-le template h) in
          let all : count ≡ gaps template = omega (arith, w.counted, ap length none_left) in
          record {
            answer = sym (w.answer ∙ rw (ended, e, none_left));
            places = w.found e ∙ rw (ended, append-nil, all);
            sized = w.room.sized;
          }
