-- What the answer for a line says: its numbers where they are within their limits, and else whether its form was found. Assumes
-- nothing.
use Prim.Native.Nat.{ℕ}
use mathlib.Core.Path.{◌≡◌, refl}
use mathlib.Core.Bool.{Bool, true, false, cond}
use mathlib.Core.List.{List}
use mathlib.Core.Option.{Option, none, some}
use Rattle.std.specs.Prelude.{Result, Ok, Err}
use Rattle.grammar.specs.declared.Unread.{Unread}
use Rattle.grammar.specs.declared.Unread.TheVariants.{NoForm, TooLarge}
use Rattle.grammar.specs.Templates.{limits, numbers_fit, matched}
use Rattle.grammar.specs.Grammar.{nth}
use Rattle.parser.specs.declared.Pair.{Pair}
use Rattle.parser.specs.Pairs.{pair, pair_found, pair_of}

-- a line of the form, whose numbers are within their limits or not
pub record Found (form line : List ℕ) (fits : Bool) : Type 0 where
  pub numbers : List ℕ
  pub shape : matched form line ≡ some numbers
  pub size : numbers_fit (limits form) numbers ≡ fits

-- and the two numbers of one whose numbers are
pub record Holds (form line : List ℕ) (p : Pair) : Type 0 where
  pub found : Found form line true
  pub first : p.first ≡ nth found.numbers 0
  pub second : p.second ≡ nth found.numbers 1

abbrev Answer : Type 0
Answer = Result Pair Unread

module _ (form line : List ℕ) where
  pub line_holds : (p : Pair) → ◌≡◌ {A = Answer} (Ok p) (pair_of form line) → Holds form line p
  unfolding pair_of
  line_holds p read = go (matched form line) refl read
    where
      go : (m : Option (List ℕ)) → matched form line ≡ m → ◌≡◌ {A = Answer} (Ok p) (pair_found form m) → Holds form line p
      go none shape e = absurd (cc)
      go (some ns) shape e = size (numbers_fit (limits form) ns) refl e
        where
          size : (b : Bool) → numbers_fit (limits form) ns ≡ b
              → ◌≡◌ {A = Answer} (Ok p) (cond b (Ok (pair (nth ns 0) (nth ns 1))) (Err TooLarge)) → Holds form line p
          size true fits q =
              let same : p ≡ pair (nth ns 0) (nth ns 1) = cc in record {
                found = record { numbers = ns; shape = shape; size = fits };
                first = rw same refl;
                second = rw same refl;
              }
          size false fits q = absurd (cc)

  pub line_large : ◌≡◌ {A = Answer} (Err TooLarge) (pair_of form line) → Found form line false
  unfolding pair_of
  line_large read = go (matched form line) refl read
    where
      go : (m : Option (List ℕ)) → matched form line ≡ m → ◌≡◌ {A = Answer} (Err TooLarge) (pair_found form m) → Found form line false
      go none shape e = absurd (cc)
      go (some ns) shape e = size (numbers_fit (limits form) ns) refl e
        where
          size : (b : Bool) → numbers_fit (limits form) ns ≡ b
              → ◌≡◌ {A = Answer} (Err TooLarge) (cond b (Ok (pair (nth ns 0) (nth ns 1))) (Err TooLarge)) → Found form line false
          size true fits q = absurd (cc)
          size false fits q = record { numbers = ns; shape = shape; size = fits }

  pub line_unformed : ◌≡◌ {A = Answer} (Err NoForm) (pair_of form line) → matched form line ≡ none
  unfolding pair_of
  line_unformed read = go (matched form line) refl read
    where
      go : (m : Option (List ℕ)) → matched form line ≡ m → ◌≡◌ {A = Answer} (Err NoForm) (pair_found form m)
          → matched form line ≡ none
      go none shape e = shape
      go (some ns) shape e = size (numbers_fit (limits form) ns) e
        where
          size : (b : Bool) → ◌≡◌ {A = Answer} (Err NoForm) (cond b (Ok (pair (nth ns 0) (nth ns 1))) (Err TooLarge))
              → matched form line ≡ none
          size true q = absurd (cc)
          size false q = absurd (cc)
