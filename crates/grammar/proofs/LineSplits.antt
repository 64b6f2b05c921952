-- How bytes fall into lines: an unbroken line is the first of the lines of what it stands before, and every printed answer is one
-- line, since the templates end at their one line feed and digits are none. By induction over the bytes. Assumes nothing.
use Prim.Native.Nat.{ℕ}
use mathlib.Core.Path.{◌≡◌, refl, sym, ap, ◌∙◌}
use mathlib.Core.Bool.{Bool, true, false, cond}
use mathlib.Core.List.{List, [], ◌∷◌, ◌++◌, append_assoc, append-nil}
use lib.Dec.{eqb}
use borrow.Author.Tests.{eqb-true, ne_eqb}
use Rattle.definitions.specs.declared.Outcome.TheVariants.{Real, Dummy, Idle, None}
use Rattle.definitions.specs.declared.Answer.{Answer}
use Rattle.definitions.specs.declared.Answer.TheVariants.{Accepted, Refused, Slot}
use Rattle.definitions.specs.Answers.{values}
use Rattle.definitions.proofs.Laws.Tests.{true-false}
use Rattle.std.specs.Prelude.{Err}
use Rattle.grammar.specs.declared.Unread.TheVariants.{NoForm}
use Rattle.grammar.specs.Bytes.{bytes, line_feed, Unbroken}
use Rattle.grammar.specs.Numerals.{decimal}
use Rattle.grammar.specs.Templates.{is_gap, filled}
use Rattle.grammar.specs.Grammar.{parsed}
use Rattle.grammar.specs.Printout.{printed}
use Rattle.grammar.specs.Lines.{at_front, lines, held_from, held}
use Rattle.grammar.proofs.Decimals.{decimal_unbroken}
use Rattle.grammar.proofs.ReadBack.{filled_byte, filled_gap}

-- ---- the first line of some bytes

-- bytes that are one line of whatever they stand before
abbrev pub OneLine : List ℕ → Type 0
OneLine line = (rest : List ℕ) → lines (line ++ rest) ≡ line ∷ lines rest

feed_line : OneLine (line_feed ∷ [])
unfolding lines
feed_line rest = refl

byte_line : (b : ℕ) (line : List ℕ) → eqb b line_feed ≡ false → OneLine line → OneLine (b ∷ line)
unfolding lines
byte_line b line other one rest = rw (other, one rest)

unbroken_line : (bs line : List ℕ) → Unbroken bs → OneLine line → OneLine (bs ++ line)
unbroken_line [] line whole one = one
unbroken_line (b ∷ bs) line whole one =
    byte_line b (bs ++ line) (ne_eqb b line_feed whole.0) (unbroken_line bs line whole.1 one)

-- a line that is closed, and one that is not
pub closed_line : (bs : List ℕ) → Unbroken bs → OneLine (bs ++ line_feed ∷ [])
closed_line bs whole = unbroken_line bs (line_feed ∷ []) whole feed_line

pub open_line : (b : ℕ) (bs : List ℕ) → Unbroken (b ∷ bs) → lines (b ∷ bs) ≡ (b ∷ bs) ∷ []
unfolding lines
open_line b [] whole = rw (ne_eqb b line_feed whole.0)
open_line b (c ∷ bs) whole = rw (ne_eqb b line_feed whole.0) (ap (at_front b) (open_line c bs whole.1))

-- ---- what a line holds

held_on : (line bs rest : List ℕ) → Unbroken bs → held_from line (bs ++ rest) ≡ held_from (line ++ bs) rest
unfolding held_from
held_on line [] rest whole = ap (λ (l : List ℕ). held_from l rest) (sym (append-nil line))
held_on line (b ∷ bs) rest whole =
    rw (held_from, ne_eqb b line_feed whole.0)
    (held_on (line ++ (b ∷ [])) bs rest whole.1 ∙ ap (λ (l : List ℕ). held_from l rest) (append_assoc line (b ∷ []) bs))

pub held_closed : (bs : List ℕ) → Unbroken bs → held (bs ++ line_feed ∷ []) ≡ parsed bs
unfolding held_from
held_closed bs whole = held_on [] bs (line_feed ∷ []) whole

pub held_open : (bs : List ℕ) → Unbroken bs → held bs ≡ Err NoForm
unfolding held_from
held_open bs whole = ap held (sym (append-nil bs)) ∙ held_on [] bs [] whole

-- ---- a printed answer is one line

-- whether the one line feed of a template is its last byte
abbrev is_nil : List ℕ → Bool
is_nil [] = true
is_nil (b ∷ bs) = false

unfoldable pub is_line : List ℕ → Bool
is_line [] = false
is_line (b ∷ bs) = cond (eqb b line_feed) (is_nil bs) (is_line bs)

pub filled_line : (t ns : List ℕ) → is_line t ≡ true → OneLine (filled t ns)
unfolding is_line filled
filled_line [] ns e = true-false e refl
filled_line (b ∷ bs) ns e = go (eqb b line_feed) refl (is_gap b) refl e ns (λ ms q. filled_line bs ms q)
  where
    go : (f : Bool) → eqb b line_feed ≡ f → (g : Bool) → is_gap b ≡ g → cond f (is_nil bs) (is_line bs) ≡ true → (ns : List ℕ)
        → ((ms : List ℕ) → is_line bs ≡ true → OneLine (filled bs ms))
        → OneLine (filled (b ∷ bs) ns)
    go true f g h e ns rest = feed bs e
      where
        feed : (cs : List ℕ) → is_nil cs ≡ true → OneLine (filled (b ∷ cs) ns)
        feed [] q = rw (eqb-true b line_feed f, filled_byte line_feed [] ns refl) feed_line
        feed (c ∷ cs) q = true-false q refl
    go false f true h e [] rest = byte_line b (filled bs []) f (rest [] e)
    go false f true h e (n ∷ ns) rest =
        rw (filled_gap b bs n ns h) (unbroken_line (decimal n) (filled bs ns) (decimal_unbroken n) (rest ns e))
    go false f false h e ns rest = rw (filled_byte b bs ns h) (byte_line b (filled bs ns) f (rest ns e))

pub printed_line : (answer : Answer) → OneLine (printed answer)
unfolding printed is_line filled
printed_line Accepted = filled_line (bytes "(ok)\n") [] refl
printed_line (Refused n) = filled_line (bytes "(refused #)\n") (n ∷ []) refl
printed_line (Slot (Real id p padding)) = filled_line (bytes "(slot (real # @ # #))\n") (values (Real id p padding)) refl
printed_line (Slot (Dummy id)) = filled_line (bytes "(slot (dummy #))\n") (values (Dummy id)) refl
printed_line (Slot (Idle id)) = filled_line (bytes "(slot (idle #))\n") (values (Idle id)) refl
printed_line (Slot None) = filled_line (bytes "(slot (none))\n") (values None) refl
