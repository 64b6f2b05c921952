-- A text goes line by line: what a closed line prints stands before what the rest prints, and bytes behind the last line
-- feed print one refusal; the core behind a closed line is the one that the rest begins with. By induction over the line's
-- bytes, none of which is a line feed. Assumes nothing.
use Prim.Native.Nat.{ℕ}
use mathlib.Core.Path.{◌≡◌, refl, sym, ap, ◌∙◌}
use mathlib.Core.Logic.{◌≢◌}
use mathlib.Core.Bool.{Bool, true, false}
use mathlib.Core.List.{List, [], ◌∷◌, ◌++◌, append_assoc, append-nil}
use lib.Dec.{eqb}
use borrow.Author.Tests.{ne_eqb}
use Rattle.definitions.specs.State.{Core}
use Rattle.definitions.specs.Counts.{Whole, whole_after}
use Rattle.grammar.specs.Unread.{Line}
use Rattle.std.specs.Prelude.{Ok, Err}
use Rattle.grammar.specs.declared.Unread.TheVariants.{NoForm}
use Rattle.grammar.specs.declared.Audience.{Audience}
use Rattle.grammar.specs.Bytes.{line_feed, Unbroken}
use Rattle.grammar.specs.Grammar.{parsed_in}
use Rattle.grammar.specs.Printout.{answered, shown, printed_from_in, core_by, whole_by, left_from_in, core_from_in}

module _ (handles : ℕ) (to : Audience) (core : Core) where
  -- a byte that is no line feed joins the line
  pub joins : (line : List ℕ) (b : ℕ) (text : List ℕ) → b ≢ line_feed
      → printed_from_in handles to core line (b ∷ text) ≡ printed_from_in handles to core (line ++ (b ∷ [])) text
  unfolding printed_from_in
  joins [] b text other = rw (ne_eqb b line_feed other, printed_from_in)
  joins (x ∷ line) b text other = rw (ne_eqb b line_feed other, printed_from_in)

  read : (line bs text : List ℕ) → Unbroken bs → printed_from_in handles to core line (bs ++ text) ≡ printed_from_in handles to core (line ++ bs) text
  read line [] text whole = ap (λ (l : List ℕ). printed_from_in handles to core l text) (sym (append-nil line))
  read line (b ∷ bs) text whole =
      joins line b (bs ++ text) whole.0
      ∙ read (line ++ (b ∷ [])) bs text whole.1
      ∙ ap (λ (l : List ℕ). printed_from_in handles to core l text) (append_assoc line (b ∷ []) bs)

  pub closes : (line text : List ℕ)
      → printed_from_in handles to core line (line_feed ∷ text)
      ≡ shown to core (parsed_in handles line) ++ printed_from_in handles to (answered core (parsed_in handles line)).core [] text
  unfolding printed_from_in
  closes [] text = refl
  closes (x ∷ line) text = refl

  pub line_closed : (line text : List ℕ)
      → Unbroken line
      → printed_from_in handles to core [] (line ++ line_feed ∷ text)
      ≡ shown to core (parsed_in handles line) ++ printed_from_in handles to (answered core (parsed_in handles line)).core [] text
  line_closed line text whole = read [] line (line_feed ∷ text) whole ∙ closes line text

  pub line_open : (b : ℕ) (bs : List ℕ) → Unbroken (b ∷ bs) → printed_from_in handles to core [] (b ∷ bs) ≡ shown to core (Err NoForm)
  unfolding printed_from_in
  line_open b bs whole =
      ap (printed_from_in handles to core []) (sym (append-nil (b ∷ bs))) ∙ read [] (b ∷ bs) [] whole

-- ---- what a text leaves: the core behind it, or the core with its counts

module _ (handles : ℕ) {A : Type 0} (by : A → Line → A) (a : A) where
  pub left_joins : (line bs text : List ℕ) → Unbroken bs
      → left_from_in handles by a line (bs ++ text) ≡ left_from_in handles by a (line ++ bs) text
  unfolding left_from_in
  left_joins line [] text whole = ap (λ (l : List ℕ). left_from_in handles by a l text) (sym (append-nil line))
  left_joins line (b ∷ bs) text whole =
      rw (ne_eqb b line_feed whole.0, left_from_in)
      (left_joins (line ++ (b ∷ [])) bs text whole.1
      ∙ ap (λ (l : List ℕ). left_from_in handles by a l text) (append_assoc line (b ∷ []) bs))

  pub left_closes : (line text : List ℕ)
      → left_from_in handles by a line (line_feed ∷ text) ≡ left_from_in handles by (by a (parsed_in handles line)) [] text
  unfolding left_from_in
  left_closes line text = refl

  pub left_closed : (line text : List ℕ)
      → Unbroken line
      → left_from_in handles by a [] (line ++ line_feed ∷ text) ≡ left_from_in handles by (by a (parsed_in handles line)) [] text
  left_closed line text whole = left_joins [] line (line_feed ∷ text) whole ∙ left_closes line text

  pub left_open : (bs : List ℕ) → Unbroken bs → left_from_in handles by a [] bs ≡ a
  unfolding left_from_in
  left_open bs whole = ap (left_from_in handles by a []) (sym (append-nil bs)) ∙ left_joins [] bs [] whole

-- the core goes as it goes without its counts
pub whole_core : (handles : ℕ) (w : Whole) (line text : List ℕ)
    → (left_from_in handles whole_by w line text).core ≡ core_from_in handles w.core line text
unfolding left_from_in whole_by whole_after answered
whole_core handles w line [] = refl
whole_core handles w line (b ∷ text) =
    go (eqb b line_feed) (left_from_in handles whole_by (whole_by w (parsed_in handles line)) [] text)
    (left_from_in handles whole_by w (line ++ (b ∷ [])) text)
    (whole_core handles (whole_by w (parsed_in handles line)) [] text
    ∙ ap (λ (c : Core). core_from_in handles c [] text) (by_line_lem (parsed_in handles line)))
    (whole_core handles w (line ++ (b ∷ [])) text)
  where
    by_line_lem : (l : Line) → (whole_by w l).core ≡ core_by w.core l
    by_line_lem (Ok call) = refl
    by_line_lem (Err unread) = refl

    go : (fed : Bool) (x y : Whole) {p q : Core} → x.core ≡ p → y.core ≡ q
        → (elim fed as (λ t. Whole) [ true ↦ x | false ↦ y ]).core ≡ elim fed [ true ↦ p | false ↦ q ]
    go true x y e f = e
    go false x y e f = f
