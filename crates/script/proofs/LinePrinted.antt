-- What the first line ahead prints, and behind it what is ahead then; and core and counts behind it. Assumes nothing.
use Prim.Native.Nat.{ℕ, suc, ◌-◌, ◌≤◌, ◌<◌}
use mathlib.Core.Path.{◌≡◌, sym, ap, ◌∙◌}
use mathlib.Core.List.{List, [], ◌∷◌, ◌++◌, append_assoc, append-nil}
use native.Mathlib.Omega.{arith}
use lib.ListN.{length, get_or, take, drop, length-drop, drop_of_length-le}
use lib.Seq.{drop-cons, take_all, take-nil}
use Rattle.definitions.specs.Sizes.{handle_limit}
use Rattle.definitions.specs.State.{Core}
use Rattle.definitions.specs.Counts.{Whole}
use Rattle.std.specs.Prelude.{Err}
use Rattle.grammar.specs.declared.Unread.TheVariants.{NoForm}
use Rattle.grammar.specs.declared.Audience.{Audience}
use Rattle.grammar.specs.Bytes.{line_feed, Unbroken}
use Rattle.grammar.specs.Grammar.{parsed}
use Rattle.grammar.specs.Printout.{answered, shown, printed_from, printed_from_in, whole_by, left_from_in, whole_from}
use Rattle.grammar.proofs.Lines.{line_closed, line_open, left_closed, left_open}
use Rattle.reader.specs.LineSpans.{between}
use Rattle.reader.proofs.LinesAhead.{split_closed, between_closed}
use Rattle.script.specs.Pieces.{ahead, left_behind}

-- nothing is ahead behind the last byte
pub ahead_none : (to : Audience) (core : Core) (text : List ℕ) (at : ℕ) → length text ≤ at → ahead to core text at ≡ []
unfolding printed_from_in
ahead_none to core text at past = ap (printed_from to core []) (drop_of_length-le text past)

-- and up to the place itself no byte is passed
pub left_here : (w : Whole) (text : List ℕ) (at : ℕ) → left_behind w text at at ≡ w
unfolding left_from_in
left_here w text at = let none : at - at ≡ 0 = omega arith in ap (λ (n : ℕ). whole_from w [] (take n (drop at text))) none

-- nor behind the last byte
pub left_past : (w : Whole) (text : List ℕ) (at upto : ℕ) → length text ≤ at → left_behind w text at upto ≡ w
unfolding left_from_in
left_past w text at upto past =
    ap (whole_from w []) (ap (take (upto - at)) (drop_of_length-le text past) ∙ take-nil (upto - at))

-- where a line feed closes a line
module _ (text : List ℕ) (at end : ℕ) (forth : at ≤ end) (inside : end < length text) (feed : get_or text end 0 ≡ line_feed) where
  pub closed_left : (w : Whole) → Unbroken (between text at end) → (upto : ℕ) → suc end ≤ upto
      → left_behind (whole_by w (parsed (between text at end))) text (suc end) upto ≡ left_behind w text at upto
  closed_left w whole upto past =
      sym (ap (whole_from w []) (between_closed text at end forth inside feed upto past)
      ∙ left_closed handle_limit whole_by w (between text at end) (between text (suc end) upto) whole)

-- bytes that no line feed closes leave core and counts
pub open_left : (w : Whole) (text : List ℕ) (at : ℕ) → at ≤ length text → Unbroken (drop at text)
    → (upto : ℕ) → length text ≤ upto
    → left_behind w text (length text) upto ≡ left_behind w text at upto
open_left w text at inside whole upto past =
    let all = take_all (upto - at) (drop at text) (omega (arith, length-drop at text)) in
    left_past w text (length text) upto (omega arith)
    ∙ sym (ap (whole_from w []) all ∙ left_open handle_limit whole_by w (drop at text) whole)

module _ (to : Audience) (core : Core) (text : List ℕ) (at : ℕ) (before after : List ℕ) where
  -- a line that a line feed closes
  module _ (end : ℕ) (forth : at ≤ end) where
    pub closed_printed : end < length text
        → get_or text end 0 ≡ line_feed
        → Unbroken (between text at end)
        → after ≡ before ++ shown to core (parsed (between text at end))
        → after ++ ahead to (answered core (parsed (between text at end))).core text (suc end) ≡ before ++ ahead to core text at
    closed_printed inside feed whole wrote =
        let line = between text at end in
        let split = split_closed text at end forth inside feed in
        let first = ap (printed_from to core []) split ∙ line_closed handle_limit to core line (drop (suc end) text) whole in
        ap (λ (l : List ℕ). l ++ ahead to (answered core (parsed line)).core text (suc end)) wrote
        ∙ append_assoc before _ _
        ∙ ap (λ (l : List ℕ). before ++ l) (sym first)

  -- bytes that no line feed closes
  pub open_printed : at < length text
      → Unbroken (drop at text)
      → after ≡ before ++ shown to core (Err NoForm)
      → after ++ ahead to core text (length text) ≡ before ++ ahead to core text at
  open_printed inside whole wrote =
      let bytes : drop at text ≡ get_or text at 0 ∷ drop (suc at) text = drop-cons text at 0 inside in
      let last = ap (printed_from to core []) bytes ∙ line_open handle_limit to core (get_or text at 0) (drop (suc at) text) (rw bytes at whole) in
      ap (λ (l : List ℕ). after ++ l) (ahead_none to core text (length text) (omega arith))
      ∙ append-nil after
      ∙ wrote
      ∙ ap (λ (l : List ℕ). before ++ l) (sym last)
