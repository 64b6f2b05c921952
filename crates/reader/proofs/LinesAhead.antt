-- The lines ahead of a place: the first is the one that is read there, with the line feed that closes it, and the others are
-- those ahead of the place behind it. Assumes nothing.
use Prim.Native.Nat.{ℕ, suc, ◌+◌, ◌-◌, ◌≤◌, ◌<◌}
use mathlib.Core.Path.{◌≡◌, sym, ap, subst, ◌∙◌}
use mathlib.Core.List.{List, [], ◌∷◌, ◌++◌, append_assoc}
use native.Mathlib.Omega.{arith}
use lib.ListN.{length, get_or, take, drop, length-drop, take-append-drop, drop_of_length-le}
use lib.Seq.{drop-cons, drop-drop, drop-length, take-add, take_all}
use Rattle.definitions.proofs.Laws.Tests.{lt_cases}
use Rattle.grammar.specs.Bytes.{line_feed, Unbroken}
use Rattle.grammar.specs.Lines.{lines}
use Rattle.grammar.proofs.LineSplits.{closed_line, open_line}
use Rattle.reader.specs.declared.Span.{Span}
use Rattle.reader.specs.LineSpans.{between, span_at, LineEnd}
use Rattle.reader.proofs.LineEnds.{span_end, span_feed, span_last}

-- where a line feed closes a line
module _ (text : List ℕ) (at end : ℕ) (forth : at ≤ end) (inside : end < length text) (feed : get_or text end 0 ≡ line_feed) where
  from_feed : drop (end - at) (drop at text) ≡ line_feed ∷ drop (suc end) text
  from_feed =
      let whole : at + (end - at) ≡ end = omega arith in
      drop-drop (end - at) at text
      ∙ ap (λ (n : ℕ). drop n text) whole
      ∙ drop-cons text end 0 inside
      ∙ ap (λ (b : ℕ). b ∷ drop (suc end) text) feed

  pub split_closed : drop at text ≡ between text at end ++ line_feed ∷ drop (suc end) text
  split_closed =
      sym (take-append-drop (end - at) (drop at text)) ∙ ap (λ (l : List ℕ). between text at end ++ l) from_feed

  -- the line with its line feed, and the rest
  split_line : drop at text ≡ (between text at end ++ line_feed ∷ []) ++ drop (suc end) text
  split_line = split_closed ∙ sym (append_assoc (between text at end) (line_feed ∷ []) (drop (suc end) text))

  pub between_closed : (upto : ℕ) → end < upto
      → between text at upto ≡ between text at end ++ line_feed ∷ between text (suc end) upto
  between_closed upto past =
      let count : upto - at ≡ (end - at) + suc (upto - suc end) = omega arith in
      ap (λ (n : ℕ). take n (drop at text)) count
      ∙ take-add (end - at) (suc (upto - suc end)) (drop at text)
      ∙ ap (λ (l : List ℕ). between text at end ++ take (suc (upto - suc end)) l) from_feed

  line_closed : between text at (suc end) ≡ between text at end ++ line_feed ∷ []
  line_closed =
      let none : suc end - suc end ≡ 0 = omega arith in
      between_closed (suc end) (omega arith)
      ∙ ap (λ (n : ℕ). between text at end ++ line_feed ∷ take n (drop (suc end) text)) none

  ahead_closed : Unbroken (between text at end) → lines (drop at text) ≡ between text at (suc end) ∷ lines (drop (suc end) text)
  ahead_closed whole =
      ap lines split_line
      ∙ closed_line (between text at end) whole (drop (suc end) text)
      ∙ ap (λ (line : List ℕ). line ∷ lines (drop (suc end) text)) (sym line_closed)

-- bytes that no line feed closes
ahead_open : (text : List ℕ) (at : ℕ) → at < length text → Unbroken (drop at text)
    → lines (drop at text) ≡ between text at (length text) ∷ lines (drop (length text) text)
unfolding lines
ahead_open text at inside whole =
    let bytes : drop at text ≡ get_or text at 0 ∷ drop (suc at) text = drop-cons text at 0 inside in
    ap lines bytes
    ∙ open_line (get_or text at 0) (drop (suc at) text) (subst Unbroken bytes whole)
    ∙ ap (λ (line : List ℕ). line ∷ [])
    (sym bytes ∙ sym (take_all (length text - at) (drop at text) (omega (arith, length-drop at text))))
    ∙ ap (λ (rest : List ℕ). between text at (length text) ∷ lines rest) (sym (drop-length text))

pub lines_none : (text : List ℕ) (at : ℕ) → length text ≤ at → lines (drop at text) ≡ []
unfolding lines
lines_none text at past = ap lines (drop_of_length-le text past)

pub span_within : (text : List ℕ) (at : ℕ) (span : Span) → span ≡ span_at text at → at ≤ length text → span.next ≤ length text
span_within text at span read inside =
    let l = span_end text at span read inside in
    lt_cases span.end (length text)
    (λ feed. omega (arith, span_feed text at span read feed))
    (λ past. omega (arith, span_last text at span read past, l.within))

-- a place behind a line that begins at another, and what is ahead of both
pub record Passed (text : List ℕ) (at next : ℕ) : Type 0 where
  pub forth : at < next
  pub within : next ≤ length text
  pub ahead : lines (drop at text) ≡ between text at next ∷ lines (drop next text)

pub span_passed : (text : List ℕ) (at : ℕ) (span : Span) → span ≡ span_at text at → at < length text
    → Passed text at span.next
span_passed text at span read inside = lt_cases span.end (length text) closed unclosed
  where
    l : LineEnd text at span.end
    l = span_end text at span read (omega arith)

    closed : span.end < length text → Passed text at span.next
    closed feed =
        subst (Passed text at) (sym (span_feed text at span read feed))
        record {
          forth = omega (arith, l.forth);
          within = feed;
          ahead = ahead_closed text at span.end l.forth feed (l.closed feed) l.unbroken;
        }

    unclosed : length text ≤ span.end → Passed text at span.next
    unclosed past =
        let last : span.end ≡ length text = omega (arith, l.within) in
        let all = take_all (span.end - at) (drop at text) (omega (arith, length-drop at text)) in
        subst (Passed text at) (sym (span_last text at span read past ∙ last))
        record {
          forth = inside;
          within = omega arith;
          ahead = ahead_open text at inside (subst Unbroken all l.unbroken);
        }
