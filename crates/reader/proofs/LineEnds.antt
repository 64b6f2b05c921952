-- Where a line ends: found byte by byte, and what holds there. Assumes nothing.
use Prim.Native.Nat.{ℕ, suc, ◌+◌, ◌-◌, ◌≤◌, ◌<◌}
use mathlib.Core.Path.{◌≡◌, refl, sym, ap, subst, ◌∙◌}
use mathlib.Core.Bool.{Bool, true, false}
use mathlib.Core.Logic.{◌≢◌}
use mathlib.Core.List.{List, [], ◌∷◌}
use native.Mathlib.Omega.{arith}
use native.Mathlib.Numerals.{add-one}
use lib.Dec.{eqb}
use lib.ListN.{length, get_or, take, drop, length-drop}
use lib.Seq.{drop-cons, get_or-drop}
use borrow.Author.Tests.{eqb-true, eqb-false, eq-eqb, ne_eqb, lt-ltb, le-ltb}
use Rattle.grammar.specs.Bytes.{line_feed, Unbroken}
use Rattle.reader.specs.declared.Span.{Span}
use Rattle.reader.specs.LineSpans.{line_length, line_end, after_line, span_at, LineEnd}

-- ---- one byte further
feed_first : (b : ℕ) (bs : List ℕ) → b ≡ line_feed → line_length (b ∷ bs) ≡ 0
feed_first b bs e = rw (line_length, eq-eqb b line_feed e) refl

other_first : (b : ℕ) (bs : List ℕ) → b ≢ line_feed → line_length (b ∷ bs) ≡ suc (line_length bs)
other_first b bs other = rw (line_length, ne_eqb b line_feed other) refl

none_first : (bs : List ℕ) → length bs ≡ 0 → line_length bs ≡ 0
none_first [] e = refl
none_first (b ∷ bs) e = absurd (omega arith)

module _ (text : List ℕ) (at : ℕ) where
  -- at the end of the text
  pub end_last : length text ≤ at → at ≡ line_end text at
  unfolding line_end
  end_last past = omega (arith, none_first (drop at text) (omega (arith, length-drop at text)))

  -- at a line feed
  pub end_feed : at < length text → get_or text at 0 ≡ line_feed → at ≡ line_end text at
  unfolding line_end
  end_feed inside feed =
      rw (drop-cons text at 0 inside) (omega (arith, feed_first (get_or text at 0) (drop (suc at) text) feed))

  -- at any other byte the line goes on
  pub end_other : at < length text → get_or text at 0 ≢ line_feed → line_end text at ≡ line_end text (at + 1)
  unfolding line_end
  end_other inside other =
      rw (add-one at, drop-cons text at 0 inside) (omega (arith, other_first (get_or text at 0) (drop (suc at) text) other))

-- ---- the place behind a line
module _ (text : List ℕ) (end : ℕ) where
  pub after_line_feed : end < length text → end + 1 ≡ after_line text end
  unfolding after_line
  after_line_feed inside = rw (after_line, lt-ltb end (length text) inside) refl

  pub after_line_last : length text ≤ end → end ≡ after_line text end
  unfolding after_line
  after_line_last past = rw (after_line, le-ltb end (length text) past) refl

-- ---- what holds at the end of a line
record Cut (bs : List ℕ) (n : ℕ) : Type 0 where
  short : n ≤ length bs
  whole : Unbroken (take n bs)
  closed : n < length bs → get_or bs n 0 ≡ line_feed

cut_first : (b : ℕ) (bs : List ℕ) (n : ℕ) → Cut bs n → (t : Bool) → eqb b line_feed ≡ t
    → Cut (b ∷ bs) (elim t [ true ↦ 0 | false ↦ suc n ])
cut_first b bs n c true e = record { short = omega arith; whole = tt; closed = λ inside. eqb-true b line_feed e }
cut_first b bs n c false e = record {
  short = omega arith;
  whole = (eqb-false b line_feed e, c.whole);
  closed = λ inside. c.closed (omega arith);
}

cut : (bs : List ℕ) → Cut bs (line_length bs)
cut [] = record { short = omega arith; whole = tt; closed = λ inside. absurd (omega arith) }
cut (b ∷ bs) = cut_first b bs (line_length bs) (cut bs) (eqb b line_feed) refl

pub line_ends : (text : List ℕ) (at : ℕ) → at ≤ length text → LineEnd text at (line_end text at)
unfolding line_end
line_ends text at inside =
    let n : ℕ = line_length (drop at text) in
    let size : length (drop at text) ≡ length text - at = length-drop at text in
    let here : (at + n) - at ≡ n = omega arith in
    let c = cut (drop at text) in
    record {
      forth = omega arith;
      within = omega (arith, c.short);
      unbroken = rw here c.whole;
      closed = λ more. sym (get_or-drop at text n 0) ∙ c.closed (omega arith);
    }

-- ---- a line that was read
module _ (text : List ℕ) (at : ℕ) (span : Span) (read : span ≡ span_at text at) where
  span_next : span.next ≡ after_line text span.end
  span_next = ap (λ (p : Span). p.next) read ∙ ap (λ (p : Span). after_line text p.end) (sym read)

  pub span_end : at ≤ length text → LineEnd text at span.end
  span_end inside = subst (LineEnd text at) (ap (λ (p : Span). p.end) (sym read)) (line_ends text at inside)

  pub span_feed : span.end < length text → span.next ≡ suc span.end
  span_feed inside = span_next ∙ sym (after_line_feed text span.end inside) ∙ add-one span.end

  pub span_last : length text ≤ span.end → span.next ≡ span.end
  span_last past = span_next ∙ sym (after_line_last text span.end past)
