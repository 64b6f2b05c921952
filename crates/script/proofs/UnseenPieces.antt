-- Places where no packet waits do not show in what is printed: pieces go by what the tables mean, and chain. Assumes nothing.
use Prim.Native.Nat.{ℕ, ◌≤◌}
use mathlib.Core.Path.{◌≡◌, refl, sym, ap, ◌∙◌}
use mathlib.Core.List.{List, ◌++◌, append_cancel_right}
use native.Mathlib.Omega.{arith}
use Rattle.definitions.specs.Counts.{Whole}
use Rattle.tables.specs.declared.Control.{Control}
use Rattle.tables.specs.declared.Tables.{Tables}
use Rattle.tables.specs.Meaning.{core_of, whole_of}
use Rattle.tables.proofs.UnusedPlaces.{whole_same, unused_unseen}
use Rattle.grammar.specs.declared.Audience.{Audience}
use Rattle.script.specs.Pieces.{ahead, left_behind}
use Rattle.script.specs.UnseenOnPaper.{PiecesFrom, here, piece, lines_of, UnseenOnPaper}
use Rattle.script.proofs.LinePrinted.{left_here}
use Rattle.script.proofs.PiecesPrinted.{piece_printed, piece_alike}

module _ {to : Audience} {text : List ℕ} {from : ℕ} {c : Control} {t : Tables} where
  -- what was written, with what is ahead, is what was ahead
  from_printed : {bytes : List ℕ} {at : ℕ} {d : Control} {u : Tables} → PiecesFrom to text from c t bytes at d u
      → bytes ++ ahead to (core_of d u) text at ≡ ahead to (core_of c t) text from
  from_printed here = refl
  from_printed (piece {bytes} w p) = piece_printed bytes p (from_printed w)

  -- and core and counts go on as those before do
  from_alike : {bytes : List ℕ} {at : ℕ} {d : Control} {u : Tables} → PiecesFrom to text from c t bytes at d u
      → (upto : ℕ) → at ≤ upto
      → left_behind (whole_of d u) text at upto ≡ left_behind (whole_of c t) text from upto
  from_alike here upto past = refl
  from_alike (piece w p) upto past = piece_alike p (λ place behind. from_alike w place behind) upto past

  from_left : {bytes : List ℕ} {at : ℕ} {d : Control} {u : Tables} → PiecesFrom to text from c t bytes at d u
      → whole_of d u ≡ left_behind (whole_of c t) text from at
  from_left {at = at} {d} {u} w = sym (left_here (whole_of d u) text at) ∙ from_alike w at (omega arith)

pub unseen_on_paper : UnseenOnPaper
unseen_on_paper = record {
  calls = λ c t u valid differ first second d e v w x y same.
      ap lines_of ((unused_unseen.indistinct c t u valid differ).calls x y same).0;
  script = λ to text from c t u valid differ first second at d e v w x y.
      let before = whole_same c t u valid differ in
      let after : whole_of e w ≡ whole_of d v =
      from_left y ∙ ap (λ (k : Whole). left_behind k text from at) before ∙ sym (from_left x) in (
        append_cancel_right second first (ahead to (core_of d v) text at)
            (ap (λ (k : Whole). second ++ ahead to k.core text at) (sym after)
            ∙ from_printed y ∙ ap (λ (k : Whole). ahead to k.core text from) before ∙ sym (from_printed x)),
        after,
      );
}
