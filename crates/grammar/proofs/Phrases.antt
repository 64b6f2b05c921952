-- Phrases of which each differs from those before it at a fixed byte: of such phrases at most one fits a line, so what the first that
-- fits makes of it is what that one makes. That they differ is a test, which antt computes. Assumes nothing.
use Prim.Native.Nat.{ℕ}
use mathlib.Core.Path.{◌≡◌}
use mathlib.Core.Bool.{Bool, true, ◌&&◌, and-eq-true_iff}
use mathlib.Core.List.{List, [], ◌∷◌, Memᴰ}
use mathlib.Core.Option.{some, none}
use Rattle.grammar.specs.Templates.{matched, Phrase}
use Rattle.grammar.proofs.ReadBack.{spaced, apart, apart_matched}

-- whether a phrase differs from each of some others, and each of some phrases from those before it
unfoldable pub apart_from : {A : Type 0} → Phrase A → List (Phrase A) → Bool
apart_from q [] = true
apart_from q (r ∷ rs) = apart q.template r.template && apart_from q rs

unfoldable pub separate : {A : Type 0} → List (Phrase A) → Bool
separate [] = true
separate (q ∷ rs) = spaced q.template && (apart_from q rs && separate rs)

module _ {A : Type 0} where
  apart_from_lem : (q : Phrase A) {r : Phrase A} {rs : List (Phrase A)} → Memᴰ r rs → apart_from q rs ≡ true
      → apart q.template r.template ≡ true
  unfolding apart_from
  apart_from_lem q (Memᴰ.head {x} {xs} p) e =
      rw p ((and-eq-true_iff (apart q.template x.template) (apart_from q xs)).0 e).0
  apart_from_lem q (Memᴰ.tail {x} {xs} m) e =
      apart_from_lem q m ((and-eq-true_iff (apart q.template x.template) (apart_from q xs)).0 e).1

  -- what the test says of a first phrase and of the others
  pub record Separate (q : Phrase A) (rs : List (Phrase A)) : Type 0 where
    pub spacing : spaced q.template ≡ true
    pub first : apart_from q rs ≡ true
    pub others : separate rs ≡ true

  pub separate_parts : (q : Phrase A) (rs : List (Phrase A)) → separate (q ∷ rs) ≡ true → Separate q rs
  unfolding separate
  separate_parts q rs e =
      let o = (and-eq-true_iff (spaced q.template) (apart_from q rs && separate rs)).0 e in
      let p = (and-eq-true_iff (apart_from q rs) (separate rs)).0 o.1 in
      record { spacing = o.0; first = p.0; others = p.1 }

  pub separate_spaced : {r : Phrase A} {rs : List (Phrase A)} → Memᴰ r rs → separate rs ≡ true → spaced r.template ≡ true
  separate_spaced (Memᴰ.head {x} {xs} p) e = rw p (separate_parts x xs e).spacing
  separate_spaced (Memᴰ.tail {x} {xs} m) e = separate_spaced m (separate_parts x xs e).others

  -- a phrase that stands before one that fits does not fit
  pub before_misfits : {q r : Phrase A} {rs : List (Phrase A)} → Memᴰ r rs → Separate q rs → (line : List ℕ) {numbers : List ℕ}
      → matched r.template line ≡ some numbers
      → matched q.template line ≡ none
  before_misfits {q} {r} m s line f = apart_matched q.template r.template line (apart_from_lem q m s.first) f
