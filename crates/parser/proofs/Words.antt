-- What a word is, by what the parser finds at its front. Assumes nothing.
use Prim.Native.Nat.{ℕ, ◌≤◌, ◌<◌}
use mathlib.Core.Path.{◌≡◌, sym, ap, ◌∙◌}
use mathlib.Core.Bool.{false}
use mathlib.Core.List.{List, []}
use native.Mathlib.Omega.{arith}
use borrow.Author.Tests.{eq-eqb, ne_eqb, le-leb, lt-leb}
use lib.ListN.{length}
use Rattle.definitions.specs.Sizes.{number_limit}
use Rattle.grammar.specs.Numerals.{leading, behind, is_numeral, value_from}
use Rattle.parser.specs.declared.Numeral.{Numeral}
use Rattle.std.specs.Prelude.{Some, None}
use Rattle.parser.specs.Numbers.{Spelled}
use Rattle.parser.proofs.NumeralWalk.{limit_kept, limit_passed}
use Rattle.parser.specs.Words.{word_of}

pub word_unspelled : (word : List ℕ) → is_numeral (leading word) ≡ false → None ≡ word_of word
unfolding word_of
word_unspelled word e = rw e

module _ {word : List ℕ} {n : Numeral} (s : Spelled number_limit word n) where
  pub word-longer : 0 < length n.rest.now → None ≡ word_of word
  unfolding word_of
  word-longer h = rw (s.right, ne_eqb (length (behind word)) 0 (λ z. omega (arith, ap length s.after)))

  module _ (h : n.rest.now ≡ []) where
    alone : length (behind word) ≡ 0
    alone = ap length (sym s.after ∙ h)

    pub word_over : n.value ≡ None → None ≡ word_of word
    unfolding word_of
    word_over e =
        rw (s.right, eq-eqb _ _ alone, lt-leb (value_from 0 (leading word)) number_limit (limit_passed (sym e ∙ s.amount)))

    module _ {value : ℕ} (e : n.value ≡ Some value) where
      pub word_fits : value ≤ number_limit
      word_fits = let kept = limit_kept (sym e ∙ s.amount) in omega (arith, kept.0, kept.1)

      pub word_number : Some value ≡ word_of word
      unfolding word_of
      word_number =
          let kept = limit_kept (sym e ∙ s.amount) in
          rw (s.right, eq-eqb _ _ alone, le-leb (value_from 0 (leading word)) number_limit kept.1, kept.0)
