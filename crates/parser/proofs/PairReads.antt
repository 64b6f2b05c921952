-- What a form with one number or two finds, from what reading it answers: what refuses the line, and else its numbers. By the
-- cases of what the form fits. Assumes nothing.
use Prim.Native.Nat.{ℕ}
use mathlib.Core.Path.{◌≡◌, refl}
use mathlib.Core.Bool.{Bool, true, false, cond}
use mathlib.Core.List.{List, [], ◌∷◌}
use mathlib.Core.Option.{Option, none, some}
use lib.ListN.{take}
use Rattle.std.specs.Prelude.{Ok, Err}
use Rattle.grammar.specs.declared.Unread.{Unread}
use Rattle.grammar.specs.declared.Unread.TheVariants.{TooLarge}
use Rattle.grammar.specs.Templates.{limits, gaps, numbers_fit, matched}
use Rattle.grammar.specs.Grammar.{nth}
use Rattle.parser.specs.Readings.{Verdict, verdict, Reads}
use Rattle.parser.specs.Pairs.{pair, pair_found, pair_of}
use Rattle.parser.proofs.Forms.{read_fits}

-- where a form has one number, there is no second
pub one-alone : (numbers : List ℕ) → nth (take 1 numbers) 1 ≡ 0
one-alone [] = refl
one-alone (n ∷ ns) = refl

module _ {form line : List ℕ} {numbers : List ℕ} where
  pub pair_refused : {unread : Unread} → Reads form line (Err unread) numbers → Err unread ≡ pair_of form line
  unfolding pair_of
  pair_refused {unread} read = go (matched form line) read.answer
    where
      go : (found : Option (List ℕ)) → Err unread ≡ verdict form found → Err unread ≡ pair_found form found
      go none e = cc
      go (some ns) e = size (numbers_fit (limits form) ns) e
        where
          size : (b : Bool) → ◌≡◌ {A = Verdict} (Err unread) (cond b (Ok tt) (Err TooLarge))
              → Err unread ≡ cond b (Ok (pair (nth ns 0) (nth ns 1))) (Err TooLarge)
          size true q = absurd (cc)
          size false q = cc

  -- the numbers are the form's
  pub pair_read : {x : Unit {0}} → Reads form line (Ok x) numbers
      → pair_of form line ≡ Ok (pair (nth (take (gaps form) numbers) 0) (nth (take (gaps form) numbers) 1))
  unfolding pair_of
  pair_read read = rw (read.places, read_fits read)
