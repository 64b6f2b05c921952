-- What one form of the grammar makes of a line: its call, 17 where a number is too large, and else what the later forms make.
-- Which forms have to be tried shows in the line's second byte. Assumes nothing.
use Prim.Native.Nat.{ℕ, zero, suc, ◌≤◌, ◌<◌}
use mathlib.Core.Path.{◌≡◌, refl, sym, ◌∙◌, ap}
use mathlib.Core.Bool.{Bool, true, false, cond, not, ◌&&◌, true≢false}
use mathlib.Core.List.{List, [], ◌∷◌, ◌++◌}
use mathlib.Core.Option.{Option, none, some}
use native.Mathlib.Omega.{arith}
use borrow.Author.Tests.{leb-true, ltb-false, eqb-false, not-true}
use lib.Dec.{leb, ltb, eqb}
use lib.ListN.{length, get_or, take}
use lib.Seq.{get_or-take}
use Rattle.definitions.proofs.Laws.Tests.{and_both}
use Rattle.std.specs.Prelude.{Some, Ok, Err, slice_get}
use Rattle.grammar.specs.declared.Unread.{Unread}
use Rattle.grammar.specs.declared.Unread.TheVariants.{NoForm, TooLarge}
use Rattle.grammar.specs.Templates.{is_gap, limits, gaps, numbers_fit, matched}
use Rattle.grammar.specs.Grammar.{Rule, nth, sized_in, or_else, parsed_by, parsed_by_in}
use Rattle.parser.specs.Readings.{Verdict, verdict, Reads}
use Rattle.parser.proofs.TemplateWalk.{second_misfits}

-- ---- a form that was read

-- a number that fits is within its limit
fits-within : (ls ns : List ℕ) → numbers_fit ls (take (length ls) ns) ≡ true → (i : ℕ) → i < length ls → nth ns i ≤ nth ls i
unfolding numbers_fit
fits-within [] ns e i h = absurd (omega arith)
fits-within (l ∷ ls) [] e i h = omega arith
fits-within (l ∷ ls) (n ∷ ns) e zero h = leb-true n l (and_both (leb n l) _ e).0
fits-within (l ∷ ls) (n ∷ ns) e (suc i) h = fits-within ls ns (and_both (leb n l) _ e).1 i (omega arith)

verdict-fits : (t ns : List ℕ) {x : Unit {0}} → Ok x ≡ verdict t (some ns) → numbers_fit (limits t) ns ≡ true
verdict-fits t ns {x} e = go (numbers_fit (limits t) ns) e
  where
    go : (b : Bool) → ◌≡◌ {A = Verdict} (Ok x) (cond b (Ok tt) (Err TooLarge)) → b ≡ true
    go true q = refl
    go false q = absurd (cc)

module _ {template line : List ℕ} {x : Unit {0}} {numbers : List ℕ} (read : Reads template line (Ok x) numbers) where
  pub read_fits : numbers_fit (limits template) (take (gaps template) numbers) ≡ true
  read_fits = verdict-fits template _ (read.answer ∙ ap (verdict template) read.places)

  -- the numbers are the first of what was lent
  pub read_placed : (i : ℕ) → i < gaps template → nth (take (gaps template) numbers) i ≡ nth numbers i
  read_placed i h = get_or-take (gaps template) numbers i 0 h

  pub read_within : (i : ℕ) → i < gaps template → nth numbers i ≤ nth (limits template) i
  read_within i h = fits-within (limits template) numbers read_fits i h

-- where no form is left, the line is none
pub no_rule : (line : List ℕ) → parsed_by [] line ≡ Err NoForm
unfolding parsed_by_in
no_rule line = refl

module _ (r : Rule) (rs : List Rule) (line : List ℕ) {numbers : List ℕ} where
  pub rule_fits : {x : Unit {0}} → Reads r.template line (Ok x) numbers
      → parsed_by (r ∷ rs) line ≡ Ok (r.makes (take (gaps r.template) numbers))
  unfolding parsed_by_in sized_in
  rule_fits read = rw (read.places, read_fits read)

  -- a form that is refused has a number that is too large, or leaves the line to those behind it
  pub rule_large : Reads r.template line (Err TooLarge) numbers → parsed_by (r ∷ rs) line ≡ Err TooLarge
  unfolding parsed_by_in sized_in
  rule_large read = go (matched r.template line) read.answer
    where
      go : (found : Option (List ℕ)) → Err TooLarge ≡ verdict r.template found
          → or_else r found (parsed_by rs line) ≡ Err TooLarge
      go none q = absurd (cc)
      go (some ns) q = size (numbers_fit (limits r.template) ns) q
        where
          size : (b : Bool) → ◌≡◌ {A = Verdict} (Err TooLarge) (cond b (Ok tt) (Err TooLarge))
              → cond b (Ok (r.makes ns)) (Err TooLarge) ≡ Err TooLarge
          size true q = absurd (cc)
          size false q = refl

  pub rule_off : Reads r.template line (Err NoForm) numbers → parsed_by (r ∷ rs) line ≡ parsed_by rs line
  unfolding parsed_by_in
  rule_off read = go (matched r.template line) read.answer
    where
      go : (found : Option (List ℕ)) → Err NoForm ≡ verdict r.template found
          → or_else r found (parsed_by rs line) ≡ parsed_by rs line
      go none q = refl
      go (some ns) q = size (numbers_fit (limits r.template) ns) q
        where
          size : (b : Bool) → ◌≡◌ {A = Verdict} (Err NoForm) (cond b (Ok tt) (Err TooLarge))
              → or_else r (some ns) (parsed_by rs line) ≡ parsed_by rs line
          size true q = absurd (cc)
          size false q = absurd (cc)

-- a line that can have one form only
pub only_refused : (r : Rule) (line : List ℕ) {unread : Unread} {numbers : List ℕ} → Reads r.template line (Err unread) numbers
    → parsed_by (r ∷ []) line ≡ Err unread
only_refused r line {unread} read = go unread read
  where
    go : (u : Unread) {numbers : List ℕ} → Reads r.template line (Err u) numbers → parsed_by (r ∷ []) line ≡ Err u
    go NoForm read = rule_off r [] line read ∙ no_rule line
    go TooLarge read = rule_large r [] line read

-- a form that does not fit leaves the line to those behind it, and one without numbers has none that is too large
pub rule_missed : (r : Rule) (rs : List Rule) (line : List ℕ) → matched r.template line ≡ none
    → parsed_by (r ∷ rs) line ≡ parsed_by rs line
unfolding parsed_by_in
rule_missed r rs line e = rw e

pub rule-bare : (r : Rule) (rs : List Rule) (line : List ℕ) → matched r.template line ≡ some [] → limits r.template ≡ []
    → parsed_by (r ∷ rs) line ≡ Ok (r.makes [])
unfolding parsed_by_in sized_in numbers_fit
rule-bare r rs line e bare = rw (e, bare)

-- what stands behind the forms that are tried does not matter where it gives 16
pub behind-none : (rs after : List Rule) (line : List ℕ) → parsed_by after line ≡ Err NoForm
    → parsed_by (rs ++ after) line ≡ parsed_by rs line
unfolding parsed_by_in
behind-none [] after line e = e
behind-none (r ∷ rs) after line e = ap (or_else r (matched r.template line)) (behind-none rs after line e)

-- ---- the forms with a line's second byte

-- whether a template has no number in its first two places, and another second byte
unfoldable pub unlike : ℕ → List ℕ → Bool
unlike letter [] = false
unlike letter (b ∷ []) = false
unlike letter (b ∷ c ∷ cs) = not (is_gap b) && (not (is_gap c) && not (eqb letter c))

-- what a line's second byte is, where one was read
pub second_is : (line : List ℕ) {b letter : ℕ} → 1 < length line → b ≡ get_or line 1 0 → b ≡ letter
    → (c : ℕ) → slice_get line 1 ≡ Some c → letter ≡ c
second_is [] long here e c q = absurd (omega arith)
second_is (x ∷ []) long here e c q = absurd (omega arith)
second_is (x ∷ y ∷ ys) long here e c q = cc

pub second-none : (line : List ℕ) {letter : ℕ} → false ≡ ltb 1 (length line) → (c : ℕ) → slice_get line 1 ≡ Some c → letter ≡ c
second-none [] short c q = absurd (cc)
second-none (x ∷ []) short c q = absurd (cc)
second-none (x ∷ y ∷ ys) short c q = absurd (omega (arith, ltb-false 1 (length (x ∷ y ∷ ys)) (sym short)))

-- the forms that a line with this second byte may have
unfoldable pub like : ℕ → List Rule → List Rule
like letter [] = []
like letter (r ∷ rs) = cond (unlike letter r.template) (like letter rs) (r ∷ like letter rs)

module _ (line : List ℕ) {letter : ℕ} (second : (c : ℕ) → slice_get line 1 ≡ Some c → letter ≡ c) where
  unlike_misfits : (template : List ℕ) → unlike letter template ≡ true → matched template line ≡ none
  unfolding unlike
  unlike_misfits [] e = absurd (true≢false (sym e))
  unlike_misfits (b ∷ []) e = absurd (true≢false (sym e))
  unlike_misfits (b ∷ c ∷ cs) e =
      let first = and_both (not (is_gap b)) _ e in
      let rest = and_both (not (is_gap c)) _ first.1 in
      second_misfits b c cs line (not-true _ first.0) (not-true _ rest.0)
      (λ q. eqb-false letter c (not-true _ rest.1) (second c q))

  -- only these have to be tried
  pub only_like : (rs : List Rule) → parsed_by rs line ≡ parsed_by (like letter rs) line
  unfolding parsed_by_in like
  only_like [] = refl
  only_like (r ∷ rs) = go (unlike letter r.template) refl (only_like rs)
    where
      go : (t : Bool) → unlike letter r.template ≡ t → parsed_by rs line ≡ parsed_by (like letter rs) line
          → parsed_by (r ∷ rs) line ≡ parsed_by (cond t (like letter rs) (r ∷ like letter rs)) line
      go true e rest = rule_missed r rs line (unlike_misfits r.template e) ∙ rest
      go false e rest = ap (or_else r (matched r.template line)) rest
