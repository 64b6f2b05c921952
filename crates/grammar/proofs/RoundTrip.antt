-- What a form of the grammar writes is read as that form, or as 17: for every rule, and as many numbers as it takes, of any size.
-- The rule's template reads its numbers back, and the rules before it differ from it at a fixed byte, which antt computes; so any
-- line that fits a rule is read by it.
use Prim.Native.Nat.{ℕ}
use mathlib.Core.Path.{◌≡◌, refl, ◌∙◌}
use mathlib.Core.Bool.{true}
use mathlib.Core.List.{List, Memᴰ}
use Rattle.definitions.specs.Checks.{within}
use mathlib.Core.Option.{some}
use Rattle.grammar.specs.Numerals.{is_digit}
use Rattle.grammar.specs.Templates.{matched}
use Rattle.grammar.specs.Grammar.{Rule, rules, sized_in, parsed_by_in, parsed_in}
use Rattle.grammar.specs.RoundTrip.{written, Takes, RoundTrip, TooLarge}
use Rattle.grammar.proofs.AllForms.{forms}
use Rattle.grammar.proofs.ReadBack.{clear, spaced, apart, filled-matched}
use Rattle.grammar.proofs.Phrases.{apart_from, separate, separate_parts, separate_spaced, before_misfits}

pub rules_separate : separate rules ≡ true
unfolding separate apart_from apart spaced clear forms is_digit within
rules_separate = refl

module _ (handles : ℕ) where
  -- among separate rules the one that fits a line reads it: the rules before it do not fit
  pub fitting_read : {r : Rule} {rs : List Rule} → Memᴰ r rs → separate rs ≡ true
      → (line : List ℕ) {numbers : List ℕ} → matched r.template line ≡ some numbers
      → parsed_by_in handles rs line ≡ sized_in handles r numbers
  unfolding parsed_by_in
  fitting_read {r} (Memᴰ.head {x} {xs} p) e line f = rw (← p, f)
  fitting_read {r} (Memᴰ.tail {x} {xs} m) e line f =
      let s = separate_parts x xs e in
      rw (before_misfits m s line f) (fitting_read m s.others line f)

  -- so the one that wrote a line reads it
  written_read : {r : Rule} → Memᴰ r rules → (numbers : List ℕ) → Takes r numbers
      → parsed_in handles (written r numbers) ≡ sized_in handles r numbers
  unfolding parsed_in written
  written_read {r} m numbers k =
      fitting_read m rules_separate (written r numbers)
      (filled-matched r.template numbers (separate_spaced m rules_separate) k)

pub round_trip : RoundTrip
unfolding RoundTrip sized_in
round_trip handles r m numbers k fit = written_read handles m numbers k ∙ rw fit

pub too_large : TooLarge
unfolding TooLarge sized_in
too_large handles r m numbers k large = written_read handles m numbers k ∙ rw large
