-- `parser::parse_tick` meets its contract: its form has no numbers, so it is one text. Assumes nothing.
use Rattle.std.proofs.Common.{◌≡◌, ◌≤◌, ◌++◌, ◌∷◌, [], ℕ, List, length, refl, sym, ap, ◌∙◌, Some, None, arith}
use Rattle.std.proofs.lemmas.Slice.Eq.{strip_prefix_is}
use Rattle.grammar.specs.Bytes.{bytes}
use Rattle.grammar.specs.Grammar.{tick_forms}
use Rattle.grammar.specs.Templates.{limits_in}
use Rattle.parser.specs.Texts.{plain}
use Rattle.parser.proofs.Forms.{no_rule, rule_missed, rule-bare}
use Rattle.parser.proofs.Texts.{same_bytes, not-begun, whole_line, other_line}
use Rattle.parser.proofs.parse_tick.Goals as goal

no_more : (l : List ℕ) → length l ≤ 0 → l ≡ []
no_more [] h = refl
no_more (x ∷ xs) h = absurd (omega arith)

pub returns-in_default : goal.returns-in_default
unfolding tick_forms plain
returns-in_default c =
    sym
    (rule_missed _ [] _
    (not-begun (bytes "(tick)") [] _ refl (strip_prefix_is same_bytes _ (bytes "(tick)") None (rw c.in_default.is at c.strip_prefix.ensures.cases)))
    ∙ no_rule _)

pub returns-then-rest-gt0 : goal.returns-then-rest-gt0
unfolding tick_forms plain
returns-then-rest-gt0 c =
    let begun = strip_prefix_is same_bytes c.args.line.now (bytes "(tick)") (Some c.in-Some.rest) c.in-Some.ensures.cases in
    sym
    (rule_missed _ [] _ (other_line (bytes "(tick)") _ refl (λ e. omega (arith, ap length e, ap length begun)))
    ∙ no_rule _)

pub returns : goal.returns
unfolding tick_forms plain limits_in
returns c =
    let begun = strip_prefix_is same_bytes c.args.line.now (bytes "(tick)") (Some c.in-Some.rest) c.in-Some.ensures.cases in
    let none : c.in-Some.rest.now ≡ [] = no_more _ (omega arith) in
    sym (rule-bare _ [] _ (whole_line (bytes "(tick)") _ refl (begun ∙ ap (λ (r : List ℕ). bytes "(tick)" ++ r) none)) refl)
