-- `parser::parse` meets its contract: of the forms only those with the line's second byte have to be tried. Assumes nothing.
use mathlib.Core.Path.{refl, sym, ◌∙◌}
use native.Mathlib.Omega.{arith}
use borrow.Author.Tests.{ne_eqb}
use Rattle.grammar.specs.Grammar.{rules, parsed_in}
use Rattle.grammar.proofs.AllForms.{forms}
use Rattle.parser.proofs.Forms.{second_is, second-none, no_rule, unlike, like, only_like}
use Rattle.parser.proofs.parse.Goals as goal

pub returns-in-111 : goal.returns-in-111
unfolding forms parsed_in like unlike
returns-in-111 c =
    c.parse_open.ensures
    ∙ sym (only_like _ (second_is _ c.in-Some.ensures.lookup.3.0 (c.in-Some.ensures.lookup.3.1 0) c.in-111.is) rules)

pub returns-in-106 : goal.returns-in-106
unfolding forms parsed_in like unlike
returns-in-106 c =
    c.parse_join.ensures
    ∙ sym (only_like _ (second_is _ c.in-Some.ensures.lookup.3.0 (c.in-Some.ensures.lookup.3.1 0) c.in-106.is) rules)

pub returns-in-99 : goal.returns-in-99
unfolding forms parsed_in like unlike
returns-in-99 c =
    c.parse_change.ensures
    ∙ sym (only_like _ (second_is _ c.in-Some.ensures.lookup.3.0 (c.in-Some.ensures.lookup.3.1 0) c.in-99.is) rules)

pub returns-in-108 : goal.returns-in-108
unfolding forms parsed_in like unlike
returns-in-108 c =
    c.parse_leave_or_load.ensures
    ∙ sym (only_like _ (second_is _ c.in-Some.ensures.lookup.3.0 (c.in-Some.ensures.lookup.3.1 0) c.in-108.is) rules)

pub returns-in-97 : goal.returns-in-97
unfolding forms parsed_in like unlike
returns-in-97 c =
    c.parse_arrive.ensures
    ∙ sym (only_like _ (second_is _ c.in-Some.ensures.lookup.3.0 (c.in-Some.ensures.lookup.3.1 0) c.in-97.is) rules)

pub returns-in-116 : goal.returns-in-116
unfolding forms parsed_in like unlike
returns-in-116 c =
    c.parse_tick.ensures
    ∙ sym (only_like _ (second_is _ c.in-Some.ensures.lookup.3.0 (c.in-Some.ensures.lookup.3.1 0) c.in-116.is) rules)

pub returns-in_default : goal.returns-in_default
unfolding forms parsed_in like unlike
returns-in_default c =
    let none = rw c.in_default.is at c.get.ensures.lookup.0 in
    sym (only_like _ {letter = 0} (second-none _ none) rules ∙ no_rule _)

pub returns-in_default-second : goal.returns-in_default-second
unfolding forms parsed_in like unlike
returns-in_default-second c =
    let x = c.in-Some.second.now in
    sym
    (only_like _ (second_is _ c.in-Some.ensures.lookup.3.0 (c.in-Some.ensures.lookup.3.1 0) refl) rules
    ∙ rw (
      ne_eqb x 111 (omega arith),
      ne_eqb x 106 (omega arith),
      ne_eqb x 99 (omega arith),
      ne_eqb x 108 (omega arith),
      ne_eqb x 97 (omega arith),
      ne_eqb x 116 (omega arith),
    ) (no_rule _))
