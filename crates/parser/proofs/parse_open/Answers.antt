-- `parser::parse_open` meets its contract: what refuses the line is its form's, and else the numbers are those of its call.
-- Assumes nothing.
use mathlib.Core.Path.{refl, sym, ◌∙◌}
use mathlib.Core.List.{[]}
use native.Mathlib.Omega.{arith}
use Rattle.std.proofs.lemmas.Result.{err_from_is_err_and}
use Rattle.definitions.specs.Sizes.{number_limit}
use Rattle.grammar.specs.Templates.{limits_in}
use Rattle.grammar.specs.Grammar.{open_forms}
use Rattle.parser.specs.Texts.{plain}
use Rattle.parser.proofs.Forms.{read_placed, read_within, rule_fits, only_refused}
use Rattle.parser.proofs.parse_open.Goals as goal

pub read_form-requires : goal.read_form-requires
unfolding plain limits_in
read_form-requires c = record { bare = refl; room = record { sized = refl; enough = omega arith } }

pub returns-in_err-read_form : goal.returns-in_err-read_form
unfolding open_forms
returns-in_err-read_form c =
    let p = err_from_is_err_and c.from_residual.result c.from_residual.ensures.1 in
    rw (p.1, p.2) (sym (only_refused _ _ c.in_err-read_form.ensures))

pub overflow_cast-result : goal.overflow_cast-result
unfolding limits_in number_limit
overflow_cast-result c = omega (arith, read_within c.in_ok-read_form.ensures 0 (omega arith))

pub overflow_cast-result-2 : goal.overflow_cast-result-2
unfolding limits_in number_limit
overflow_cast-result-2 c = omega (arith, read_within c.in_ok-read_form.ensures 1 (omega arith))

pub overflow_cast-result-3 : goal.overflow_cast-result-3
unfolding limits_in number_limit
overflow_cast-result-3 c = omega (arith, read_within c.in_ok-read_form.ensures 2 (omega arith))

pub returns : goal.returns
unfolding open_forms limits_in
returns c =
    let at = read_placed c.in_ok-read_form.ensures in
    sym (rule_fits _ [] _ c.in_ok-read_form.ensures ∙ rw (at 0 (omega arith), at 1 (omega arith), at 2 (omega arith)))
