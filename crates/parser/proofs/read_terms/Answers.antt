-- `parser::read_terms` meets its contract: the first of the two forms that fits decides, whichever call they are of.
-- Assumes nothing.
use mathlib.Core.Path.{◌≡◌, refl, ◌∙◌}
use mathlib.Core.List.{[]}
use native.Mathlib.Omega.{arith}
use Rattle.std.proofs.lemmas.Result.{err_from_is_err_and}
use Rattle.definitions.specs.Sizes.{number_limit, private_kind, indifferent_kind}
use Rattle.grammar.specs.Bytes.{bytes}
use Rattle.grammar.specs.Templates.{limits_in, gaps}
use Rattle.grammar.specs.Grammar.{terms_forms}
use Rattle.parser.proofs.Forms.{read_placed, read_within, rule_fits, rule_large, rule_off, only_refused}
use Rattle.parser.proofs.read_terms.Goals as goal

pub read_as-requires : goal.read_as-requires
unfolding limits_in
read_as-requires c = record { sized = refl; enough = omega arith }

pub overflow_cast-result : goal.overflow_cast-result
unfolding limits_in number_limit
overflow_cast-result c = omega (arith, read_within c.in-Ok.ensures 0 (omega arith))

pub overflow_cast-result-in-Ok : goal.overflow_cast-result-in-Ok
unfolding limits_in number_limit
overflow_cast-result-in-Ok c = omega (arith, read_within c.in-Ok.ensures 1 (omega arith))

pub returns-in-Ok : goal.returns-in-Ok
unfolding terms_forms limits_in private_kind
returns-in-Ok c =
    let read = c.in-Ok.ensures in
    λ call. rule_fits _ _ _ read ∙ rw (read_placed read 0 (omega arith), read_placed read 1 (omega arith))

pub returns-in-Err-TooLarge : goal.returns-in-Err-TooLarge
unfolding terms_forms
returns-in-Err-TooLarge c = λ call. rule_large _ _ _ (rw c.in-Err-TooLarge.field-0-is at c.in-Err-TooLarge.ensures)

pub read_as-requires-2 : goal.read_as-requires-2
unfolding limits_in
read_as-requires-2 c = record { sized = c.in-Err-NoForm.ensures.sized; enough = omega arith }

pub returns-in_err-read_as : goal.returns-in_err-read_as
unfolding terms_forms
returns-in_err-read_as c =
    let p = err_from_is_err_and c.from_residual.result c.from_residual.ensures.1 in
    rw (p.1, p.2) (λ call. rule_off _ _ _ (rw c.in-Err-NoForm.field-0-is at c.in-Err-NoForm.ensures) ∙ only_refused _ _ c.in_err-read_as.ensures)

pub overflow_cast-result-2 : goal.overflow_cast-result-2
unfolding limits_in number_limit
overflow_cast-result-2 c = omega (arith, read_within c.in_ok-read_as.ensures 0 (omega arith))

pub overflow_cast-result-3 : goal.overflow_cast-result-3
unfolding limits_in number_limit
overflow_cast-result-3 c = omega (arith, read_within c.in_ok-read_as.ensures 1 (omega arith))

pub overflow_cast-result-4 : goal.overflow_cast-result-4
unfolding limits_in number_limit
overflow_cast-result-4 c = omega (arith, read_within c.in_ok-read_as.ensures 2 (omega arith))

-- how many numbers there are, for a proof that does not compute the limits
indifferent_gaps : gaps (bytes "# (indifferent # #))") ≡ 3
unfolding limits_in
indifferent_gaps = refl

pub returns : goal.returns
unfolding terms_forms indifferent_kind
returns c =
    let at = read_placed c.in_ok-read_as.ensures in
    λ call. rule_off _ _ _ (rw c.in-Err-NoForm.field-0-is at c.in-Err-NoForm.ensures)
    ∙ rule_fits _ [] _ c.in_ok-read_as.ensures
    ∙ rw (at 0 (omega (arith, indifferent_gaps)), at 1 (omega (arith, indifferent_gaps)), at 2 (omega (arith, indifferent_gaps)))
