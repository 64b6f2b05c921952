-- `parser::threshold` meets its contract: what refuses the line is its form's, and else its number is the form's one. Assumes
-- nothing.
use mathlib.Core.Path.{refl, sym, ◌∙◌}
use native.Mathlib.Omega.{arith}
use Rattle.std.proofs.lemmas.Result.{err_from_is_err_and}
use Rattle.definitions.specs.Sizes.{number_limit}
use Rattle.grammar.specs.Templates.{limits_in}
use Rattle.parser.specs.Texts.{plain}
use Rattle.parser.proofs.Forms.{read_placed, read_within}
use Rattle.parser.proofs.PairReads.{one-alone, pair_refused, pair_read}
use Rattle.parser.proofs.threshold.Goals as goal

pub read_form-requires : goal.read_form-requires
unfolding plain limits_in
read_form-requires c = record { bare = refl; room = record { sized = refl; enough = omega arith } }

pub returns-in_err-read_form : goal.returns-in_err-read_form
returns-in_err-read_form c =
    let p = err_from_is_err_and c.from_residual.result c.from_residual.ensures.1 in
    rw (p.1, p.2) (pair_refused c.in_err-read_form.ensures)

pub overflow_cast-result : goal.overflow_cast-result
unfolding limits_in number_limit
overflow_cast-result c = omega (arith, read_within c.in_ok-read_form.ensures 0 (omega arith))

pub returns : goal.returns
unfolding limits_in
returns c =
    sym (pair_read c.in_ok-read_form.ensures
    ∙ rw (read_placed c.in_ok-read_form.ensures 0 (omega arith), one-alone c.read_form.new.numbers))
