-- `parser::parse_join` meets its contract: the terms behind its text are those of its call. Assumes nothing.
use mathlib.Core.Path.{refl, sym}
use Rattle.std.proofs.lemmas.Result.{err_from_is_err_and}
use Rattle.grammar.specs.declared.Call.TheVariants.{Join}
use Rattle.grammar.specs.Grammar.{join_forms}
use Rattle.parser.specs.Texts.{plain}
use Rattle.parser.proofs.parse_join.Goals as goal

pub terms_behind-requires : goal.terms_behind-requires
unfolding plain
terms_behind-requires c = refl

pub returns-in_err-terms : goal.returns-in_err-terms
unfolding join_forms
returns-in_err-terms c =
    let p = err_from_is_err_and c.from_residual.result c.from_residual.ensures.1 in
    rw (p.1, p.2) (sym (c.in_err-terms.ensures (λ id kind rate burst. Join id kind rate burst)))

pub returns : goal.returns
unfolding join_forms
returns c = sym (c.in_ok-terms.ensures (λ id kind rate burst. Join id kind rate burst))
