-- `parser::terms_behind` meets its contract: a line that does not begin with the text is no form behind it, and else what stands
-- behind the text decides. Assumes nothing.
use mathlib.Core.Path.{◌∙◌}
use Rattle.std.specs.Prelude.{Some, None}
use Rattle.std.proofs.lemmas.Slice.Eq.{strip_prefix_is}
use Rattle.grammar.specs.Grammar.{terms_forms}
use Rattle.parser.proofs.Texts.{same_bytes, forms_other, forms_behind}
use Rattle.parser.proofs.terms_behind.Goals as goal

pub returns-in_default : goal.returns-in_default
returns-in_default c =
    λ call. forms_other _ _ c.requires (terms_forms call)
    (strip_prefix_is same_bytes _ _ None (rw c.in_default.is at c.strip_prefix.ensures.cases))

pub returns : goal.returns
returns c =
    λ call. forms_behind _ _ c.requires (terms_forms call) _
    (strip_prefix_is same_bytes _ _ (Some c.in-Some.behind) c.in-Some.ensures.cases)
    ∙ c.read_terms.ensures call
