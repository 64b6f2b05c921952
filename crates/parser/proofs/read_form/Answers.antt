-- `parser::read_form` meets its contract: a line that does not begin with the text is refused, and else what stands behind it
-- decides. Assumes nothing.
use Rattle.std.specs.Prelude.{Some, None}
use Rattle.std.proofs.lemmas.Slice.Eq.{strip_prefix_is}
use Rattle.parser.proofs.Texts.{same_bytes, read_other, read_behind}
use Rattle.parser.proofs.read_form.Goals as goal

pub returns-in_default : goal.returns-in_default
returns-in_default c =
    read_other _ _ _ c.requires.bare
    (strip_prefix_is same_bytes _ _ None (rw c.in_default.is at c.strip_prefix.ensures.cases))
    c.requires.room.sized

pub returns : goal.returns
returns c =
    read_behind _ _ _ c.requires.bare (strip_prefix_is same_bytes _ _ (Some c.in-Some.behind) c.in-Some.ensures.cases)
    c.read_as.ensures
