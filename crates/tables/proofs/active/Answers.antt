-- `tables::active` meets its contract: an id is active where it has either mark. Assumes nothing.
use mathlib.Core.Path.{sym, ◌∙◌}
use Rattle.definitions.proofs.Laws.Kinds.{active_private}
use Rattle.tables.specs.Meaning.{kind_at}
use Rattle.tables.proofs.active.Goals as goal

pub returns-then-has : goal.returns-then-has
unfolding kind_at
returns-then-has c = rw (sym c.has.ensures ∙ c.if-has.true) c.if-has.true

pub returns-else-has : goal.returns-else-has
unfolding kind_at
returns-else-has c =
    rw (sym c.has.ensures ∙ c.if-has.false, sym c.has-else-has.ensures) (active_private c.has-else-has.result)
