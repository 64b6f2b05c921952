-- `settings::keeps_kind` meets its contract: an active client that is not indifferent is private. Assumes nothing.
use mathlib.Core.Path.{sym, ap, ◌∙◌}
use mathlib.Core.Bool.{not}
use Rattle.tables.specs.Meaning.{kind_at}
use Rattle.tables.proofs.MarkedKinds.{kind_indifferent}
use Rattle.settings.proofs.Remarks.{same_kind-indifferent, same_kind-private}
use Rattle.settings.proofs.keeps_kind.Goals as goal

pub returns-in-Indifferent : goal.returns-in-Indifferent
returns-in-Indifferent c =
    let a = c.args in
    rw c.in-Indifferent.is
    (c.has.ensures ∙ sym (same_kind-indifferent (kind_at a.control a.id) ∙ kind_indifferent a.control a.id))

pub returns-in-Private : goal.returns-in-Private
returns-in-Private c =
    let a = c.args in
    rw c.in-Private.is
    (ap not (c.has-in-Private.ensures ∙ sym (kind_indifferent a.control a.id))
    ∙ sym (same_kind-private (kind_at a.control a.id) c.requires))
