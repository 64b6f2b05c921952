-- `settings::withdraw` meets its contract: only an indifferent client has places in the order. Assumes nothing.
use Rattle.std.proofs.Common.{rules, ◌≡◌, true, false, sym}
use mathlib.Core.Path.{◌∙◌}
use Rattle.definitions.specs.Sizes.{ids}
use Rattle.definitions.specs.Client.{is_indifferent}
use Rattle.tables.specs.Tables.{field}
use Rattle.tables.specs.Meaning.{kind_at}
use Rattle.tables.proofs.MarkedKinds.{kind_indifferent}
use Rattle.settings.proofs.Withdrawing.{withdrawn_none}
use Rattle.settings.proofs.withdraw.Goals as goal

pub bounds-stocks-id : goal.bounds-stocks-id
unfolding ids
bounds-stocks-id c = search rules

pub overflow_add-id-then-has : goal.overflow_add-id-then-has
unfolding ids
overflow_add-id-then-has c = search rules

pub bounds-stocks-id-then-has : goal.bounds-stocks-id-then-has
unfolding ids
bounds-stocks-id-then-has c = search rules

pub unlink_ring-requires : goal.unlink_ring-requires
unfolding ids field
unlink_ring-requires c = search rules

pub returns-then-has-clause-withdraws : goal.returns-then-has-clause-withdraws
unfolding ids field
returns-then-has-clause-withdraws c order o p =
    let a = c.args in
    let plain : is_indifferent (kind_at a.control a.id) ≡ true =
    kind_indifferent a.control a.id ∙ sym c.has.ensures ∙ c.if-has.true in
    c.unlink_ring.ensures.by_index order o (rw plain at p)

pub returns-else-has-clause-withdraws : goal.returns-else-has-clause-withdraws
returns-else-has-clause-withdraws c order o p =
    let a = c.args in
    let dull : is_indifferent (kind_at a.control a.id) ≡ false =
    kind_indifferent a.control a.id ∙ sym c.has.ensures ∙ c.if-has.false in
    withdrawn_none _ _ order o (rw dull at p)
