-- Each way through it is a law of PacketSent or DummySent.
use Rattle.std.proofs.Common.{arith, sym, ◌∙◌}
use Rattle.definitions.specs.Sizes.{ids}
use Rattle.tables.specs.Tables.{field}
use Rattle.slot.proofs.PacketSent.{unmarked_none}
use Rattle.slot.proofs.DummySent.{dummy-spent, idle-spent}
use Rattle.slot.proofs.send.Goals as goal

pub returns-then-pool-gt0 : goal.returns-then-pool-gt0
unfolding ids field
returns-then-pool-gt0 c terms counts sender =
    dummy-spent _ _ _ sender (unmarked_none _ _ _ sender (sym c.has.ensures ∙ c.if-has.false)) c.if-pool-gt0.true

pub returns : goal.returns
unfolding ids field
returns c terms counts sender =
    idle-spent _ _ _ sender (unmarked_none _ _ _ sender (sym c.has.ensures ∙ c.if-has.false))
    (omega (arith, c.if-pool-gt0.false))
