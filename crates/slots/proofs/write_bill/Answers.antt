-- `slots::write_bill` meets its contract: the buffer has room for a line of every id, and what was written of it are the lines. Assumes
-- nothing.
use Rattle.std.proofs.Common.{subst, rules}
use Rattle.definitions.specs.Sizes.{ids}
use Rattle.streams.specs.Writing.{HandedOn}
use Rattle.bill.specs.Billed.{bill_room}
use Rattle.slots.proofs.write_bill.Goals as goal

pub returns : goal.returns
unfolding bill_room ids
returns g c = subst (HandedOn _) (c.bill-written.ensures.told (search rules)) c.write_to.ensures
