-- `fair::write_printout` meets its contract: what it lends has room for all rates, and what was written of it is the printout. Assumes
-- nothing.
use Rattle.std.proofs.Common.{subst, rules}
use Rattle.definitions.specs.Sizes.{ids}
use Rattle.streams.specs.Writing.{HandedOn}
use Rattle.fair.proofs.write_printout.Goals as goal

pub returns : goal.returns
unfolding ids
returns g c = subst (HandedOn _) (c.print-written.ensures.told (search rules)) c.write_to.ensures
