-- `settings::burst_fits` meets its contract: the kind decides which bound is asked. Assumes nothing.
use mathlib.Core.Path.{sym}
use Rattle.definitions.specs.Sizes.{indifferent_kind, private_kind, burst_limit}
use Rattle.definitions.specs.Checks.{burst_fits}
use Rattle.definitions.proofs.Laws.Tests.{told_within}
use Rattle.settings.proofs.burst_fits.Goals as goal

pub returns-in-Indifferent : goal.returns-in-Indifferent
unfolding burst_fits indifferent_kind burst_limit
returns-in-Indifferent c =
    let n = c.new.ensures in
    rw c.in-Indifferent.is (sym (told_within 1 64 c.args.burst (rw (n.start, n.end, n.exhausted) at c.contains.ensures.value)))

pub returns-in-Private : goal.returns-in-Private
unfolding burst_fits indifferent_kind private_kind
returns-in-Private c = rw c.in-Private.is
