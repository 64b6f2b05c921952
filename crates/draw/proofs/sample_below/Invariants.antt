-- From the value that is next the definitions take the same sample as from the first one; the throws that are left are those not
-- made in the steps so far.
use Rattle.std.proofs.Common.{◌≡◌, ◌-◌, ◌≤◌, suc}
use Rattle.definitions.specs.Sizes.{throws}
use Rattle.definitions.specs.Sample.{sample_from}
use Rattle.draw.proofs.sample_below.Given as goal

abbrev pub invariant-loop-next : goal.invariant-loop-next
invariant-loop-next l =
    (sample_from l.total (suc throws - l.steps) l.steps l.next.value ≡ sample_from l.total throws 1 l.initial.next.value)
    × (1 ≤ l.steps) × (l.steps ≤ suc throws)

abbrev pub decreases-loop-next : goal.decreases-loop-next
decreases-loop-next l = suc throws - l.steps
