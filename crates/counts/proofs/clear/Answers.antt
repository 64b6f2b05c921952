-- Each of the six becomes 0.
use Rattle.definitions.specs.Counts.{column}
use Rattle.counts.proofs.CountEntries.{entered_anew}
use Rattle.counts.proofs.clear.Goals as goal

pub returns : goal.returns
unfolding column
returns c =
    rw (c.put-6.ensures, c.put-5.ensures, c.put-4.ensures, c.put-3.ensures, c.put-2.ensures, c.put.ensures)
    (entered_anew _ _ c.requires)
