-- The sum wraps at 64 bits.
use Rattle.std.proofs.Common.{refl}
use Rattle.definitions.specs.Sizes.{count_span}
use Rattle.definitions.specs.Counts.{wrapped, wrapped_plus}
use Rattle.counts.specs.CountTable.{count_in, count_named}
use Rattle.counts.proofs.CountEntries.{column_below, entered_raised}
use Rattle.counts.proofs.raise.Goals as goal

pub returns : goal.returns
unfolding count_span wrapped wrapped_plus count_in
returns c =
    rw (c.put.ensures, c.count_of-count.ensures)
    (entered_raised _ _ c.requires _ _ (column_below (count_named c.args.counted)) (count_named c.args.counted) refl)
