-- The lines so far and those that are left are all of them.
use Rattle.std.proofs.Common.{length}
use Rattle.fairsheet.proofs.RateRoom.{LinesPut}
use Rattle.fairsheet.proofs.put_rates.Given as goal

abbrev pub invariant-loop-id : goal.invariant-loop-id
invariant-loop-id l = LinesPut l.listed l.rates l.initial.out l.out l.at (length l.yielded)
