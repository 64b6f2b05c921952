-- The rates of the demands that are left are what is left to write.
use Rattle.std.proofs.Common.{◌≡◌, drop}
use Rattle.std.proofs.lemmas.List.Edits.{sets}
use Rattle.definitions.specs.FairRates.{rates_at}
use Rattle.maxmin.proofs.put_rates.Given as goal

abbrev pub invariant-loop-i : goal.invariant-loop-i
invariant-loop-i l =
    sets l.rates l.i (rates_at l.level l.rest (drop l.i l.demands)) ≡ sets l.initial.rates 0 (rates_at l.level l.left l.demands)
