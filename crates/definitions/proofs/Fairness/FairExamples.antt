-- The examples beside the claims on fair rates, computed. Assumes nothing.
use mathlib.Core.Path.{refl}
use native.Mathlib.Omega.{arith}
use Rattle.definitions.specs.Sizes.{ids, shares}
use Rattle.definitions.specs.Checks.{within}
use Rattle.definitions.specs.FairRates.{cut_sum, fits, largest_up_to, fair_level, extra, rates_at, fair_rates}
use Rattle.definitions.specs.FairRates.{entry_fits, listed_from, acceptable}
use Rattle.definitions.specs.FairExamples.{FairThere, FairNeeded, FairLimits}
use Rattle.definitions.proofs.Fairness.Claims.{listed-length}

pub fair_there : FairThere
unfolding ids shares within cut_sum fits largest_up_to fair_level extra rates_at fair_rates entry_fits listed_from acceptable
fair_there = record {
  cut = (refl, refl);
  at_level = (refl, refl);
  met = (refl, refl);
  a_share_each = (refl, refl);
  all = (refl, refl);
  empty = (refl, refl);
  others = (refl, refl);
}

pub fair_needed : FairNeeded
unfolding ids shares within cut_sum fits largest_up_to fair_level extra rates_at fair_rates entry_fits listed_from acceptable
fair_needed = record { unserved = (refl, refl); unused = (refl, refl) }

pub fair_limits : FairLimits
unfolding ids shares within entry_fits listed_from acceptable
fair_limits = record {
  threshold = (refl, refl);
  threshold_above = (refl, refl);
  id = (refl, refl);
  rising = (refl, refl);
  demand = (refl, refl);
  demand_above = (refl, refl);
  shares = (refl, refl);
  long = λ is ds listed. omega (arith, listed-length 0 is ds listed (omega arith));
  no_id = refl;
  no_demand = refl;
}
