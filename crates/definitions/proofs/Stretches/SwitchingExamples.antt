-- The examples of specs/SwitchingExamples, computed. Assumes nothing.
use Prim.Native.Nat.{◌≤◌}
use mathlib.Core.Path.{refl}
use native.Mathlib.Omega.{arith}
use lib.Dec.{lit<}
use Rattle.definitions.specs.Sameness.{names, is_arrival, is_tick, indifferent_by, indifferent_since}
use Rattle.definitions.specs.History.{after, answer_at, dealing_at, trace_of}
use Rattle.definitions.specs.Stretch.{is_offer, tokens}
use Rattle.definitions.specs.Switching.{rate_by, bucket_of, rate_in, is_refill, refills, top_rate, admissions, income, credit, closed, BySpells, ByTicks}
use Rattle.definitions.specs.GreedyExamples.{ticking, joined}
use Rattle.definitions.specs.GuaranteeExamples.{private_only}
use Rattle.definitions.specs.SwitchingExamples.{two_spells, restless, slowed, SwitchingThere, SwitchingNeeded, join_filled, changed_filled, change_filled, step_filled, FullBuckets}
use Rattle.definitions.proofs.Everything.{everything}

-- what the examples compute with
unfoldable computed : Type 0
unfolding everything after answer_at dealing_at trace_of names is_arrival is_tick indifferent_by indifferent_since is_offer tokens rate_by bucket_of
    rate_in is_refill refills top_rate admissions income credit closed ticking joined private_only
    two_spells restless slowed join_filled changed_filled change_filled step_filled
computed = Unit {0}

pub switching_there : SwitchingThere
unfolding computed
switching_there = record {
  even = record { accepted = refl; by_spells = refl; by_ticks = refl };
  spelled = record { accepted = refl; by_spells = refl; by_ticks = refl };
  rested = record { accepted = refl; by_spells = refl; by_ticks = refl };
}

pub switching_needed : SwitchingNeeded
unfolding computed
switching_needed = record { level = lit< tt; largest = lit< tt }

pub full_buckets : FullBuckets
unfolding computed BySpells ByTicks
full_buckets = record {
  handed = record { accepted = refl; by_spells = refl; by_ticks = refl };
  past_spells = λ bound. let six : 6 ≤ 0 = bound private_only 3 restless in omega arith;
  past_ticks = λ bound. let six : 6 ≤ 0 = bound private_only 3 restless in omega arith;
}
