-- The examples of specs/GuaranteeExamples that are computed. Assumes nothing.
use mathlib.Core.Path.{refl}
use lib.Dec.{lit<}
use Rattle.definitions.specs.History.{after, answer_at, dealing_at, trace_of}
use Rattle.definitions.specs.Sameness.{is_setting, is_tick}
use Rattle.definitions.specs.Limits.{CoreLimits, Limits}
use Rattle.definitions.specs.Stretch.{ticks, tokens}
use Rattle.definitions.specs.Guarantee.{steady, picks, private_active, over_indifferent, backlog, demand, sure}
use Rattle.definitions.specs.GreedyExamples.{ticking, joined}
use Rattle.definitions.specs.GuaranteeExamples.{paired, pair_offers, GuaranteeThere, conditions_met, private_only, indifferent_only, out_of_order, GuaranteeNeeded}
use Rattle.definitions.proofs.Everything.{everything}
use Rattle.definitions.proofs.Limits.{limits}
use Rattle.definitions.proofs.Stretches.Guarantee.{behind-limits}

-- what the examples compute with
unfoldable pub computed : Type 0
unfolding everything after answer_at dealing_at trace_of is_setting is_tick steady ticks tokens picks private_active over_indifferent
    backlog demand sure ticking joined paired pair_offers conditions_met private_only indifferent_only out_of_order
computed = Unit {0}

paired-limits : CoreLimits paired
unfolding Limits paired
paired-limits = limits _

pub guarantee_there : GuaranteeThere
unfolding computed
guarantee_there = record {
  six = refl;
  seven = refl;
  sharpened = refl;
  nine = record { limited = paired-limits; active = tt; calm = tt; ticked = refl; claimed = refl; got = refl };
  waiting = record {
    limited = behind-limits paired paired-limits pair_offers;
    active = tt;
    calm = tt;
    ticked = refl;
    claimed = refl;
    got = refl;
  };
}

pub guarantee_needed : GuaranteeNeeded
unfolding computed
guarantee_needed = record {
  nobody = record { told = refl; fewer = lit< tt };
  unpicked = refl;
  left = record { told = refl; fewer = lit< tt };
  opened = record { told = refl; fewer = lit< tt };
  joining = record { told = refl; fewer = lit< tt };
  changing = record { told = refl; fewer = lit< tt };
  limits = record { told = refl; fewer = lit< tt };
}
