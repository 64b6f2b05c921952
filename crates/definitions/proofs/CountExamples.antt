-- The examples of specs/CountExamples, computed. Assumes nothing.
use mathlib.Core.Path.{refl}
use Rattle.definitions.specs.Sizes.{count_span}
use Rattle.definitions.specs.Checks.{first_failed}
use Rattle.definitions.specs.History.{after, answer_at, dealing_at, trace_of}
use Rattle.definitions.specs.Traces.{indifferent_by, indifferent_since}
use Rattle.definitions.specs.Counts.{column, entry_of_drop, entry_of_accepted, entry_of_refused, entry_of_slot, entry_of, entered, gained, wrapped, wrapped_plus, counts_after, sheet_of, count_sheet}
use Rattle.definitions.specs.Counted.{counts_behind}
use Rattle.definitions.specs.Sameness.{is_struck, kept}
use Rattle.definitions.specs.CountExamples.{PrivateTimeCounts, Sheets, Wrapping}
use Rattle.definitions.proofs.Everything.{everything}

-- what the examples compute with
unfoldable computed : Type 0
unfolding everything count_span first_failed after answer_at dealing_at trace_of indifferent_by indifferent_since is_struck kept
    column entry_of_drop entry_of_accepted entry_of_refused entry_of_slot entry_of entered gained wrapped wrapped_plus counts_after sheet_of count_sheet
    counts_behind
computed = Unit {0}

pub private_time_counts : PrivateTimeCounts
unfolding computed
private_time_counts = record {
  kept_alike = refl;
  indifferently = refl;
  busy_sheet = refl;
  silent_sheet = refl;
  busy_gains = refl;
  silent_gains = refl;
  busy_chosen = refl;
}

pub sheets : Sheets
unfolding computed
sheets = record {
  changed = refl;
  retuned = refl;
  left = refl;
  joined = refl;
  opened = refl;
  refused = refl;
  given = refl;
  inactive = refl;
  unknown = refl;
  shut = refl;
}

pub wrapping : Wrapping
unfolding computed
wrapping = record {
  accepted = λ core. refl;
  sent = λ core. refl;
  full = λ core. refl;
  drained = λ core. refl;
  dummies = λ core. refl;
  emptied = refl;
  others = λ core. refl;
  apart = λ core. refl;
  sum = refl;
}
