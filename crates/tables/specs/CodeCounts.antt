-- The counts of the code (paper 02, S-7), in any calls that each keep their promise: "Each is defined from the calls since the join", and
-- the tables hold these, modulo 2 to the power 64.
use Rattle.std.specs.Prelude.{ℕ, ◌≡◌}
use Rattle.definitions.specs.State.{unopened}
use Rattle.definitions.specs.History.{Trace}
use Rattle.definitions.specs.Sameness.{kept}
use Rattle.definitions.specs.Counts.{Count, tallied, wrapped, count_sheet}
use Rattle.definitions.specs.Counted.{whole_behind, Settles}
use Rattle.tables.specs.declared.Control.{Control}
use Rattle.tables.specs.declared.Tables.{Tables}
use Rattle.tables.specs.Meaning.{core_of, counts_of, whole_of}
use Rattle.tables.specs.Places.{Promised}
use Rattle.tables.specs.Run.{calls_of}
use Rattle.tables.specs.CallsFrom.{CallsFrom}

-- calls from an unopened core on, what they got, and control and tables after the last one
pub record Made (trace : Trace) (d : Control) (u : Tables) : Type 0 where
  pub first : Control
  pub old : Tables
  pub shut : core_of first old ≡ unopened
  pub calls : CallsFrom Promised first old trace d u

pub record CodeCounts : Type 0 where
  -- from any core on: core and counts after some calls are what the definitions make of those before
  pub defined : {c d : Control} {t u : Tables} {trace : Trace} → CallsFrom Promised c t trace d u
      → whole_of d u ≡ whole_behind (whole_of c t) (calls_of trace)
  -- "Each is defined from the calls since the join", "counts run to 64 bits and then begin again at zero"
  pub keeps : {trace : Trace} {d : Control} {u : Tables} → Made trace d u → (id : ℕ) (count : Count)
      → counts_of d u id count ≡ wrapped (tallied id trace count)
  -- "Accepted equals sent plus emptied plus waiting, modulo 2 to the power 64."
  pub settles : {trace : Trace} {d : Control} {u : Tables} → Made trace d u → (id : ℕ) → Settles (counts_of d u id) (core_of d u) id
  -- "The chosen client's sheet is as private as its queue": wherever two have the same kept calls behind them
  pub private : (chosen : ℕ) {one other : Trace} {c d : Control} {t u : Tables} → Made one c t → Made other d u
      → kept chosen one ≡ kept chosen other
      → count_sheet (core_of c t) (counts_of c t) chosen ≡ count_sheet (core_of d u) (counts_of d u) chosen
