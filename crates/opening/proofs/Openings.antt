-- There are runs: the empty tables with an unopened control are one, and wherever a run has come there are control and tables
-- with which an open keeps its promise (OpenPromise). Assumes nothing.
use Prim.Native.Nat.{ℕ, zero, suc}
use mathlib.Core.Path.{◌≡◌, refl, sym}
use mathlib.Core.Bool.{false}
use native.Mathlib.Omega.{arith}
use Rattle.definitions.specs.Event.{Open}
use Rattle.definitions.specs.Checks.{open_checks}
use Rattle.definitions.specs.History.{◌then◌, begin}
use Rattle.tables.specs.declared.Answered.{Answered}
use Rattle.tables.specs.declared.Tables.{Tables}
use Rattle.tables.specs.Meaning.{core_of}
use Rattle.tables.specs.Numbers.{first_failed}
use Rattle.tables.specs.Promise.{Meets}
use Rattle.tables.specs.Run.{Run, begun, further, calls_of, CodeValid}
use Rattle.tables.proofs.Runs.{run_valid}
use Rattle.opening.specs.Openings.{Openings}
use Rattle.opening.proofs.EmptyTables.{empty_control, empty_tables}
use Rattle.opening.proofs.OpenPromise.{open_refused, open_accepted}

-- an open behind a run, by the number of the first check that fails, if one does
module _ (run : Run) (threshold discipline seed : ℕ) where
  abbrev Opened : Type 0
  Opened = (after : Run) × (calls_of after.trace ≡ calls_of run.trace then Open threshold discipline seed)

  behind : {r : Answered} {u : Tables} → Meets (Open threshold discipline seed) run.control run.tables r u → Opened
  unfolding calls_of
  behind met = (further run met, refl)

  opened : (n : ℕ) → first_failed (open_checks threshold discipline seed) ≡ n → Opened
  unfolding CodeValid
  opened zero none = behind (open_accepted run.control run.tables (run_valid run) threshold discipline seed _ refl none)
  opened (suc n) some =
      behind
      (open_refused run.control run.tables (run_valid run) threshold discipline seed _ (suc n) refl (sym some)
      (λ e. omega arith))

pub openings : Openings
unfolding calls_of core_of
openings = record {
  none = (record { trace = begin; control = empty_control false 0 0 0; tables = empty_tables; reached = begun refl }, refl);
  more = λ run threshold discipline seed. opened run threshold discipline seed _ refl;
}
