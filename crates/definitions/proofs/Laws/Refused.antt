-- No check has the number 0, which says that none fails. By each check. Assumes nothing.
use Rattle.std.specs.Prelude.{◌≡◌, ◌≢◌, Result, Ok, Err}
use Rattle.std.specs.Result.{IsErrAnd}
use mathlib.Core.Path.{ap}
use native.Mathlib.Omega.{arith}
use Rattle.definitions.specs.declared.Refusal.{Refusal}
use Rattle.definitions.specs.declared.Refusal.TheVariants.{Threshold, Discipline, Seed, Id, Inactive, Active, Kind, Rate, Burst, Rates, Indifferent, Pool, Length, Full, Drained, Unopened, Unfair}
use Rattle.definitions.specs.Refusals.{number_of, number_in}

pub number_of_some : (r : Refusal) → number_of r ≢ 0
number_of_some Threshold e = omega (arith, e)
number_of_some Discipline e = omega (arith, e)
number_of_some Seed e = omega (arith, e)
number_of_some Id e = omega (arith, e)
number_of_some Inactive e = omega (arith, e)
number_of_some Active e = omega (arith, e)
number_of_some Kind e = omega (arith, e)
number_of_some Rate e = omega (arith, e)
number_of_some Burst e = omega (arith, e)
number_of_some Rates e = omega (arith, e)
number_of_some Indifferent e = omega (arith, e)
number_of_some Pool e = omega (arith, e)
number_of_some Length e = omega (arith, e)
number_of_some Full e = omega (arith, e)
number_of_some Drained e = omega (arith, e)
number_of_some Unopened e = omega (arith, e)
number_of_some Unfair e = omega (arith, e)

-- what `?` hands on has the number of what it found
pub handed_number : {A : Type 0} (r : Result A Refusal) (e : Refusal) → IsErrAnd r (λ x. x ≡ e) → number_in r ≡ number_of e
handed_number (Ok x) e h = absurd h
handed_number (Err x) e h = ap number_of h
