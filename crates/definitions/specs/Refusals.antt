-- The numbers of the checks (paper 01, "Numbers"): "A refused call gives the number of the first failed check".
use Rattle.std.specs.Prelude.{ℕ, Result, Ok, Err}
use Rattle.definitions.specs.declared.Refusal.{Refusal}
use Rattle.definitions.specs.declared.Refusal.TheVariants.{Threshold, Discipline, Seed, Id, Inactive, Active, Kind, Rate, Burst, Rates, Indifferent, Pool, Length, Full, Drained, Unopened, Unfair}

abbrev pub number_of : Refusal → ℕ
number_of Threshold = 1
number_of Discipline = 2
number_of Seed = 3
number_of Id = 4
number_of Inactive = 5
number_of Active = 6
number_of Kind = 7
number_of Rate = 8
number_of Burst = 9
number_of Rates = 10
number_of Indifferent = 11
number_of Pool = 12
number_of Length = 13
number_of Full = 14
number_of Drained = 15
number_of Unopened = 19
number_of Unfair = 22

-- what some checks found, as a number: 0 where none fails
abbrev pub number_in : {A : Type 0} → Result A Refusal → ℕ
number_in (Ok x) = 0
number_in (Err r) = number_of r

-- and the same with its number in place of the refusal
abbrev pub numbered : {A : Type 0} → Result A Refusal → Result A ℕ
numbered (Ok x) = Ok x
numbered (Err r) = Err (number_of r)
