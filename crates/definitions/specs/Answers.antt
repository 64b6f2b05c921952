-- Answers and outcomes (paper 01, "The calls" and "If an answer is an enum, a definition gives this paper's number and
-- values for each of its cases"). The types are those of the code, in ../src.
use Rattle.std.specs.Prelude.{ℕ, Bool, true, false, List, [], ◌∷◌, eqb}
use Rattle.definitions.specs.declared.Outcome.{Outcome}
use Rattle.definitions.specs.declared.Outcome.TheVariants.{Real, Dummy, Idle, None}
use Rattle.definitions.specs.declared.Answer.{Answer}
use Rattle.definitions.specs.declared.Answer.TheVariants.{Accepted, Refused, Slot}

-- "real (id, handle, length, padding), dummy (id), idle (id), none": each outcome's values, in that order
unfoldable pub values : Outcome → List ℕ
values (Real id p padding) = id ∷ p.handle ∷ p.length ∷ padding ∷ []
values (Dummy id) = id ∷ []
values (Idle id) = id ∷ []
values None = []

-- the number of a refusal; 0, which no check has, for what is not refused
unfoldable pub number : Answer → ℕ
number Accepted = 0
number (Refused n) = n
number (Slot outcome) = 0

-- the words of the four outcomes, as numbers that no check has
abbrev pub real : ℕ
real = 101

abbrev pub dummy : ℕ
dummy = 102

abbrev pub idle : ℕ
idle = 103

abbrev pub none : ℕ
none = 104

unfoldable pub word : Outcome → ℕ
word (Real id p padding) = real
word (Dummy id) = dummy
word (Idle id) = idle
word None = none

-- all that an answer says: its number or, of a slot, the outcome's word and values
unfoldable pub shown : Answer → List ℕ
shown Accepted = number Accepted ∷ []
shown (Refused n) = number (Refused n) ∷ []
shown (Slot outcome) = word outcome ∷ values outcome

unfoldable pub is_accepted : Answer → Bool
is_accepted Accepted = true
is_accepted (Refused n) = false
is_accepted (Slot outcome) = false

-- whether an outcome bears an id
unfoldable pub bears : ℕ → Outcome → Bool
bears id (Real other p padding) = eqb other id
bears id (Dummy other) = eqb other id
bears id (Idle other) = eqb other id
bears id None = false

-- "its departures the slots whose outcome bears its id"
unfoldable pub is_departure : ℕ → Answer → Bool
is_departure id Accepted = false
is_departure id (Refused n) = false
is_departure id (Slot outcome) = bears id outcome
