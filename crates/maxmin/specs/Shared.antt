-- The fair rates, for lent lists of any lengths and any numbers, in a lent room (paper 02, S-8). "22, the only check", stands as
-- well for lists without one id to a demand, and for a room that is shorter than the list: neither has rates to give.
use Rattle.std.specs.Prelude.{ℕ, ◌≡◌, Bool, true, false, ◌&&◌, List, leb, length}
use Rattle.std.proofs.lemmas.List.Edits.{sets}
use Rattle.definitions.specs.declared.Answer.{Answer}
use Rattle.definitions.specs.FairRates.{acceptable, fair_rates, fair_answer}

-- whether rates are given
unfoldable pub granted : ℕ → List ℕ → List ℕ → List ℕ → Bool
granted threshold ids demands room = acceptable threshold ids demands && leb (length demands) (length room)

-- "No rate is then given": the room stays as it was, and so does what is behind the rates in a longer one
unfoldable pub room_after : Bool → ℕ → List ℕ → List ℕ → List ℕ
room_after given threshold demands room = elim given [ true ↦ sets room 0 (fair_rates threshold demands) | false ↦ room ]

-- the answer, and the caller's room before and after
pub record Shared (threshold : ℕ) (ids demands before : List ℕ) (answer : Answer) (after : List ℕ) : Type 0 where
  pub said : answer ≡ fair_answer (granted threshold ids demands before)
  pub room : after ≡ room_after (granted threshold ids demands before) threshold demands before
