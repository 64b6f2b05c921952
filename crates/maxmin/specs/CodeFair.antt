-- What is claimed of the fair rates (paper 02, S-8), of calls of the code: of any call that keeps `Shared`, which is the contract
-- of `rates`. A room may be longer than the list; its first numbers are then the rates.
use Rattle.std.specs.Prelude.{ℕ, ◌≤◌, ◌<◌, ◌≡◌, List, length, take, drop, set}
use Rattle.definitions.specs.declared.Answer.TheVariants.{Accepted, Refused}
use Rattle.definitions.specs.Fairness.{at, Fair}
use Rattle.maxmin.specs.Shared.{Shared}

pub record CodeFair : Type 0 where
  -- "22, the only check": no other number, and "no rate is then given"
  pub refused : (threshold : ℕ) (ids demands before : List ℕ) (number : ℕ) (after : List ℕ)
      → Shared threshold ids demands before (Refused number) after
      → (number ≡ 22) × (after ≡ before)
  -- else the rates are fair, and the rest of the room is as it was
  pub fair : (threshold : ℕ) (ids demands before after : List ℕ)
      → Shared threshold ids demands before Accepted after
      → Fair threshold demands (take (length demands) after) × (drop (length demands) after ≡ drop (length demands) before)
  -- every demand gets at least one share
  pub served : (threshold : ℕ) (ids demands before after : List ℕ)
      → Shared threshold ids demands before Accepted after
      → (k : ℕ)
      → k < length demands
      → 1 ≤ at after k
  -- a larger threshold takes from nobody
  pub more_for_all : (threshold larger : ℕ) (ids demands before after before' after' : List ℕ)
      → Shared threshold ids demands before Accepted after
      → Shared larger ids demands before' Accepted after'
      → threshold ≤ larger
      → (k : ℕ)
      → k < length demands
      → at after k ≤ at after' k
  -- raising one's own demand never lowers one's own rate
  pub own_demand : (threshold : ℕ) (ids demands before after before' after' : List ℕ) (k more : ℕ)
      → Shared threshold ids demands before Accepted after
      → Shared threshold ids (set demands k more) before' Accepted after'
      → at demands k ≤ more
      → k < length demands
      → at after k ≤ at after' k
