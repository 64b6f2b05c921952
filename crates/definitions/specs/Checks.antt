-- The table of numbers (paper 01, "Numbers, by the place of the check").
-- "Checks run down the table; the first that fails gives its number, and nothing changes."
-- Number 19 stands in Core; 16, 17 and 18 are the script's.
use Rattle.std.specs.Prelude.{ℕ, ◌+◌, ◌-◌, Bool, cond, not, ◌&&◌, ◌||◌, List, [], ◌∷◌, eqb, leb, ltb, length}
use Rattle.definitions.specs.declared.Packet.{Packet}
use Rattle.definitions.specs.declared.Answer.{Answer}
use Rattle.definitions.specs.declared.Answer.TheVariants.{Accepted, Refused}
use Rattle.definitions.specs.Sizes.{ids, places, pool_limit, shares, burst_limit, shortest, longest, indifferent_kind, weighted_draw}
use Rattle.definitions.specs.Draw.{sum_below}
use Rattle.definitions.specs.Client.{Client, kind_of, is_active, is_indifferent}
use Rattle.definitions.specs.State.{State, Core, running}

-- what a call gives: its answer, and the core after it
pub record Result : Type 0 where
  pub answer : Answer
  pub core : Core

-- a number of the table, and whether its check is passed
pub record Check : Type 0 where
  pub number : ℕ
  pub passed : Bool

abbrev pub check : ℕ → Bool → Check
check number passed = record { number = number; passed = passed }

abbrev pub accepted : State → Result
accepted s = record { answer = Accepted; core = running s }

abbrev pub refused : ℕ → Core → Result
refused number before = record { answer = Refused number; core = before }

-- What is done where every check is passed; else the number of the first that fails, and the core that a refusal with it leaves.
unfoldable pub checked : List Check → (ℕ → Core) → Result → Result
checked [] left done = done
checked (c ∷ cs) left done = cond c.passed (checked cs left done) (refused c.number (left c.number))

-- the number of the first check that fails, 0 where none does
unfoldable pub first_failed : List Check → ℕ
first_failed [] = 0
first_failed (c ∷ cs) = cond c.passed (first_failed cs) c.number

-- "and nothing changes": every refusal leaves the core as it was
abbrev pub unchanged : Core → ℕ → Core
unchanged before number = before

unfoldable pub within : ℕ → ℕ → ℕ → Bool
within low high x = leb low x && leb x high

-- "The rates of all active clients together never pass the threshold."
unfoldable pub active_rate : (ℕ → Client) → ℕ → ℕ
active_rate clients id = cond (is_active (clients id).kind) (clients id).rate 0

unfoldable pub rates : (ℕ → Client) → ℕ
rates clients = sum_below ids (active_rate clients)

-- "burst outside 1..64 if indifferent, not 0 if private"
unfoldable pub burst_fits : ℕ → ℕ → Bool
burst_fits kind burst = cond (eqb kind indifferent_kind) (within 1 burst_limit burst) (eqb burst 0)

unfoldable pub open_checks : ℕ → ℕ → ℕ → List Check
open_checks threshold discipline seed =
    check 1 (within 1 shares threshold)
    ∷ check 2 (leb discipline weighted_draw)
    ∷ check 3 (not (eqb seed 0))
    ∷ []

-- what join and change ask of the terms, with the rates that the others hold
unfoldable pub term_checks : ℕ → ℕ → ℕ → ℕ → ℕ → List Check
term_checks threshold others kind rate burst =
    check 7 (is_active (kind_of kind))
    ∷ check 8 (within 1 shares rate)
    ∷ check 9 (burst_fits kind burst)
    ∷ check 10 (leb (others + rate) threshold)
    ∷ []

module _ (s : State) (id : ℕ) where
  unfoldable pub join_checks : ℕ → ℕ → ℕ → List Check
  join_checks kind rate burst =
      check 4 (ltb id ids)
      ∷ check 6 (not (is_active (s.clients id).kind))
      ∷ term_checks s.threshold (rates s.clients) kind rate burst

  -- what every call for an active client asks first
  unfoldable pub active_checks : List Check → List Check
  active_checks more = check 4 (ltb id ids) ∷ check 5 (is_active (s.clients id).kind) ∷ more

  -- "The old rate is taken off before the threshold is checked."
  unfoldable pub change_checks : ℕ → ℕ → ℕ → List Check
  change_checks kind rate burst =
      active_checks (term_checks s.threshold (rates s.clients - (s.clients id).rate) kind rate burst)

  unfoldable pub leave_checks : List Check
  leave_checks = active_checks []

  unfoldable pub load_checks : ℕ → List Check
  load_checks dummies =
      active_checks
      (check 11 (not (is_indifferent (s.clients id).kind))
      ∷ check 12 (leb ((s.side.stocks id).pool + dummies) pool_limit)
      ∷ [])

  unfoldable pub arrive_checks : Packet → List Check
  arrive_checks p =
      active_checks
      (check 13 (within shortest longest p.length)
      ∷ check 14 (ltb (length (s.side.stocks id).queue) places)
      ∷ check 15 (not (is_indifferent (s.clients id).kind) || leb shares (s.clients id).level)
      ∷ [])
