-- Editions of the core (paper 02, S-9): "Every id now has 128 places, and 14 comes with 128 waiting." The edition of n places has
-- the calls as they are defined, but that 14 comes with n waiting. While nobody is refused with 14 in an edition, nobody can tell
-- it from one with more places. Of one place fewer than there are it can be told (`full_early`, specs/WrongVersions).
use Rattle.std.specs.Prelude.{ℕ, ◌+◌, ◌≡◌, false}
use Rattle.definitions.specs.Event.{Event}
use Rattle.definitions.specs.Sizes.{places}
use Rattle.definitions.specs.State.{Core}
use Rattle.definitions.specs.Checks.{Result}
use Rattle.definitions.specs.Tick.{turn}
use Rattle.definitions.specs.Core.{step}
use Rattle.definitions.specs.History.{History, Scheduler, after, trace_of, scheduler_by}
use Rattle.definitions.specs.Greedy.{refused_ever}
use Rattle.definitions.specs.Altered.{with_arrive, room_of, token_left, arrive_if}

-- what the edition makes of a call
unfoldable pub in_edition : ℕ → Core → Event → Result
in_edition n = with_arrive (arrive_if (room_of n) token_left)

abbrev pub edition : ℕ → Scheduler
edition n = scheduler_by (in_edition n) turn

-- two ways to deal with calls make the same of a history: what each call gets, whom each slot picks, and the core behind it
pub record Alike (one other : Core → Event → Result) (h : History) : Type 0 where
  pub traces : trace_of (scheduler_by one turn) h ≡ trace_of (scheduler_by other turn) h
  pub cores : after (scheduler_by one turn) h ≡ after (scheduler_by other turn) h

pub record Editions : Type 0 where
  -- the calls as they are defined are the edition of `places`
  pub present : (h : History) → Alike (in_edition places) step h
  -- a history in which no packet is refused with 14 is dealt with in the same way where there are more places
  pub grown : (n more : ℕ) (h : History)
      → ((id : ℕ) → refused_ever id 14 (trace_of (edition n) h) ≡ false)
      → Alike (in_edition n) (in_edition (n + more)) h
