-- Limits that rest on the width of a call's numbers (paper 01: "calls take unsigned 32-bit numbers"; paper 02, S-6: "Handles go to
-- 18446744073709551615 in calls"). The definitions take any number. `Fits` is claimed of every state that a history of such calls
-- reaches. `FitsMet` shows such a history, and `FitsNeeded` that with a seed or a handle one past its limit the same history breaks
-- the claim.
use Rattle.std.specs.Prelude.{ℕ, suc, ◌≤◌, ◌≡◌, List, [], ◌∷◌}
use Rattle.definitions.specs.declared.Packet.{Packet}
use Rattle.definitions.specs.Event.{Event, Open, Join, Change, Leave, Load, Arrive, Tick}
use Rattle.definitions.specs.Sizes.{number_limit, handle_limit, shares, longest, private_kind, first_come}
use Rattle.definitions.specs.State.{State, Core, unopened, running}
use Rattle.definitions.specs.History.{History, start, ◌then◌, stock_of, generator_of, scheduler, after}

-- every number of a call is within its limit; a handle has a limit of its own
abbrev pub EventFits : Event → Type 0
EventFits (Open threshold discipline seed) = (threshold ≤ number_limit) × (discipline ≤ number_limit) × (seed ≤ number_limit)
EventFits (Join id kind rate burst) = (id ≤ number_limit) × (kind ≤ number_limit) × (rate ≤ number_limit) × (burst ≤ number_limit)
EventFits (Change id kind rate burst) = (id ≤ number_limit) × (kind ≤ number_limit) × (rate ≤ number_limit) × (burst ≤ number_limit)
EventFits (Leave id) = id ≤ number_limit
EventFits (Load id dummies) = (id ≤ number_limit) × (dummies ≤ number_limit)
EventFits (Arrive id packet) = (id ≤ number_limit) × (packet.handle ≤ handle_limit) × (packet.length ≤ number_limit)
EventFits Tick = Unit {0}

-- every call of a history is such a call, a refused one too
abbrev pub HistoryFits : History → Type 0
HistoryFits start = Unit {0}
HistoryFits (h then c) = HistoryFits h × EventFits c

-- the handles that wait
abbrev pub HandlesFit : List Packet → Type 0
HandlesFit [] = Unit {0}
HandlesFit (p ∷ ps) = (p.handle ≤ handle_limit) × HandlesFit ps

pub record StateFits (s : State) : Type 0 where
  -- "the generator value G .. is 1 to 4294967295" (paper 02, S-2)
  pub generator_low : 1 ≤ s.side.generator
  pub generator_high : s.side.generator ≤ number_limit
  -- whoever the packet waits for
  pub handles_high : (id : ℕ) → HandlesFit (s.side.stocks id).queue

abbrev pub CoreFits : Core → Type 0
CoreFits unopened = Unit {0}
CoreFits (running s) = StateFits s

unfoldable pub Fits : Type 0
Fits = (h : History) → HistoryFits h → CoreFits (after scheduler h)

-- a history with a seed and a handle: a private client joins, a tick draws it, and its packet arrives
abbrev pub long : ℕ → Packet
long handle = record { handle = handle; length = longest }

abbrev pub trial : ℕ → ℕ → History
trial seed handle =
    start then Open shares first_come seed then Join 2 private_kind 300 0 then Tick then Arrive 2 (long handle)

-- With the highest seed and the highest handle it fits. After it a core runs, whose generator the tick has stepped,
-- and the packet waits.
pub record FitsMet : Type 0 where
  pub fits : HistoryFits (trial number_limit handle_limit)
  pub generator : generator_of (after scheduler (trial number_limit handle_limit)) ≡ 253983
  pub waits : (stock_of (after scheduler (trial number_limit handle_limit)) 2).queue ≡ long handle_limit ∷ []

-- With one more of either, what is claimed does not hold.
pub record FitsNeeded : Type 0 where
  pub seed : CoreFits (after scheduler (trial (suc number_limit) handle_limit)) → ⊥
  pub handle : CoreFits (after scheduler (trial number_limit (suc handle_limit))) → ⊥
