-- Every state that a history reaches is within the limits of paper 01.
-- By induction over the history: an unopened core has nothing, and each of the seven calls keeps the limits.
pub mod Order
pub mod Client
pub mod Stock
pub mod Calls
pub mod Slots
pub mod Turns
use Rattle.definitions.specs.Event.{Event, Open, Join, Change, Leave, Load, Arrive, Tick}
use Rattle.definitions.specs.State.{Core, unopened, running}
use Rattle.definitions.specs.Core.{step}
use Rattle.definitions.specs.History.{start, ◌then◌, scheduler, after}
use Rattle.definitions.specs.Limits.{CoreLimits, Limits}
use Rattle.definitions.proofs.Limits.Calls.{open_limits, join_limits, change_limits, leave_limits, load_limits, arrive_limits}
use Rattle.definitions.proofs.Limits.Slots.{tick_limits}

pub step-limits : (core : Core) → CoreLimits core → (c : Event) → CoreLimits (step core c).core
unfolding step
step-limits core known (Open threshold discipline seed) = open_limits core known threshold discipline seed
step-limits unopened known (Join id kind rate burst) = tt
step-limits unopened known (Change id kind rate burst) = tt
step-limits unopened known (Leave id) = tt
step-limits unopened known (Load id dummies) = tt
step-limits unopened known (Arrive id packet) = tt
step-limits unopened known Tick = tt
step-limits (running s) known (Join id kind rate burst) = join_limits s known id kind rate burst
step-limits (running s) known (Change id kind rate burst) = change_limits s known id kind rate burst
step-limits (running s) known (Leave id) = leave_limits s known id
step-limits (running s) known (Load id dummies) = load_limits s known id dummies
step-limits (running s) known (Arrive id packet) = arrive_limits s known id packet
step-limits (running s) known Tick = tick_limits s known

pub limits : Limits
unfolding Limits after
limits start = tt
limits (h then c) = step-limits (after scheduler h) (limits h) c
