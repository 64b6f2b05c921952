-- The reason for a slot, from the core that it left and the sum of the rates in its draw (paper 02, S-5: "if there was a draw, target
-- and rate sum"). "The new value modulo the sum of the rates in the draw is the target" (paper 01), and the core holds the new value, so
-- whoever tells of a tick has to keep that sum alone.
use Rattle.std.specs.Prelude.{ℕ, ◌%◌, ◌≡◌, cond, eqb, None}
use Rattle.definitions.specs.State.{Core, unopened, running}
use Rattle.definitions.specs.Event.{Tick}
use Rattle.definitions.specs.Core.{step}
use Rattle.definitions.specs.History.{draws_of}
use Rattle.definitions.specs.Limits.{CoreLimits}
use Rattle.definitions.specs.Notes.{Reason, drawn_reason, reason_of}
use Rattle.draw.specs.Samples.{sum_of}

-- a sum of 0 is that of no draw
unfoldable pub reason_left : ℕ → Core → Reason
reason_left sum unopened = None
reason_left sum (running s) = cond (eqb sum 0) None (drawn_reason (s.side.generator % sum) sum)

-- On a core within the limits, as every core is that valid tables mean, it is the reason by which the slot of a tick went.
unfoldable pub ReasonIsLeft : Type 0
ReasonIsLeft =
    (core : Core) → CoreLimits core
    → reason_left (sum_of (draws_of core)) (step core Tick).core ≡ reason_of (draws_of core)
