-- The bucket's bound (paper 01, "Numbers"): "Over n ticks with no open, and no join, change or leave of it, an indifferent
-- client is accepted at most (level at the start + n × rate) / 1024 times, rounded down."
-- Claimed from any core on and whatever else is called. It follows from where the bucket's contents go, which is one equation.
use Rattle.std.specs.Prelude.{ℕ, ◌+◌, ◌-◌, ◌*◌, ◌≤◌, ◌≡◌, cond, T}
use Rattle.definitions.specs.Sizes.{shares}
use Rattle.definitions.specs.Client.{Client, is_indifferent}
use Rattle.definitions.specs.State.{Core}
use Rattle.definitions.specs.History.{History, start, ◌then◌, client_of}
use Rattle.definitions.specs.Sameness.{is_tick}
use Rattle.definitions.specs.Stretch.{stretch, behind, ticks, undisturbed, acceptances, bought}

-- "the rate is added, up to burst × 1024": what a refill has no room for
unfoldable pub spill : Client → ℕ
spill c = c.level + c.rate - c.burst * shares

-- what the refills of a stretch had no room for in a client's bucket
unfoldable pub spilt : ℕ → Core → History → ℕ
spilt id core start = 0
spilt id core (h then c) = spilt id core h + cond (is_tick c) (spill (client_of (behind core h) id)) 0

-- The level after a stretch: what was in the bucket and what the ticks brought was taken by packets, is there still or was spilt.
unfoldable pub LevelAfter : Type 0
LevelAfter =
    (core : Core) (id : ℕ) (calls : History)
    → T (is_indifferent (client_of core id).kind)
    → T (undisturbed id (stretch core calls))
    → acceptances id (stretch core calls) * shares + ((client_of (behind core calls) id).level + spilt id core calls)
    ≡ (client_of core id).level + ticks (stretch core calls) * (client_of core id).rate

unfoldable pub Bound : Type 0
Bound =
    (core : Core) (id : ℕ) (calls : History)
    → T (is_indifferent (client_of core id).kind)
    → T (undisturbed id (stretch core calls))
    → acceptances id (stretch core calls) ≤ bought (client_of core id) (ticks (stretch core calls))
