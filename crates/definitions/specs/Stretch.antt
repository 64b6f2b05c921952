-- Stretches: calls one after the other from any core on, with what they got (paper 01, "Numbers": "Over n ticks with no open,
-- and no join, change or leave of it, an indifferent client .."). What is counted is read off the trace, whoever made it.
use Rattle.std.specs.Prelude.{ℕ, suc, ◌+◌, ◌*◌, ◌/◌, Bool, true, false, not, ◌&&◌, ◌||◌}
use Rattle.definitions.specs.Event.{Event, Open, Join, Change, Leave, Load, Arrive, Tick}
use Rattle.definitions.specs.Sizes.{shares}
use Rattle.definitions.specs.Client.{Client}
use Rattle.definitions.specs.State.{Core}
use Rattle.definitions.specs.Answers.{is_accepted}
use Rattle.definitions.specs.Tick.{turn}
use Rattle.definitions.specs.Core.{step}
use Rattle.definitions.specs.History.{History, Trace, begin, ◌and◌, Scheduler, after, trace_of, scheduler_on}
use Rattle.definitions.specs.Sameness.{names, is_setting, is_arrival, is_tick}

-- the defined scheduler, begun with any core in place of an unopened one
abbrev pub scheduler_from : Core → Scheduler
scheduler_from core = scheduler_on core step turn

-- some calls from a core on, with what they get, and the core that they leave
abbrev pub stretch : Core → History → Trace
stretch core = trace_of (scheduler_from core)

abbrev pub behind : Core → History → Core
behind core = after (scheduler_from core)

-- one more where a test holds
abbrev pub one_if : Bool → ℕ → ℕ
one_if true n = suc n
one_if false n = n

unfoldable pub is_open : Event → Bool
is_open (Open threshold discipline seed) = true
is_open (Join id kind rate burst) = false
is_open (Change id kind rate burst) = false
is_open (Leave id) = false
is_open (Load id dummies) = false
is_open (Arrive id packet) = false
is_open Tick = false

unfoldable pub ticks : Trace → ℕ
ticks begin = 0
ticks (t and d) = one_if (is_tick d.event) (ticks t)

module _ (id : ℕ) where
  -- "open .. join, change or leave of it"
  unfoldable pub resets : Event → Bool
  resets c = is_open c || (is_setting c && names id c)

  -- a packet that the client offers
  unfoldable pub is_offer : Event → Bool
  is_offer c = is_arrival c && names id c

  -- "no open, and no join, change or leave of it": none that is accepted; a refused one changes nothing
  unfoldable pub undisturbed : Trace → Bool
  undisturbed begin = true
  undisturbed (t and d) = undisturbed t && not (resets d.event && is_accepted d.answer)

  -- how many packets of the client are accepted
  unfoldable pub acceptances : Trace → ℕ
  acceptances begin = 0
  acceptances (t and d) = one_if (is_offer d.event && is_accepted d.answer) (acceptances t)

-- "(level at the start + n × rate) / 1024 .., rounded down"
unfoldable pub tokens : ℕ → ℕ → ℕ → ℕ
tokens level rate n = (level + n * rate) / shares

-- what a client has bought over n ticks
abbrev pub bought : Client → ℕ → ℕ
bought c n = tokens c.level c.rate n
