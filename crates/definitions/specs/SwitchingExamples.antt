-- That a client that switches (paper 02, S-4) may get all that its spells pay for, why the bound speaks of what was in the bucket
-- at the start and of the largest rate, and that there was no such bound under the rule before the request. Client 3 is the one
-- that switches.
use Rattle.std.specs.Prelude.{ℕ, ◌*◌, ◌<◌, ◌≡◌, cond}
use Rattle.definitions.specs.Event.{Event, Open, Join, Change, Leave, Load, Arrive, Tick}
use Rattle.definitions.specs.Sizes.{shares, indifferent_kind, private_kind}
use Rattle.definitions.specs.Client.{Client, kind_of, same_kind, with_level, joining, retuned}
use Rattle.definitions.specs.Stock.{bare}
use Rattle.definitions.specs.State.{State, Core, running, updated, put, stocked}
use Rattle.definitions.specs.Checks.{Result, accepted, checked, unchanged, join_checks, change_checks}
use Rattle.definitions.specs.Calls.{side_after_change}
use Rattle.definitions.specs.Core.{when_opened, step}
use Rattle.definitions.specs.History.{History, start, ◌then◌, client_of}
use Rattle.definitions.specs.Stretch.{stretch, tokens}
use Rattle.definitions.specs.Switching.{bucket_of, rate_in, refills, top_rate, admissions, affordable, dealt_by, BySpells, ByTicks}
use Rattle.definitions.specs.GreedyExamples.{offer, ticking, joined, thrice}
use Rattle.definitions.specs.GuaranteeExamples.{private_only}

abbrev pub to_indifferent : ℕ → ℕ → History → History
to_indifferent rate burst h = h then Change 3 indifferent_kind rate burst

abbrev pub to_private : History → History
to_private h = h then Change 3 private_kind 20 0

-- Two spells at a rate, of so many ticks, with a tick between them. At the end of each it offers until it is refused.
unfoldable pub two_spells : ℕ → ℕ → ℕ → History
two_spells rate first second = thrice (ticking second (to_indifferent rate 4 (ticking 1 (to_private (thrice (ticking first joins))))))
  where
    joins : History
    joins = start then Join 3 indifferent_kind rate 4

-- Three spells without a tick, and two offers in each.
unfoldable pub restless : History
restless = again (again (again (start then Join 3 private_kind 20 0)))
  where
    again : History → History
    again h = to_private (to_indifferent 1 2 h then offer then offer)

-- a spell in which the rate comes down from 1000 to 1 when three packets were accepted
unfoldable pub slowed : History
slowed = ticking 1 (to_indifferent 1 4 (thrice (ticking 4 (start then Join 3 indifferent_kind 1000 4))))

-- In some calls from a core on, so many of client 3's packets are accepted while it is indifferent; its spells pay for so many;
-- and so many are what was in its bucket and the ticks that it spent indifferent bring, at its largest rate.
pub record Gets (act : Core → Event → Result) (core : Core) (calls : History) (got paid brought : ℕ) : Type 0 where
  pub accepted : admissions 3 (client_of core 3) (dealt_by act core calls) ≡ got
  pub by_spells : affordable 3 (client_of core 3) (dealt_by act core calls) ≡ paid
  pub by_ticks : tokens (bucket_of (client_of core 3)) (top_rate 3 (client_of core 3) (dealt_by act core calls))
      (refills 3 (client_of core 3) (dealt_by act core calls))
      ≡ brought

pub record SwitchingThere : Type 0 where
  -- a packet in each of two spells that bring a token each, and no less is claimed by ticks
  pub even : Gets step private_only (two_spells 512 2 2) 2 2 2
  -- Spells that bring 1800 and 3000 pay for one packet and for two. Together they brought four: what each had short of a token is
  -- lost.
  pub spelled : Gets step private_only (two_spells 600 3 5) 3 3 4
  -- without a tick there is nothing
  pub rested : Gets step private_only restless 0 0 0

pub record SwitchingNeeded : Type 0 where
  -- "level at the start": two packets, and no tick
  pub level : tokens 0 (top_rate 3 (client_of (joined 700 2) 3) (stretch (joined 700 2) (thrice start)))
      (refills 3 (client_of (joined 700 2) 3) (stretch (joined 700 2) (thrice start)))
      < admissions 3 (client_of (joined 700 2) 3) (stretch (joined 700 2) (thrice start))
  -- the largest rate: five ticks at the last one bring nothing
  pub largest : tokens 0 (rate_in 3 (client_of private_only 3) (stretch private_only slowed))
      (refills 3 (client_of private_only 3) (stretch private_only slowed))
      < admissions 3 (client_of private_only 3) (stretch private_only slowed)

-- The rule before the request (paper 01): "A join starts with .. if indifferent, a full bucket" and "If the type differs, .. a new
-- indifferent client's bucket is full."
abbrev pub filled : Client → Client
filled c = with_level c (c.burst * shares)

unfoldable pub join_filled : State → ℕ → ℕ → ℕ → ℕ → Result
join_filled s id kind rate burst =
    checked (join_checks s id kind rate burst) (unchanged (running s))
    (accepted (updated s (put s.clients id (filled (joining kind rate burst))) (stocked s.side id bare)))

unfoldable pub changed_filled : Client → ℕ → ℕ → ℕ → Client
changed_filled c kind rate burst =
    cond (same_kind c.kind (kind_of kind)) (retuned c rate burst) (filled (joining kind rate burst))

unfoldable pub change_filled : State → ℕ → ℕ → ℕ → ℕ → Result
change_filled s id kind rate burst =
    checked (change_checks s id kind rate burst) (unchanged (running s))
    (accepted (updated s (put s.clients id (changed_filled (s.clients id) kind rate burst)) (side_after_change s id kind)))

unfoldable pub step_filled : Core → Event → Result
step_filled core (Join id kind rate burst) = when_opened core (λ s. join_filled s id kind rate burst)
step_filled core (Change id kind rate burst) = when_opened core (λ s. change_filled s id kind rate burst)
step_filled core (Open threshold discipline seed) = step core (Open threshold discipline seed)
step_filled core (Leave id) = step core (Leave id)
step_filled core (Load id dummies) = step core (Load id dummies)
step_filled core (Arrive id p) = step core (Arrive id p)
step_filled core Tick = step core Tick

-- "each switch hands them a full burst"
pub record FullBuckets : Type 0 where
  -- six packets, and no tick: neither bound held
  pub handed : Gets step_filled private_only restless 6 0 0
  pub past_spells : BySpells step_filled → ⊥
  pub past_ticks : ByTicks step_filled → ⊥
