-- What is easy to get wrong about the core, one small fact each, under the words of the papers that it stands for.
-- The facts on ticks, changes and checks are claimed of any state, reached or not; the two on turns of any state within the
-- limits, and so of every state that a history reaches (Limits). Some have instances among P4 and P7 to P10 (Cases).
use Rattle.std.specs.Prelude.{ℕ, ◌+◌, ◌-◌, ◌*◌, ◌≤◌, ◌<◌, min, ◌≡◌, ◌≢◌, true, false, List, ◌∷◌, T, ltb, length}
use Rattle.definitions.specs.declared.Packet.{Packet}
use Rattle.definitions.specs.Event.{Event, Open}
use Rattle.definitions.specs.declared.Outcome.TheVariants.{Real}
use Rattle.definitions.specs.declared.Answer.TheVariants.{Accepted, Refused, Slot}
use Rattle.definitions.specs.Sizes.{ids, places, pool_limit, shares, shortest, longest, first_come}
use Rattle.definitions.specs.Sample.{sample}
use Rattle.definitions.specs.Draw.{sum_below, draw}
use Rattle.definitions.specs.Client.{indifferent, private, is_active, kind_of, Client}
use Rattle.definitions.specs.Stock.{Stock, bare}
use Rattle.definitions.specs.State.{State, Core, unopened, running}
use Rattle.definitions.specs.Answers.{is_departure}
use Rattle.definitions.specs.Checks.{refused, within, rates, burst_fits}
use Rattle.definitions.specs.Calls.{on_change, on_load, on_arrive}
use Rattle.definitions.specs.Tick.{rule1, rule2, rule3, rule_of, contender_rate, private_rate, turn, on_tick}
use Rattle.definitions.specs.Core.{step}
use Rattle.definitions.specs.History.{client_of, stock_of, generator_of}
use Rattle.definitions.specs.Limits.{StateLimits}
use Rattle.definitions.specs.Stretch.{is_open}

-- the tick: what steps the generator, whom rule 2 picks, what is refilled
pub record TickFacts : Type 0 where
  -- "Discipline 0: the packet accepted earliest among all indifferent clients": nobody is drawn,
  -- and the generator stays as it is.
  pub tick_rule1_first_come : (s : State)
      → rule_of s ≡ rule1
      → s.discipline ≡ first_come
      → generator_of (on_tick s).core ≡ s.side.generator
  -- "Discipline 1: a draw among those with a packet waiting", and under any other but 0: the generator is where the draw's sample
  -- leaves it. "Every user of the draw takes this over" (paper 02, S-1).
  pub tick_rule1_drawn : (s : State)
      → rule_of s ≡ rule1
      → s.discipline ≢ first_come
      → generator_of (on_tick s).core ≡ (sample (sum_below ids (contender_rate s)) s.side.generator).generator
  -- "a draw among all private clients, waiting or not": so it is by rule 2, even where the slot idles.
  pub tick_rule2_generator : (s : State)
      → rule_of s ≡ rule2
      → generator_of (on_tick s).core ≡ (sample (sum_below ids (private_rate s.clients)) s.side.generator).generator
  -- "Otherwise the slot has nobody, and the generator is not stepped."
  pub tick_rule3_generator : (s : State) → rule_of s ≡ rule3 → generator_of (on_tick s).core ≡ s.side.generator
  -- "waiting or not": rule 2 looks at the generator and at the rates of the private clients, and at nothing else.
  pub tick_rule2_id : (s : State)
      → rule_of s ≡ rule2
      → (turn s).id ≡ (draw s.side.generator (private_rate s.clients)).id
  -- Hence two states that have these in common pick the same id, whatever waits and whatever the pools hold.
  pub tick_rule2_alike : (s t : State)
      → rule_of s ≡ rule2
      → rule_of t ≡ rule2
      → s.side.generator ≡ t.side.generator
      → ((id : ℕ) → private_rate s.clients id ≡ private_rate t.clients id)
      → (turn s).id ≡ (turn t).id
  -- "a private client's slot is never handed on": the outcome bears the id drawn, whatever that one has to send.
  pub tick_rule2_bears : (s : State) → rule_of s ≡ rule2 → T (is_departure (turn s).id (on_tick s).answer)
  -- "for every indifferent client .. the rate is added, up to burst × 1024", whoever was picked
  pub tick_refills : (s : State) (id : ℕ)
      → (s.clients id).kind ≡ indifferent
      → (client_of (on_tick s).core id).level ≡ min ((s.clients id).level + (s.clients id).rate) ((s.clients id).burst * shares)
  -- and for no private one
  pub tick_private_level : (s : State) (id : ℕ)
      → (s.clients id).kind ≡ private
      → (client_of (on_tick s).core id).level ≡ (s.clients id).level

-- what an id holds in a core: queue and pool, and its bucket
pub record Has (core : Core) (id : ℕ) (k : Stock) (level : ℕ) : Type 0 where
  pub stock_is : stock_of core id ≡ k
  pub level_is : (client_of core id).level ≡ level

-- that a change passes the checks before the threshold's: 4, 5, 7, 8 and 9
pub record PassesTo10 (s : State) (id kind rate burst : ℕ) : Type 0 where
  pub named : ltb id ids ≡ true
  pub active : is_active (s.clients id).kind ≡ true
  pub kinded : is_active (kind_of kind) ≡ true
  pub rated : within 1 shares rate ≡ true
  pub fits : burst_fits kind burst ≡ true

-- a change: what it leaves of a client, and what it is checked against
pub record ChangeFacts : Type 0 where
  -- "If the type stays, queue and pool stay, and a level above the new burst × 1024 comes down to it."
  pub change_keeps : (s : State) (id kind rate burst : ℕ)
      → (on_change s id kind rate burst).answer ≡ Accepted
      → (s.clients id).kind ≡ kind_of kind
      → Has (on_change s id kind rate burst).core id (s.side.stocks id) (min (s.clients id).level (burst * shares))
  -- "If the type differs, queue and pool become empty"; "A bucket now begins at level 0 after .. a change from private to
  -- indifferent" (paper 02, S-4).
  pub change_empties : (s : State) (id kind rate burst : ℕ)
      → (on_change s id kind rate burst).answer ≡ Accepted
      → (s.clients id).kind ≢ kind_of kind
      → Has (on_change s id kind rate burst).core id bare 0
  -- "the old rate is taken off before the threshold is checked": it is accepted if the rates without the old one and with the
  -- new one are within the threshold
  pub change_within : (s : State) (id kind rate burst : ℕ)
      → PassesTo10 s id kind rate burst
      → rates s.clients - (s.clients id).rate + rate ≤ s.threshold
      → (on_change s id kind rate burst).answer ≡ Accepted
  -- and gets 10 if they pass it
  pub change_past : (s : State) (id kind rate burst : ℕ)
      → PassesTo10 s id kind rate burst
      → s.threshold < rates s.clients - (s.clients id).rate + rate
      → (on_change s id kind rate burst).answer ≡ Refused 10

-- the order of the checks, and refusals
pub record CheckFacts : Type 0 where
  -- ".. packets wait already; the packet is dropped": 14 comes before 15 and takes no token; whatever the level, the core is
  -- as it was.
  pub arrive_full : (s : State) (id : ℕ) (p : Packet)
      → ltb id ids ≡ true
      → is_active (s.clients id).kind ≡ true
      → within shortest longest p.length ≡ true
      → length (s.side.stocks id).queue ≡ places
      → on_arrive s id p ≡ refused 14 (running s)
  -- "a load of 0 is accepted": at a full pool
  pub load_none : (s : State) (id : ℕ)
      → ltb id ids ≡ true
      → (s.clients id).kind ≡ private
      → (s.side.stocks id).pool ≡ pool_limit
      → (on_load s id 0).answer ≡ Accepted
  -- "A refused open keeps the earlier core", whatever that was.
  pub open_kept : (core : Core) (threshold discipline seed : ℕ)
      → (step core (Open threshold discipline seed)).answer ≢ Accepted
      → (step core (Open threshold discipline seed)).core ≡ core
  -- "every call but open | 19 | core unopened", and the core stays so
  pub unopened_refuses : (c : Event) → is_open c ≡ false → step unopened c ≡ refused 19 unopened
  -- "the first that fails gives its number, and nothing changes": so of any call on any core
  pub step-refused : (core : Core) (c : Event) (n : ℕ) → (step core c).answer ≡ Refused n → (step core c).core ≡ core

-- a client of rule 1: indifferent, with a packet first in its queue
pub record Contender (c : Client) (k : Stock) : Type 0 where
  pub indifferently : c.kind ≡ indifferent
  pub packet : Packet
  pub behind : List Packet
  pub waiting : k.queue ≡ packet ∷ behind

-- A turn by rule 1: "If an indifferent client has a packet, one goes out." Under either discipline the one picked is such a
-- client, and its first packet goes out, without padding; no dummy leaves by rule 1, and no slot idles.
abbrev pub Rule1Sends : Type 0
Rule1Sends =
    (s : State)
    → StateLimits s
    → rule_of s ≡ rule1
    → (picked : Contender (s.clients (turn s).id) (s.side.stocks (turn s).id))
    × ((on_tick s).answer ≡ Slot (Real (turn s).id picked.packet 0))

-- A turn by rule 2: "if a private client is active, a draw among all private clients". The one picked is private.
abbrev pub Rule2Private : Type 0
Rule2Private = (s : State) → StateLimits s → rule_of s ≡ rule2 → (s.clients (turn s).id).kind ≡ private
