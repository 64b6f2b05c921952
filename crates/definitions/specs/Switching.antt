-- A client that switches type as often as it likes (paper 02, S-4): "Two landlords let tenants switch type by themselves, and
-- tenants learnt that each switch hands them a full burst. A bucket now begins at level 0 after a join and after a change from
-- private to indifferent." So a switch brings nothing: what is accepted of a client while it is indifferent was paid for by the
-- ticks that it spent so. A spell is the time from the call that makes it indifferent to the call that ends this.
-- Type and rate are read off the trace, whoever made it, from what the client is at the start.
use Rattle.std.specs.Prelude.{ℕ, ◌+◌, ◌/◌, ◌≤◌, max, ◌≡◌, Bool, false, cond, ◌&&◌, T, eqb}
use Rattle.definitions.specs.Event.{Event, Open, Join, Change, Leave, Load, Arrive, Tick}
use Rattle.definitions.specs.Sizes.{shares}
use Rattle.definitions.specs.Client.{Client, is_indifferent}
use Rattle.definitions.specs.State.{Core}
use Rattle.definitions.specs.Answers.{is_accepted}
use Rattle.definitions.specs.Checks.{Result}
use Rattle.definitions.specs.Tick.{turn}
use Rattle.definitions.specs.Core.{step}
use Rattle.definitions.specs.History.{History, Dealing, Trace, begin, ◌and◌, after, trace_of, client_of, scheduler_on, scheduler}
use Rattle.definitions.specs.Sameness.{is_tick, indifferent_since}
use Rattle.definitions.specs.Stretch.{stretch, behind, one_if, ticks, is_offer, undisturbed, acceptances, tokens}
use Rattle.definitions.specs.Greedy.{Greedy}

-- the rate of an id after an accepted call, given what it was before
unfoldable pub rate_by : ℕ → Event → ℕ → ℕ
rate_by id (Open threshold discipline seed) was = 0
rate_by id (Join other kind rate burst) was = cond (eqb other id) rate was
rate_by id (Change other kind rate burst) was = cond (eqb other id) rate was
rate_by id (Leave other) was = cond (eqb other id) 0 was
rate_by id (Load other dummies) was = was
rate_by id (Arrive other packet) was = was
rate_by id Tick was = was

-- what a client has in its bucket, which it has while it is indifferent
unfoldable pub bucket_of : Client → ℕ
bucket_of c = cond (is_indifferent c.kind) c.level 0

-- of an id that at the start is this client
module _ (id : ℕ) (client : Client) where
  -- its type and its rate at a place of the stretch
  abbrev pub indifferent_in : Trace → Bool
  indifferent_in = indifferent_since (is_indifferent client.kind) id

  unfoldable pub rate_in : Trace → ℕ
  rate_in begin = client.rate
  rate_in (t and d) = cond (is_accepted d.answer) (rate_by id d.event (rate_in t)) (rate_in t)

  -- a tick that it spends indifferent: one that refills its bucket
  unfoldable pub is_refill : Trace → Dealing → Bool
  is_refill t d = indifferent_in t && is_tick d.event

  -- how many there are, and the largest rate that it has at one of them
  unfoldable pub refills : Trace → ℕ
  refills begin = 0
  refills (t and d) = one_if (is_refill t d) (refills t)

  unfoldable pub top_rate : Trace → ℕ
  top_rate begin = 0
  top_rate (t and d) = cond (is_refill t d) (max (rate_in t) (top_rate t)) (top_rate t)

  -- how many of its packets are accepted while it is indifferent
  unfoldable pub admissions : Trace → ℕ
  admissions begin = 0
  admissions (t and d) = one_if (indifferent_in t && (is_offer id d.event && is_accepted d.answer)) (admissions t)

  -- what a call brings it: its rate, at a refill, whether the bucket has room for it or not
  unfoldable pub income : Trace → Dealing → ℕ
  income t d = cond (is_refill t d) (rate_in t) 0

  -- what the present spell has brought it, with what was in its bucket if the spell was under way at the start
  unfoldable pub credit : Trace → ℕ
  credit begin = bucket_of client
  credit (t and d) = cond (indifferent_in (t and d)) (credit t + income t d) 0

  -- the packets that the spells before it could pay for: what is left of a spell is lost with it
  unfoldable pub closed : Trace → ℕ
  closed begin = 0
  closed (t and d) = closed t + cond (indifferent_in (t and d)) 0 ((credit t + income t d) / shares)

  -- and all its spells, each rounded down by itself
  abbrev pub affordable : Trace → ℕ
  affordable t = closed t + credit t / shares

-- From any core on, and whatever is called: opens, joins, changes and leaves of the client as of others. What deals with the
-- calls is a parameter, so that the rule before the request can be held against it (SwitchingExamples).
module _ (act : Core → Event → Result) where
  -- some calls from a core on, with what they get
  abbrev pub dealt_by : Core → History → Trace
  dealt_by core = trace_of (scheduler_on core act turn)

  -- no more packets are accepted than its spells pay for, each by itself
  unfoldable pub BySpells : Type 0
  BySpells =
      (core : Core) (id : ℕ) (calls : History)
      → admissions id (client_of core id) (dealt_by core calls)
      ≤ affordable id (client_of core id) (dealt_by core calls)

  -- so no more than the ticks that it spent indifferent bring at its largest rate, beside what was in its bucket at the start
  unfoldable pub ByTicks : Type 0
  ByTicks =
      (core : Core) (id : ℕ) (calls : History)
      → admissions id (client_of core id) (dealt_by core calls)
      ≤ tokens (bucket_of (client_of core id)) (top_rate id (client_of core id) (dealt_by core calls))
      (refills id (client_of core id) (dealt_by core calls))

-- What is counted of a client that is indifferent all along, on the terms of the start: the ticks, its acceptances, and a rate that
-- is no larger than its own. So paper 01's bound is the case without a switch.
pub record Unswitched (id : ℕ) (client : Client) (t : Trace) : Type 0 where
  pub ticked : refills id client t ≡ ticks t
  pub accepted : admissions id client t ≡ acceptances id t
  pub rated : top_rate id client t ≤ client.rate

pub record Switching : Type 0 where
  -- what is read off the calls is what the core holds
  pub type_read : (core : Core) (id : ℕ) (calls : History)
      → indifferent_in id (client_of core id) (stretch core calls) ≡ is_indifferent (client_of (behind core calls) id).kind
  pub rate_read : (core : Core) (id : ℕ) (calls : History)
      → rate_in id (client_of core id) (stretch core calls) ≡ (client_of (behind core calls) id).rate
  pub staying : (core : Core) (id : ℕ) (calls : History)
      → T (is_indifferent (client_of core id).kind)
      → T (undisturbed id (stretch core calls))
      → Unswitched id (client_of core id) (stretch core calls)
  pub by_spells : BySpells step
  pub by_ticks : ByTicks step
  -- a client that is private or not active at the start has nothing in a bucket: n × rate / 1024, rounded down
  pub from_nothing : (core : Core) (id : ℕ) (calls : History)
      → is_indifferent (client_of core id).kind ≡ false
      → admissions id (client_of core id) (stretch core calls)
      ≤ tokens 0 (top_rate id (client_of core id) (stretch core calls)) (refills id (client_of core id) (stretch core calls))
  -- An indifferent client of burst 2 or more gains nothing by switching: where it stays as it is, and offers all it can (S-10), it
  -- has at least as many packets accepted as where it switches from the same core on, at rates up to its own, and is indifferent
  -- for no more ticks.
  pub nothing_gained : (h : History) (id : ℕ) (switching staying : History)
      → Greedy id (client_of (after scheduler h) id) (stretch (after scheduler h) staying)
      → top_rate id (client_of (after scheduler h) id) (stretch (after scheduler h) switching)
      ≤ (client_of (after scheduler h) id).rate
      → refills id (client_of (after scheduler h) id) (stretch (after scheduler h) switching)
      ≤ ticks (stretch (after scheduler h) staying)
      → admissions id (client_of (after scheduler h) id) (stretch (after scheduler h) switching)
      ≤ acceptances id (stretch (after scheduler h) staying)
