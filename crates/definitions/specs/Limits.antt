-- The limits of paper 01, "Clients, queues, pools", claimed of every state that a history reaches.
use Rattle.std.specs.Prelude.{ℕ, suc, ◌*◌, ◌≤◌, ◌≡◌, cond, List, [], ◌∷◌, eqb, length}
use Rattle.definitions.specs.declared.Packet.{Packet}
use Rattle.definitions.specs.Sizes.{ids, places, pool_limit, shares, burst_limit, shortest, longest, weighted_draw}
use Rattle.definitions.specs.Client.{Kind, absent, indifferent, private, Client, nobody, is_indifferent}
use Rattle.definitions.specs.Stock.{Stock}
use Rattle.definitions.specs.State.{Side, State, Core, unopened, running}
use Rattle.definitions.specs.Checks.{rates}
use Rattle.definitions.specs.History.{History, scheduler, after}

-- "length outside 64..1518" never waits
abbrev pub LengthsFit : List Packet → Type 0
LengthsFit [] = Unit {0}
LengthsFit (p ∷ ps) = (shortest ≤ p.length) × (p.length ≤ longest) × LengthsFit ps

-- "A rate is a number of 1/1024 shares of the link."
pub record RateLimits (c : Client) : Type 0 where
  pub rate_low : 1 ≤ c.rate
  pub rate_high : c.rate ≤ shares

-- "An indifferent client has a burst, 1 to 64, and a bucket whose level runs from 0 to burst × 1024."
pub record IndifferentLimits (c : Client) : Type 0 where
  pub active : RateLimits c
  pub burst_low : 1 ≤ c.burst
  pub burst_high : c.burst ≤ burst_limit
  pub level_high : c.level ≤ c.burst * shares

-- A private client's "burst is given as 0", and it has no bucket.
pub record PrivateLimits (c : Client) : Type 0 where
  pub active : RateLimits c
  pub burst_none : c.burst ≡ 0
  pub level_none : c.level ≡ 0

-- an inactive id has nothing
abbrev pub LimitsBy : Kind → Client → Type 0
LimitsBy absent c = c ≡ nobody
LimitsBy indifferent c = IndifferentLimits c
LimitsBy private c = PrivateLimits c

abbrev pub ClientLimits : Client → Type 0
ClientLimits c = LimitsBy c.kind c

-- "No id uses another's places": no more packets wait than it has
pub record QueueLimits (queue : List Packet) : Type 0 where
  pub queue_high : length queue ≤ places
  pub queue_lengths : LengthsFit queue

-- "A private client has a pool, a count of dummies from 0 to 255." An indifferent one has no dummies,
-- and an inactive id has nothing.
abbrev pub PoolBy : Kind → ℕ → Type 0
PoolBy absent pool = pool ≡ 0
PoolBy indifferent pool = pool ≡ 0
PoolBy private pool = pool ≤ pool_limit

abbrev pub QueueBy : Kind → List Packet → Type 0
QueueBy absent queue = queue ≡ []
QueueBy indifferent queue = QueueLimits queue
QueueBy private queue = QueueLimits queue

pub record StockLimits (kind : Kind) (k : Stock) : Type 0 where
  pub queues : QueueBy kind k.queue
  pub pools : PoolBy kind k.pool

-- how often an id stands in the order of acceptance
unfoldable pub standing : ℕ → List ℕ → ℕ
standing id [] = 0
standing id (first ∷ rest) = cond (eqb first id) (suc (standing id rest)) (standing id rest)

-- how many packets of a client belong into the order of acceptance: all that wait if it is indifferent, else none
unfoldable pub ordered : Client → Stock → ℕ
ordered c k = cond (is_indifferent c.kind) (length k.queue) 0

-- what is so of a side, for the clients that send on it
pub record SideLimits (clients : ℕ → Client) (side : Side) : Type 0 where
  pub stock_limits : (id : ℕ) → StockLimits (clients id).kind (side.stocks id)
  -- the order of acceptance has each id as often as it has indifferent packets waiting
  pub order_whole : (id : ℕ) → standing id side.order ≡ ordered (clients id) (side.stocks id)

pub record StateLimits (s : State) : Type 0 where
  pub threshold_low : 1 ≤ s.threshold
  pub threshold_high : s.threshold ≤ shares
  pub discipline_high : s.discipline ≤ weighted_draw
  -- "The rates of all active clients together never pass the threshold."
  pub rates_high : rates s.clients ≤ s.threshold
  pub client_limits : (id : ℕ) → ClientLimits (s.clients id)
  -- "Ids run from 0 to 63."
  pub ids_high : (id : ℕ) → ids ≤ id → s.clients id ≡ nobody
  pub side_limits : SideLimits s.clients s.side

abbrev pub CoreLimits : Core → Type 0
CoreLimits unopened = Unit {0}
CoreLimits (running s) = StateLimits s

unfoldable pub Limits : Type 0
Limits = (h : History) → CoreLimits (after scheduler h)
