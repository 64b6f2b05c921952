-- Histories: lists of events, calls with any arguments, refused ones included, from an unopened core
-- (paper 01, "Two histories"). A history says what is called; a trace says what was called and what it got.
use Rattle.std.specs.Prelude.{ℕ, suc, List, []}
use Rattle.definitions.specs.declared.Packet.{Packet}
use Rattle.definitions.specs.Event.{Event}
use Rattle.definitions.specs.declared.Answer.{Answer}
use Rattle.definitions.specs.Sample.{Sample}
use Rattle.definitions.specs.Client.{Client, nobody}
use Rattle.definitions.specs.Stock.{Stock, bare}
use Rattle.definitions.specs.State.{State, Core, unopened, running}
use Rattle.definitions.specs.Checks.{Result}
use Rattle.definitions.specs.Tick.{Rule, rule1, rule2, rule3, Turn, turn}
use Rattle.definitions.specs.Core.{step}

infixl 20 ◌then◌
pub data History : Type 0 where
  start : History
  ◌then◌ : History → Event → History

-- "A place is a call's position in its history, or the history's end": the history up to there.
pub data Place (h : History) : History → Type 0 where
  end : Place h h
  before : {whole : History} {c : Event} → Place h whole → Place h (whole then c)

-- how many calls a history has
unfoldable pub calls : History → ℕ
calls start = 0
calls (h then c) = suc (calls h)

-- By which rule a slot goes. "Rule 2 picks the client drawn, whatever it sends. An unopened core's tick has no slot."
pub data Pick : Type 0 where
  no_slot by_rule1 : Pick
  by_rule2 : ℕ → Pick
  by_rule3 : Pick

-- a call that was made, what it got, and whom a slot picks there and by which draws: whose slot it was, if the call is a tick
pub record Dealing : Type 0 where
  pub event : Event
  pub answer : Answer
  pub pick : Pick
  pub draws : List Sample

infixl 20 ◌and◌
pub data Trace : Type 0 where
  begin : Trace
  ◌and◌ : Trace → Dealing → Trace

-- "Queue (handles and lengths from the front), pool and bucket (the level)", of each id
pub record Holdings : Type 0 where
  pub queue : ℕ → List Packet
  pub pool : ℕ → ℕ
  pub level : ℕ → ℕ

-- What can be seen of a scheduler. Demand 3 is stated of any scheduler; the one that the calls define is `scheduler`.
pub record Scheduler : Type 1 where
  pub Inside : Type 0
  pub unopened_core : Inside
  pub answer : Inside → Event → Answer
  pub next : Inside → Event → Inside
  pub pick : Inside → Pick
  pub draws : Inside → List Sample
  pub holdings : Inside → Holdings

module _ (S : Scheduler) where
  -- the core after a history
  unfoldable pub after : History → S.Inside
  after start = S.unopened_core
  after (h then c) = S.next (after h) c

  -- what a call gets at a place
  unfoldable pub answer_at : History → Event → Answer
  answer_at h c = S.answer (after h) c

  unfoldable pub dealing_at : History → Event → Dealing
  dealing_at h c = record { event = c; answer = answer_at h c; pick = S.pick (after h); draws = S.draws (after h) }

  -- a history with what its calls get
  unfoldable pub trace_of : History → Trace
  trace_of start = begin
  trace_of (h then c) = trace_of h and dealing_at h c

unfoldable pub client_of : Core → ℕ → Client
client_of unopened id = nobody
client_of (running s) id = s.clients id

unfoldable pub stock_of : Core → ℕ → Stock
stock_of unopened id = bare
stock_of (running s) id = s.side.stocks id

unfoldable pub generator_of : Core → ℕ
generator_of unopened = 0
generator_of (running s) = s.side.generator

abbrev pub pick_by : Rule → ℕ → Pick
pick_by rule1 id = by_rule1
pick_by rule2 id = by_rule2 id
pick_by rule3 id = by_rule3

abbrev pub pick_in : (State → Turn) → Core → Pick
pick_in turn_of unopened = no_slot
pick_in turn_of (running s) = pick_by (turn_of s).rule (turn_of s).id

abbrev pub draws_in : (State → Turn) → Core → List Sample
draws_in turn_of unopened = []
draws_in turn_of (running s) = (turn_of s).draws

abbrev pub pick_of : Core → Pick
pick_of = pick_in turn

abbrev pub draws_of : Core → List Sample
draws_of = draws_in turn

unfoldable pub holdings_of : Core → Holdings
holdings_of core = record {
  queue = λ id. (stock_of core id).queue;
  pool = λ id. (stock_of core id).pool;
  level = λ id. (client_of core id).level;
}

-- a scheduler with a core inside, begun with any core: what it makes of a call, and whose turn its slots are
abbrev pub scheduler_on : Core → (Core → Event → Result) → (State → Turn) → Scheduler
scheduler_on begun act turn_of = record {
  Inside = Core;
  unopened_core = begun;
  answer = λ core c. (act core c).answer;
  next = λ core c. (act core c).core;
  pick = pick_in turn_of;
  draws = draws_in turn_of;
  holdings = holdings_of;
}

abbrev pub scheduler_by : (Core → Event → Result) → (State → Turn) → Scheduler
scheduler_by = scheduler_on unopened

abbrev pub scheduler : Scheduler
scheduler = scheduler_by step turn
