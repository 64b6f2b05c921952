-- One slot (paper 01, "Tick is one slot"): rules 1 to 3 say whose it is, and rule 4 refills.
use Rattle.std.specs.Prelude.{ℕ, zero, suc, ◌-◌, Bool, false, cond, not, ◌&&◌, ◌||◌, List, [], ◌∷◌, eqb}
use Rattle.definitions.specs.declared.Packet.{Packet}
use Rattle.definitions.specs.declared.Outcome.{Outcome}
use Rattle.definitions.specs.declared.Outcome.TheVariants.{Real, Dummy, Idle, None}
use Rattle.definitions.specs.declared.Answer.TheVariants.{Slot}
use Rattle.definitions.specs.Sizes.{ids, longest, first_come}
use Rattle.definitions.specs.Sample.{Sample}
use Rattle.definitions.specs.Draw.{Drawn, draw}
use Rattle.definitions.specs.Client.{Client, is_indifferent, is_private, refilled}
use Rattle.definitions.specs.Stock.{Stock, empty, spent}
use Rattle.definitions.specs.State.{Side, State, running, updated, put, without_first, earliest}
use Rattle.definitions.specs.Checks.{Result}

-- whether a test holds of one of the first n ids
unfoldable pub any_below : ℕ → (ℕ → Bool) → Bool
any_below zero test = false
any_below (suc n) test = any_below n test || test n

-- whether a client is indifferent and has a packet
unfoldable pub contends : Client → Stock → Bool
contends c k = is_indifferent c.kind && not (empty k.queue)

-- "A slot goes by the first of the tick's rules 1 to 3 that applies."
pub data Rule : Type 0 where
  rule1 rule2 rule3 : Rule

unfoldable pub rule_of : State → Rule
rule_of s =
    cond (any_below ids (λ id. contends (s.clients id) (s.side.stocks id))) rule1
    (cond (any_below ids (λ id. is_private (s.clients id).kind)) rule2 rule3)

-- Rule 1: "a draw among those with a packet waiting".
unfoldable pub contender_rate : State → ℕ → ℕ
contender_rate s id = cond (contends (s.clients id) (s.side.stocks id)) (s.clients id).rate 0

-- Rule 2: "a draw among all private clients, waiting or not".
unfoldable pub private_rate : (ℕ → Client) → ℕ → ℕ
private_rate clients id = cond (is_private (clients id).kind) (clients id).rate 0

-- whose slot it is, by which rule, what was drawn, from the first draw to the last, and the generator after the pick
pub record Turn : Type 0 where
  pub rule : Rule
  pub id : ℕ
  pub draws : List Sample
  pub generator : ℕ

abbrev pub by_draw : Rule → Drawn → Turn
by_draw rule d = record { rule = rule; id = d.id; draws = d.sample ∷ []; generator = d.sample.generator }

-- a turn that is another id's
abbrev pub with_id : Turn → ℕ → Turn
with_id t id = record { rule = t.rule; id = id; draws = t.draws; generator = t.generator }

abbrev pub undrawn : Rule → ℕ → ℕ → Turn
undrawn rule id generator = record { rule = rule; id = id; draws = []; generator = generator }

-- "Discipline 0: the packet accepted earliest among all indifferent clients. Discipline 1: a draw."
unfoldable pub first_turn : State → Turn
first_turn s =
    cond (eqb s.discipline first_come)
    (undrawn rule1 (earliest s.side.order) s.side.generator)
    (by_draw rule1 (draw s.side.generator (contender_rate s)))

-- "Otherwise the slot has nobody, and the generator is not stepped": the id of such a turn says nothing.
unfoldable pub turn_by : Rule → State → Turn
turn_by rule1 s = first_turn s
turn_by rule2 s = by_draw rule2 (draw s.side.generator (private_rate s.clients))
turn_by rule3 s = undrawn rule3 0 s.side.generator

unfoldable pub turn : State → Turn
turn s = turn_by (rule_of s) s

-- "Padding is 1518 minus the length for a private client and 0 for an indifferent one."
unfoldable pub padding : Client → Packet → ℕ
padding c p = cond (is_private c.kind) (longest - p.length) 0

abbrev pub without_packet : ℕ → ℕ → Outcome
without_packet id zero = Idle id
without_packet id (suc pool) = Dummy id

abbrev pub sent_from : ℕ → Client → ℕ → List Packet → Outcome
sent_from id c pool [] = without_packet id pool
sent_from id c pool (p ∷ ps) = Real id p (padding c p)

-- "The one drawn sends its first packet; without one, a dummy, which lowers its pool by 1; without either, the slot idles."
unfoldable pub sent : ℕ → Client → Stock → Outcome
sent id c k = sent_from id c k.pool k.queue

unfoldable pub outcome_by : Rule → ℕ → State → Outcome
outcome_by rule1 id s = sent id (s.clients id) (s.side.stocks id)
outcome_by rule2 id s = sent id (s.clients id) (s.side.stocks id)
outcome_by rule3 id s = None

unfoldable pub stocks_after : Rule → ℕ → (ℕ → Stock) → ℕ → Stock
stocks_after rule1 id stocks = put stocks id (spent (stocks id))
stocks_after rule2 id stocks = put stocks id (spent (stocks id))
stocks_after rule3 id stocks = stocks

-- only rule 1 sends a packet that stands in the order of acceptance
unfoldable pub order_after : Rule → ℕ → List ℕ → List ℕ
order_after rule1 id order = without_first id order
order_after rule2 id order = order
order_after rule3 id order = order

-- a side after the turn t
unfoldable pub side_after : Side → Turn → Side
side_after side t = record {
  generator = t.generator;
  order = order_after t.rule t.id side.order;
  stocks = stocks_after t.rule t.id side.stocks;
}

-- rule 4: "Last, for every indifferent client, each bucket is refilled where it is kept, after the pick."
unfoldable pub refill_all : (ℕ → Client) → ℕ → Client
refill_all clients id = refilled (clients id)

-- the state after a slot that was the turn t
unfoldable pub slotted : State → Turn → State
slotted s t = updated s (refill_all s.clients) (side_after s.side t)

unfoldable pub on_tick : State → Result
on_tick s = record {
  answer = Slot (outcome_by (turn s).rule (turn s).id s);
  core = running (slotted s (turn s));
}
