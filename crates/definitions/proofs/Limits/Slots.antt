-- A tick keeps the limits.
-- A slot spends of one stock and refills all buckets: no rate moves, and what leaves the order has left an indifferent queue.
use Prim.Native.Nat.{ℕ, pred, ◌≤◌}
use mathlib.Core.Path.{◌≡◌, refl, sym, ap, subst, ◌∙◌}
use mathlib.Core.Bool.{Bool, true, false, cond, not, ◌&&◌, true≢false}
use mathlib.Core.List.{List, [], ◌∷◌, tail}
use lib.ListN.{length}
use Rattle.definitions.specs.declared.Packet.{Packet}
use Rattle.definitions.specs.Sizes.{ids}
use Rattle.definitions.specs.Client.{is_indifferent, Client, refilled}
use Rattle.definitions.specs.Stock.{Stock, empty, spent}
use Rattle.definitions.specs.State.{State, updated, without_first}
use Rattle.definitions.specs.Checks.{active_rate, rates}
use Rattle.definitions.specs.Tick.{contends, Rule, rule1, rule2, rule3, Turn, turn_by, turn, stocks_after, order_after, side_after, refill_all, slotted, on_tick}
use Rattle.definitions.specs.Limits.{StockLimits, standing, ordered, StateLimits, CoreLimits}
use Rattle.definitions.proofs.Laws.Tests.{lt_cases}
use Rattle.definitions.proofs.Laws.Clients.{put-cases, stocks_after-cases}
use Rattle.definitions.proofs.Laws.Rules.{Nowhere, rule-cases, turn_by-rule}
use Rattle.definitions.proofs.Limits.Order.{standing-without_first_same, standing-without_first_other}
use Rattle.definitions.proofs.Limits.Client.{limits_parts, parts_limits, refilled_parts}
use Rattle.definitions.proofs.Limits.Stock.{spent-limits}

-- what leaves a queue leaves the order
ordered-spent : (c : Client) (k : Stock) → ordered c (spent k) ≡ pred (ordered c k)
unfolding ordered spent
ordered-spent c k = go (is_indifferent c.kind) k.queue
  where
    go : (b : Bool) (q : List Packet) → cond b (length (tail q)) 0 ≡ pred (cond b (length q) 0)
    go true [] = refl
    go true (p ∷ ps) = refl
    go false q = refl

-- a client that does not contend has nothing in the order
pub ordered-silent : (c : Client) (k : Stock) → contends c k ≡ false → ordered c k ≡ 0
unfolding contends ordered
ordered-silent c k e = go (is_indifferent c.kind) k.queue e
  where
    go : (b : Bool) (q : List Packet) → (b && not (empty q)) ≡ false → cond b (length q) 0 ≡ 0
    go true [] f = refl
    go true (p ∷ ps) f = absurd (true≢false f)
    go false q f = refl

-- What a slot by each rule asks of the clients, so that the order stays whole: a pick by rule 2 leaves the order alone.
abbrev Quiet : Rule → State → Type 0
Quiet rule1 s = Unit {0}
Quiet rule2 s = (j : ℕ) → ordered (s.clients j) (s.side.stocks j) ≡ 0
Quiet rule3 s = Unit {0}

module _ (s : State) (known : StateLimits s) where
  picked_ordered : (id : ℕ)
      → ordered (s.clients id) (spent (s.side.stocks id)) ≡ pred (ordered (s.clients id) (s.side.stocks id))
  picked_ordered id = ordered-spent (s.clients id) (s.side.stocks id)

  slotted_order : (rule : Rule) (id : ℕ)
      → Quiet rule s
      → (j : ℕ)
      → standing j (order_after rule id s.side.order) ≡ ordered (s.clients j) (stocks_after rule id s.side.stocks j)
  unfolding order_after stocks_after
  slotted_order rule1 id quiet =
      put-cases s.side.stocks id (spent (s.side.stocks id))
      (λ j k. standing j (without_first id s.side.order) ≡ ordered (s.clients j) k)
      (standing-without_first_same id s.side.order ∙ ap pred (known.side_limits.order_whole id) ∙ sym (picked_ordered id))
      (λ j other. standing-without_first_other id j other s.side.order ∙ known.side_limits.order_whole j)
  slotted_order rule2 id quiet =
      put-cases s.side.stocks id (spent (s.side.stocks id)) (λ j k. standing j s.side.order ≡ ordered (s.clients j) k)
      (known.side_limits.order_whole id ∙ quiet id ∙ sym (picked_ordered id ∙ ap pred (quiet id)))
      (λ j other. known.side_limits.order_whole j)
  slotted_order rule3 id quiet = known.side_limits.order_whole

  slotted-limits : (t : Turn) → Quiet t.rule s → StateLimits (slotted s t)
  unfolding slotted updated side_after refill_all rates active_rate refilled ordered
  slotted-limits t quiet = record {
    threshold_low = known.threshold_low;
    threshold_high = known.threshold_high;
    discipline_high = known.discipline_high;
    rates_high = known.rates_high;
    client_limits = λ j.
        parts_limits (refilled (s.clients j))
        (refilled_parts (s.clients j) (limits_parts (s.clients j) (known.client_limits j)));
    ids_high = λ j high. ap refilled (known.ids_high j high);
    side_limits = record {
      stock_limits = stocks_after-cases (λ j k. StockLimits (s.clients j).kind k) t.rule t.id s.side.stocks
          known.side_limits.stock_limits
          (spent-limits (s.clients t.id).kind (s.side.stocks t.id) (known.side_limits.stock_limits t.id));
      order_whole = slotted_order t.rule t.id quiet;
    };
  }

  -- what stands in the order is of one of the ids
  pub ordered_high : (id : ℕ) → ids ≤ id → ordered (s.clients id) (s.side.stocks id) ≡ 0
  unfolding ordered
  ordered_high id high = ap (λ (c : Client). ordered c (s.side.stocks id)) (known.ids_high id high)

  -- where no client contends, none has a packet in the order
  quiet_order : Nowhere (λ id. contends (s.clients id) (s.side.stocks id))
      → (j : ℕ)
      → ordered (s.clients j) (s.side.stocks j) ≡ 0
  quiet_order none j =
      lt_cases j ids (λ below. ordered-silent (s.clients j) (s.side.stocks j) (none j below)) (ordered_high j)

  turn_by-limits : (rule : Rule) → Quiet rule s → StateLimits (slotted s (turn_by rule s))
  turn_by-limits rule quiet = slotted-limits (turn_by rule s) (subst (λ r. Quiet r s) (sym (turn_by-rule rule s)) quiet)

  pub tick_limits : CoreLimits (on_tick s).core
  unfolding on_tick turn
  tick_limits =
      rule-cases (λ rule. StateLimits (slotted s (turn_by rule s))) s
      (λ id below waits. turn_by-limits rule1 tt)
      (λ none id below secret. turn_by-limits rule2 (quiet_order none))
      (λ none none_secret. turn_by-limits rule3 tt)
