-- What demand 3 rules out: the leaks among paper 01's "Faults a builder may like". Each is a scheduler that is the defined one
-- but for that fault. The list's last line, "Refilling only the client picked, or taking a token for a packet refused with 14",
-- goes by nothing that a private neighbour sends or loads, and is not among them.
use Rattle.std.specs.Prelude.{ℕ, suc, ◌+◌, ◌%◌, Bool, true, false, cond, ◌&&◌, List, [], ◌++◌, eqb, ltb, length, replicate}
use Rattle.definitions.specs.Sizes.{ids, places}
use Rattle.definitions.specs.Draw.{sum_below, first_from}
use Rattle.definitions.specs.Client.{Client, nobody, kind_of, same_kind, is_indifferent, is_private, changed}
use Rattle.definitions.specs.Stock.{Stock, empty}
use Rattle.definitions.specs.State.{Side, State, running, updated, put, without}
use Rattle.definitions.specs.Checks.{Result, accepted, checked, unchanged, change_checks}
use Rattle.definitions.specs.Calls.{side_after_change}
use Rattle.definitions.specs.Tick.{Rule, rule1, rule2, rule3, Turn, with_id, turn}
use Rattle.definitions.specs.History.{Scheduler, scheduler_by}
use Rattle.definitions.specs.Sameness.{Sameness}
use Rattle.definitions.specs.Altered.{by_turn, with_arrive, token_left, arrive_if, with_change}

-- "Drawing only among private clients that wait": the others are as good as absent.
unfoldable pub waiting_only : State → ℕ → Client
waiting_only s id = cond (is_private (s.clients id).kind && empty (s.side.stocks id).queue) nobody (s.clients id)

unfoldable pub turn_of_waiting : State → Turn
turn_of_waiting s = turn (updated s (waiting_only s) s.side)

abbrev pub drawn_among_waiting : Scheduler
drawn_among_waiting = by_turn turn_of_waiting

-- "Passing an idle slot to the next private client", by rising id and round again
unfoldable pub next_private : (ℕ → Client) → ℕ → ℕ
next_private clients id =
    (suc id + first_from 0 ids (λ further. is_private (clients ((suc id + further) % ids)).kind)) % ids

abbrev pub is_rule2 : Rule → Bool
is_rule2 rule1 = false
is_rule2 rule2 = true
is_rule2 rule3 = false

unfoldable pub idles : Stock → Bool
idles k = empty k.queue && eqb k.pool 0

unfoldable pub turn_handed_on : State → Turn
turn_handed_on s =
    with_id (turn s)
    (cond (is_rule2 (turn s).rule && idles (s.side.stocks (turn s).id)) (next_private s.clients (turn s).id) (turn s).id)

abbrev pub idle_handed_on : Scheduler
idle_handed_on = by_turn turn_handed_on

-- "One shared store for all packets: 14 would depend on a neighbour." It has as many places as one queue, so that few
-- packets fill it.
unfoldable pub room_in_store : State → ℕ → Bool
room_in_store s id = ltb (sum_below ids (λ other. length (s.side.stocks other).queue)) places

abbrev pub one_store : Scheduler
one_store = scheduler_by (with_arrive (arrive_if room_in_store token_left)) turn

-- "Keeping the queue over a change of type." The packets of a client that becomes indifferent stand last in the order.
unfoldable pub order_kept : State → ℕ → ℕ → List ℕ
order_kept s id kind =
    cond (same_kind (s.clients id).kind (kind_of kind)) s.side.order
    (without id s.side.order ++ cond (is_indifferent (kind_of kind)) (replicate (length (s.side.stocks id).queue) id) [])

unfoldable pub side_kept : State → ℕ → ℕ → Side
side_kept s id kind = record {
  generator = s.side.generator;
  order = order_kept s id kind;
  stocks = put s.side.stocks id (record {
    queue = (s.side.stocks id).queue;
    pool = ((side_after_change s id kind).stocks id).pool;
  });
}

unfoldable pub change_keeping : State → ℕ → ℕ → ℕ → ℕ → Result
change_keeping s id kind rate burst =
    checked (change_checks s id kind rate burst) (unchanged (running s))
    (accepted (updated s (put s.clients id (changed (s.clients id) kind rate burst)) (side_kept s id kind)))

abbrev pub queue_over_change : Scheduler
queue_over_change = scheduler_by (with_change change_keeping) turn

-- of none of them demand 3 holds
pub record Leaking : Type 0 where
  pub drawn_among_waiting_leaks : Sameness drawn_among_waiting → ⊥
  pub idle_handed_on_leaks : Sameness idle_handed_on → ⊥
  pub one_store_leaks : Sameness one_store → ⊥
  pub queue_over_change_leaks : Sameness queue_over_change → ⊥
