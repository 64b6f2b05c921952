-- A tick against erasure: the turn is the same, the slot's effect commutes, and the outcome is the same unless it bears the
-- id of a hidden client. Rule 1 looks at indifferent clients, which are never hidden, and rule 2 at kinds and rates alone.
-- Assumes nothing.
use Prim.Native.Nat.{ℕ}
use mathlib.Core.Path.{◌≡◌, refl, sym, ap, ◌∙◌, fun_ext}
use mathlib.Core.Bool.{Bool, true, false, cond, not, ◌&&◌}
use mathlib.Core.List.{List}
use lib.Dec.{eqb}
use borrow.Author.Tests.{eqb-true}
use Rattle.definitions.specs.declared.Packet.{Packet}
use Rattle.definitions.specs.declared.Answer.TheVariants.{Slot}
use Rattle.definitions.specs.Sizes.{ids, first_come}
use Rattle.definitions.specs.Draw.{draw}
use Rattle.definitions.specs.Client.{Kind, absent, indifferent, private, is_indifferent, is_private, refilled}
use Rattle.definitions.specs.Stock.{Stock, empty, bare, spent}
use Rattle.definitions.specs.State.{State, running, updated, put, earliest}
use Rattle.definitions.specs.Answers.{bears, is_departure}
use Rattle.definitions.specs.Tick.{any_below, contends, Rule, rule1, rule2, rule3, rule_of, contender_rate, Turn, by_draw, undrawn, first_turn, turn_by, turn, sent, outcome_by, stocks_after, side_after, refill_all, slotted, on_tick}
use Rattle.definitions.proofs.Laws.Tests.{true-false}
use Rattle.definitions.proofs.Laws.Rules.{sent-bears}
use Rattle.definitions.proofs.Sameness.Erase.{hidden, shown, erase, erase_core, erase_path, shown_open, shown-kept, shown-put}

module _ (chosen : ℕ) where
  -- only private clients are hidden, and they do not contend
  shown-contends : (s : State) (id : ℕ)
      → contends (s.clients id) (shown chosen s.clients s.side.stocks id) ≡ contends (s.clients id) (s.side.stocks id)
  unfolding contends shown hidden
  shown-contends s id = go (s.clients id).kind
    where
      queue : List Packet
      queue = (s.side.stocks id).queue

      go : (k : Kind)
          → is_indifferent k && not (empty (cond (is_private k && not (eqb id chosen)) bare (s.side.stocks id)).queue)
          ≡ is_indifferent k && not (empty queue)
      go absent = refl
      go indifferent = refl
      go private = refl

  rule_erased : (s : State) → rule_of (erase chosen s) ≡ rule_of s
  unfolding rule_of erase
  rule_erased s =
      ap (λ (f : ℕ → Bool). cond (any_below ids f) rule1 (cond (any_below ids (λ id. is_private (s.clients id).kind)) rule2 rule3))
      (fun_ext (shown-contends s))

  contenders_erased : (s : State) → contender_rate (erase chosen s) ≡ contender_rate s
  unfolding contender_rate erase
  contenders_erased s = fun_ext (λ id. ap (λ (b : Bool). cond b (s.clients id).rate 0) (shown-contends s id))

  pub turn_erased : (s : State) → turn (erase chosen s) ≡ turn s
  unfolding turn turn_by first_turn erase
  turn_erased s = ap (λ (r : Rule). turn_by r (erase chosen s)) (rule_erased s) ∙ go (rule_of s)
    where
      go : (r : Rule) → turn_by r (erase chosen s) ≡ turn_by r s
      go rule1 =
          ap (λ (w : ℕ → ℕ). cond (eqb s.discipline first_come)
          (undrawn rule1 (earliest s.side.order) s.side.generator)
          (by_draw rule1 (draw s.side.generator w)))
          (contenders_erased s)
      go rule2 = refl
      go rule3 = refl

  spent_twice : (b : Bool) (k : Stock) → cond b bare (spent k) ≡ cond b bare (spent (cond b bare k))
  spent_twice true k = refl
  spent_twice false k = refl

  spent-shown : (s : State) (id : ℕ)
      → cond (hidden chosen id (s.clients id)) bare (spent (s.side.stocks id))
      ≡ cond (hidden chosen id (s.clients id)) bare (spent (shown chosen s.clients s.side.stocks id))
  unfolding shown
  spent-shown s id = spent_twice (hidden chosen id (s.clients id)) (s.side.stocks id)

  -- what rules 1 and 2 take from the client of the slot, at any id; rule 4 keeps every kind
  after_erased : (s : State) (r : Rule) (id j : ℕ)
      → shown chosen (refill_all s.clients) (stocks_after r id s.side.stocks) j
      ≡ shown chosen (refill_all s.clients) (stocks_after r id (shown chosen s.clients s.side.stocks)) j
  unfolding stocks_after refill_all refilled hidden
  after_erased s r id j = go r
    where
      picked : shown chosen (refill_all s.clients) (put s.side.stocks id (spent (s.side.stocks id))) j
          ≡ shown chosen (refill_all s.clients)
          (put (shown chosen s.clients s.side.stocks) id (spent (shown chosen s.clients s.side.stocks id))) j
      picked =
          shown-put chosen s.clients s.side.stocks (refill_all s.clients) id _ _ (λ i other. refl)
          (spent-shown s id)
          j

      go : (x : Rule)
          → shown chosen (refill_all s.clients) (stocks_after x id s.side.stocks) j
          ≡ shown chosen (refill_all s.clients) (stocks_after x id (shown chosen s.clients s.side.stocks)) j
      go rule1 = picked
      go rule2 = picked
      go rule3 = shown-kept chosen s.clients s.side.stocks (refill_all s.clients) j refl

  pub slotted_erased : (s : State) (t : Turn) → erase chosen (slotted s t) ≡ erase chosen (slotted (erase chosen s) t)
  unfolding slotted updated side_after erase
  slotted_erased s t =
      erase_path chosen (slotted s t) (slotted (erase chosen s) t) refl refl refl refl refl (after_erased s t.rule t.id)

  -- the outcome of the turn on a state and on its erasure: the same, unless the turn is a hidden client's
  pub outcome_erased : (s : State) (r : Rule) (id : ℕ) → hidden chosen id (s.clients id) ≡ false
      → outcome_by r id s ≡ outcome_by r id (erase chosen s)
  unfolding outcome_by erase
  outcome_erased s rule1 id e = ap (sent id (s.clients id)) (sym (shown_open chosen s.clients s.side.stocks id e))
  outcome_erased s rule2 id e = ap (sent id (s.clients id)) (sym (shown_open chosen s.clients s.side.stocks id e))
  outcome_erased s rule3 id e = refl

  -- whose id it bears
  outcome_bears : (s : State) (r : Rule) (id j : ℕ) → bears j (outcome_by r id s) ≡ bears j (outcome_by r id (erase chosen s))
  unfolding outcome_by erase bears
  outcome_bears s rule1 id j = sent-bears id (s.clients id) (s.side.stocks id) j ∙ sym (sent-bears id (s.clients id) _ j)
  outcome_bears s rule2 id j = sent-bears id (s.clients id) (s.side.stocks id) j ∙ sym (sent-bears id (s.clients id) _ j)
  outcome_bears s rule3 id j = refl

  -- an outcome that bears an id is the turn of that id
  outcome_turn : (s : State) (r : Rule) (id j : ℕ) → bears j (outcome_by r id s) ≡ true → id ≡ j
  unfolding outcome_by bears
  outcome_turn s rule1 id j e = eqb-true id j (sym (sent-bears id (s.clients id) (s.side.stocks id) j) ∙ e)
  outcome_turn s rule2 id j e = eqb-true id j (sym (sent-bears id (s.clients id) (s.side.stocks id) j) ∙ e)
  outcome_turn s rule3 id j e = true-false e refl

  -- a slot departs for the same client, hidden or not
  pub tick_departure : (s : State) (j : ℕ) → is_departure j (on_tick s).answer ≡ is_departure j (on_tick (erase chosen s)).answer
  unfolding on_tick is_departure
  tick_departure s j = rw (turn_erased s) (outcome_bears s (turn s).rule (turn s).id j)

  -- and its answer is the same if that client is not hidden
  pub tick_answer : (s : State) (j : ℕ) → hidden chosen j (s.clients j) ≡ false → is_departure j (on_tick s).answer ≡ true
      → (on_tick s).answer ≡ (on_tick (erase chosen s)).answer
  unfolding on_tick is_departure
  tick_answer s j seen e =
      rw (turn_erased s)
      (ap Slot (outcome_erased s (turn s).rule (turn s).id
      (ap (λ (d : ℕ). hidden chosen d (s.clients d)) (outcome_turn s (turn s).rule (turn s).id j e) ∙ seen)))

  pub tick_cores : (s : State) → erase_core chosen (on_tick s).core ≡ erase_core chosen (on_tick (erase chosen s)).core
  unfolding on_tick erase_core
  tick_cores s = rw (turn_erased s) (ap running (slotted_erased s (turn s)))
