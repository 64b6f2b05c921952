-- Whose slot it is, read off the marks: a word with the marks of those in a draw has the definitions' weights, and the place
-- accepted earliest is of the id accepted earliest. Assumes nothing.
use Prim.Native.Nat.{ℕ, zero, suc, ◌+◌, ◌/◌, ◌<◌}
use mathlib.Core.Path.{◌≡◌, refl, sym, ap, subst, ◌∙◌}
use mathlib.Core.Logic.{◌≢◌}
use mathlib.Core.Bool.{Bool, true, false, cond, ◌&&◌, and_comm}
use mathlib.Core.List.{List, [], ◌∷◌, map}
use native.Mathlib.Omega.{arith}
use lib.Dec.{eqb}
use borrow.Author.Tests.{eq-eqb, ne_eqb}
use Rattle.definitions.specs.Sizes.{ids, places, first_come}
use Rattle.definitions.specs.Draw.{Drawn, draw}
use Rattle.definitions.specs.Client.{Kind, absent, indifferent, private, is_active, is_indifferent, is_private, Client}
use Rattle.definitions.specs.Stock.{Stock, empty}
use Rattle.definitions.specs.State.{State, earliest}
use Rattle.definitions.specs.Tick.{any_below, contends, Rule, rule1, rule2, rule_of, contender_rate, private_rate, by_draw, first_turn, turn_by, turn}
use Rattle.definitions.specs.Limits.{standing, ordered}
use Rattle.definitions.specs.Checks.{active_rate, rates}
use Rattle.definitions.proofs.Laws.Sums.{sum_below_plus, any_below-true}
use Rattle.definitions.proofs.Limits.Turns.{contends_contender}
use Rattle.draw.specs.declared.Sample.{Sample}
use Rattle.marks.specs.Marks.{marked, marked_number}
use Rattle.marks.proofs.IdSearch.{any_below_cong}
use Rattle.draw.specs.Weights.{weight_at}
use Rattle.draw.specs.Samples.{SameSample, Undrawn}
use Rattle.draw.proofs.EqualWeights.{draw_cong}
use Rattle.draw.proofs.Samples.{drawn_stands, undrawn-stands, draw_steps}
use Rattle.order.specs.Order.{front_of}
use Rattle.order.specs.Owner.{owner}
use Rattle.order.proofs.OrderWalk.{ordered-walked}
use Rattle.order.proofs.Owner.{front_earliest}
use Rattle.tables.specs.declared.Control.{Control}
use Rattle.tables.specs.declared.Tables.{Tables}
use Rattle.tables.specs.Tables.{head_at, count_at, ring}
use Rattle.tables.specs.Meaning.{packet_at, queue_at, client_at, clients_of, stock_at, stocks_of, order_of, side_of, state_of}
use Rattle.tables.specs.Invariant.{Shape, SoundCore}
use Rattle.tables.proofs.MarkedKinds.{kind_indifferent, kind_private}
use Rattle.tables.proofs.Touch.{waits_here, client_own, stock_own}
use Rattle.slot.specs.declared.Choice.{Choice}
use Rattle.slot.specs.declared.Rule.TheVariants.{IndifferentFirst, PrivateDraw, Nobody}
use Rattle.slot.specs.Turns.{name_of, Chosen, DrawnAmong, HeldByBoth}
use Rattle.slot.proofs.RefillMarked.{rate_first}

-- a queue is empty exactly where its count is 0
pub queue_empty : (t : Tables) (id : ℕ) → empty (queue_at t id) ≡ eqb (count_at t.stocks id) 0
unfolding queue_at ring
queue_empty t id = go (head_at t.stocks id) (count_at t.stocks id)
  where
    go : (head n : ℕ) → empty (map (packet_at t) (ring id head n)) ≡ eqb n 0
    go head zero = refl
    go head (suc n) = sym (ne_eqb (suc n) 0 (omega arith))

-- the order of ids is that of the places
pub order_owners : (c : Control) (t : Tables) (shape : Shape c t) → order_of t ≡ map owner shape.order
unfolding order_of
order_owners c t shape = ap (map owner) (ordered-walked t.links shape.order shape.ordered)

module _ (c : Control) (t : Tables) (core : SoundCore c t) where
  abbrev clients : ℕ → Client
  clients = clients_of c t

  abbrev stocks : ℕ → Stock
  stocks = stocks_of t

  abbrev s : State
  s = state_of c t

  -- whether an id contends
  abbrev waits : ℕ → Bool
  waits id = contends (clients id) (stocks id)

  -- ---- the marks of those in a draw

  pub contends_marks : (id : ℕ) → id < ids → marked c.waiting id && marked c.indifferent id ≡ waits id
  unfolding contends client_at stock_at
  contends_marks id below =
      rw (
        client_own c t core.shape id below,
        stock_own c t core.shape id below,
        kind_indifferent c id,
        queue_empty t id,
        sym (waits_here c t core.shape id below),
      )
      (and_comm (marked c.waiting id) (marked c.indifferent id))

  pub private_marks : (id : ℕ) → id < ids → marked c.private id ≡ is_private (clients id).kind
  unfolding client_at
  private_marks id below =
      rw (client_own c t core.shape id below) (sym (kind_private c id (core.shape.apart id)))

  -- a word of marks and the test of the definitions that it stands for
  module _ (word : ℕ) (test : ℕ → Bool) (agree : (id : ℕ) → id < ids → marked word id ≡ test id) where
    any_agrees : any_below ids (marked word) ≡ any_below ids test
    any_agrees = any_below_cong ids (marked word) test agree

    weight_agrees : (id : ℕ) → id < ids → weight_at word t.terms id ≡ cond (test id) (clients id).rate 0
    unfolding weight_at marked_number client_at
    weight_agrees id below =
        rw (agree id below, sym (rate_first t.terms id), client_own c t core.shape id below)

    draw_agrees : (g : ℕ) → draw g (weight_at word t.terms) ≡ draw g (λ id. cond (test id) (clients id).rate 0)
    draw_agrees g = draw_cong g (weight_at word t.terms) (λ id. cond (test id) (clients id).rate 0) weight_agrees

  indifferent_marks : (id : ℕ) → id < ids → marked c.indifferent id ≡ is_indifferent (clients id).kind
  unfolding client_at
  indifferent_marks id below = rw (client_own c t core.shape id below) (sym (kind_indifferent c id))

  -- an active client is of one kind, and the control has the rates of all
  pub held_by_both : HeldByBoth c t.terms
  unfolding rates active_rate
  held_by_both =
      core.shape.rates_held
      ∙ sum_below_plus ids (weight_at c.private t.terms) (weight_at c.indifferent t.terms) (active_rate clients)
      (λ id below. rw (
        weight_agrees c.private (λ j. is_private (clients j).kind) private_marks id below,
        weight_agrees c.indifferent (λ j. is_indifferent (clients j).kind) indifferent_marks id below,
      ) (by_kind (clients id).kind (clients id).rate))
    where
      by_kind : (k : Kind) (rate : ℕ) → cond (is_active k) rate 0 ≡ cond (is_private k) rate 0 + cond (is_indifferent k) rate 0
      by_kind absent rate = refl
      by_kind indifferent rate = omega arith
      by_kind private rate = omega arith

  -- a draw of the code is the definitions' draw that its weights stand for, and takes a step
  drawn_chosen : (rule : Rule) (word : ℕ) (r : Choice)
      → DrawnAmong (name_of rule) word c.generator.value t.terms r
      → (weight : ℕ → ℕ)
      → draw c.generator.value (weight_at word t.terms) ≡ draw c.generator.value weight
      → Chosen r (by_draw rule (draw c.generator.value weight))
  drawn_chosen rule word r d weight agrees = record {
    rule = d.rule;
    id = d.id ∙ ap (λ (x : Drawn). x.id) agrees;
    draws = drawn_stands r.sample (subst (λ (x : Drawn). SameSample r.sample x.sample) agrees d.sample) (draw_steps _ weight);
    generator = d.sample.generator ∙ ap (λ (x : Drawn). x.sample.generator) agrees;
  }

  -- ---- rule 1

  module _ (word : ℕ) (marks : (id : ℕ) → marked word id ≡ marked c.waiting id && marked c.indifferent id) where
    contend : (id : ℕ) → id < ids → marked word id ≡ waits id
    contend id below = marks id ∙ contends_marks id below

    some_contend : any_below ids (marked word) ≡ any_below ids waits
    some_contend = any_agrees word waits contend

    module _ (any : any_below ids (marked word) ≡ true) where
      turn_first : turn s ≡ first_turn s
      unfolding turn rule_of turn_by state_of side_of
      turn_first = rw (sym some_contend ∙ any)

      pub chosen_contender : c.discipline ≢ 0
          → (r : Choice) → DrawnAmong IndifferentFirst word c.generator.value t.terms r → Chosen r (turn s)
      unfolding first_turn state_of side_of first_come contender_rate
      chosen_contender drawn r d =
          rw (turn_first, ne_eqb c.discipline 0 drawn)
          (drawn_chosen rule1 word r d _ (draw_agrees word waits contend c.generator.value))

      -- where an indifferent packet waits the order has a first
      contender_ordered : (id : ℕ) → waits id ≡ true → 0 < ordered (clients id) (stocks id)
      unfolding ordered
      contender_ordered id e =
          let at = contends_contender (clients id) (stocks id) e in
          rw (at.indifferently, at.waiting) (omega arith)

      order_some : (order : List ℕ) → ((id : ℕ) → standing id (map owner order) ≡ ordered (clients id) (stocks id))
          → earliest (map owner order) ≡ owner (front_of order)
      unfolding standing
      order_some (p ∷ order) whole = front_earliest p order
      order_some [] whole =
          let found = any_below-true ids waits (sym some_contend ∙ any) in
          absurd (omega (arith, whole found.0, contender_ordered found.0 found.2))

      pub chosen_earliest : c.discipline ≡ 0 → (front : ℕ) → front ≡ front_of core.shape.order
          → (r : Choice) → r.rule ≡ IndifferentFirst → r.id ≡ front / places → Undrawn c.generator r.sample → Chosen r (turn s)
      unfolding first_turn state_of side_of first_come owner
      chosen_earliest first front e r rule id none =
          rw (turn_first, eq-eqb c.discipline 0 first)
          (record {
            rule = rule;
            id = id ∙ ap owner e ∙ sym (order_some core.shape.order whole)
                ∙ ap earliest (sym (order_owners c t core.shape));
            draws = undrawn-stands none;
            generator = ap (λ (x : Sample). x.generator.value) none;
          })
        where
          whole : (id : ℕ) → standing id (map owner core.shape.order) ≡ ordered (clients id) (stocks id)
          whole id = ap (standing id) (sym (order_owners c t core.shape)) ∙ core.limits.side_limits.order_whole id

    -- ---- rules 2 and 3

    module _ (none : any_below ids (marked word) ≡ false) where
      some_private : any_below ids (marked c.private) ≡ any_below ids (λ id. is_private (clients id).kind)
      some_private = any_agrees c.private (λ id. is_private (clients id).kind) private_marks

      pub chosen_private : any_below ids (marked c.private) ≡ true
          → (r : Choice) → DrawnAmong PrivateDraw c.private c.generator.value t.terms r → Chosen r (turn s)
      unfolding turn rule_of turn_by state_of side_of private_rate
      chosen_private any r d =
          rw (sym some_contend ∙ none, sym some_private ∙ any)
          (drawn_chosen rule2 c.private r d _
          (draw_agrees c.private (λ id. is_private (clients id).kind) private_marks c.generator.value))

      pub chosen_nobody : any_below ids (marked c.private) ≡ false
          → (r : Choice) → r.rule ≡ Nobody → r.id ≡ 0 → Undrawn c.generator r.sample → Chosen r (turn s)
      unfolding turn rule_of turn_by state_of side_of
      chosen_nobody any r rule id still =
          rw (sym some_contend ∙ none, sym some_private ∙ any)
          (record { rule = rule; id = id; draws = undrawn-stands still; generator = ap (λ (x : Sample). x.generator.value) still })
