-- Rules 1 to 3 of a slot: the one whose turn it is has sent, and the generator is the turn's. Assumes nothing.
use Prim.Native.Nat.{ℕ, ◌<◌}
use mathlib.Core.Path.{◌≡◌, refl, sym, ap, subst, ◌∙◌}
use mathlib.Core.Logic.{◌≢◌}
use mathlib.Core.Bool.{true, false, cond}
use borrow.Author.Tests.{eq-eqb}
use Rattle.definitions.specs.declared.Outcome.TheVariants.{None}
use Rattle.definitions.specs.Sizes.{ids}
use Rattle.definitions.specs.Client.{is_indifferent}
use Rattle.definitions.specs.Stock.{Stock, empty, spent}
use Rattle.definitions.specs.State.{State, updated, put, without_first}
use Rattle.definitions.specs.Tick.{Rule, rule1, rule2, rule3, rule_of, turn, sent, outcome_by, stocks_after, order_after, side_after}
use Rattle.definitions.specs.Limits.{StateLimits}
use Rattle.definitions.proofs.Laws.Tests.{true-false}
use Rattle.definitions.proofs.Laws.Rules.{turn-rule}
use Rattle.definitions.proofs.Limits.Turns.{Contender, rule1_below, rule1_contender, rule2_below, rule2_private}
use Rattle.generator.specs.declared.Generator.{Generator}
use Rattle.marks.specs.Marks.{marked}
use Rattle.tables.specs.declared.Control.{Control}
use Rattle.tables.specs.declared.Tables.{Tables}
use Rattle.tables.specs.Tables.{count_at}
use Rattle.tables.specs.Controls.{with_generator}
use Rattle.tables.specs.Meaning.{kind_at, client_at, clients_of, stock_at, stocks_of, order_of, side_of, state_of}
use Rattle.tables.specs.Invariant.{Shape}
use Rattle.tables.proofs.MarkedKinds.{kind_indifferent}
use Rattle.tables.proofs.Touch.{client_own, stock_own}
use Rattle.slot.specs.declared.Choice.{Choice}
use Rattle.slot.specs.declared.Rule.TheVariants.{IndifferentFirst, PrivateDraw, Nobody}
use Rattle.slot.specs.declared.Sent.{Sent}
use Rattle.slot.specs.Turns.{name_of}
use Rattle.slot.specs.Sends.{Sender, state_after, Spent}
use Rattle.slot.specs.Slots.{unfilled, Due, Done}
use Rattle.slot.proofs.ChosenTurn.{queue_empty}

-- the generator is known to no mark and no table
module _ (c : Control) (t : Tables) (g : Generator) where
  shape_stepped : Shape c t → Shape (with_generator c g) t
  unfolding kind_at clients_of client_at
  shape_stepped h = record {
    sizes = h.sizes;
    heads = h.heads;
    waits = h.waits;
    apart = h.apart;
    rates_held = h.rates_held;
    sound = h.sound;
    order = h.order;
    ordered = h.ordered;
    placed = h.placed;
  }

  limits-stepped : StateLimits (state_of c t) → StateLimits (state_of (with_generator c g) t)
  unfolding state_of side_of kind_at clients_of client_at
  limits-stepped h = record {
    threshold_low = h.threshold_low;
    threshold_high = h.threshold_high;
    discipline_high = h.discipline_high;
    rates_high = h.rates_high;
    client_limits = h.client_limits;
    ids_high = h.ids_high;
    side_limits = record { stock_limits = h.side_limits.stock_limits; order_whole = h.side_limits.order_whole };
  }

module _ (c : Control) (t : Tables) (choice : Choice) (due : Due c t choice) where
  abbrev s : State
  s = state_of c t

  abbrev g : Generator
  g = choice.sample.generator

  abbrev id : ℕ
  id = choice.id

  abbrev d : Control
  d = with_generator c g

  known : StateLimits s
  known = due.core.limits

  -- what makes an id one that may send
  sender_of : id < ids → (marked c.indifferent id ≡ true → count_at t.stocks id ≢ 0) → Sender d t id
  sender_of below waits = record {
    core = record { shape = shape_stepped c t g due.core.shape; limits = limits-stepped c t g known };
    below = below;
    waits = waits;
  }

  mark_kind : id < ids → is_indifferent (clients_of c t id).kind ≡ marked c.indifferent id
  unfolding client_at
  mark_kind below = rw (client_own c t due.core.shape id below) (kind_indifferent c id)

  module _ (e : (turn s).rule ≡ rule1) where
    rule_is : rule_of s ≡ rule1
    rule_is = sym (turn-rule s) ∙ e

    first_below : id < ids
    first_below = subst (λ (j : ℕ). j < ids) (sym due.chosen.id) (rule1_below s known rule_is)

    first_contender : Contender (clients_of c t id) (stocks_of t id)
    unfolding state_of side_of
    first_contender = subst (λ (j : ℕ). Contender (clients_of c t j) (stocks_of t j)) (sym due.chosen.id) (rule1_contender s known rule_is)

    first_marked : marked c.indifferent id ≡ true
    first_marked = sym (mark_kind first_below) ∙ ap is_indifferent first_contender.indifferently

    first_waits : count_at t.stocks id ≢ 0
    unfolding stock_at
    first_waits none =
        true-false (queue_empty t id ∙ eq-eqb (count_at t.stocks id) 0 none)
        (ap (λ (x : Stock). empty x.queue) (sym (stock_own c t due.core.shape id first_below))
        ∙ ap empty first_contender.waiting)

  module _ (e : (turn s).rule ≡ rule2) where
    second_is : rule_of s ≡ rule2
    second_is = sym (turn-rule s) ∙ e

    second_below : id < ids
    second_below = subst (λ (j : ℕ). j < ids) (sym due.chosen.id) (rule2_below s known second_is)

    second_unmarked : marked c.indifferent id ≡ false
    unfolding state_of
    second_unmarked =
        sym (mark_kind second_below)
        ∙ subst (λ (j : ℕ). is_indifferent (clients_of c t j).kind ≡ false) (sym due.chosen.id)
        (ap is_indifferent (rule2_private s known second_is))

  -- ---- somebody's slot

  pub slot_sender : choice.rule ≢ Nobody → Sender d t id
  slot_sender some = go (turn s).rule refl
    where
      go : (r : Rule) → (turn s).rule ≡ r → Sender d t id
      go rule1 e = sender_of (first_below e) (λ m. first_waits e)
      go rule2 e = sender_of (second_below e) (λ m. true-false m (second_unmarked e))
      go rule3 e = absurd (some (due.chosen.rule ∙ ap name_of e))

  -- the parts of the definitions' slot, by its rule
  record Parts (rule : Rule) (j : ℕ) : Type 0 where
    pub outcome : sent id (clients_of c t id) (stocks_of t id) ≡ outcome_by rule j (state_of c t)
    pub stocks : put (stocks_of t) id (spent (stocks_of t id)) ≡ stocks_after rule j (stocks_of t)
    pub order : cond (marked c.indifferent id) (without_first id (order_of t)) (order_of t) ≡ order_after rule j (order_of t)

  parts : choice.rule ≢ Nobody → Parts (turn s).rule (turn s).id
  unfolding outcome_by stocks_after order_after state_of side_of
  parts some = subst (Parts (turn s).rule) due.chosen.id (go (turn s).rule refl)
    where
      go : (r : Rule) → (turn s).rule ≡ r → Parts r id
      go rule1 e = record { outcome = refl; stocks = refl; order = rw (first_marked e) }
      go rule2 e = record { outcome = refl; stocks = refl; order = rw (second_unmarked e) }
      go rule3 e = absurd (some (due.chosen.rule ∙ ap name_of e))

  pub slot_done : choice.rule ≢ Nobody → (r : Sent) (u : Tables) → Spent d t id r u → Done c t r u
  unfolding state_after state_of side_of updated side_after unfilled kind_at clients_of client_at
  slot_done some r u h = record {
    outcome = h.outcome ∙ (parts some).outcome;
    state = h.state ∙ made;
    shape = h.shape;
    opened = ap (λ (x : Control). x.opened) h.same;
    indifferent = ap (λ (x : Control). x.indifferent) h.same;
  }
    where
      made : state_after d t id ≡ unfilled s (turn s)
      made = λ i. record {
        threshold = c.threshold;
        discipline = c.discipline;
        clients = clients_of c t;
        side = record { generator = due.chosen.generator i; order = (parts some).order i; stocks = (parts some).stocks i };
      }

  -- ---- nobody's slot

  pub nobody_done : choice.rule ≡ Nobody → Done c t (record { control = d; outcome = None }) t
  unfolding state_of side_of updated side_after unfilled kind_at clients_of client_at outcome_by stocks_after order_after
  nobody_done e = record {
    outcome = sym (ap (λ (x : Rule). outcome_by x (turn s).id s) third);
    state = λ i. record {
      threshold = c.threshold;
      discipline = c.discipline;
      clients = clients_of c t;
      side = record {
        generator = due.chosen.generator i;
        order = ap (λ (x : Rule). order_after x (turn s).id (order_of t)) (sym third) i;
        stocks = ap (λ (x : Rule). stocks_after x (turn s).id (stocks_of t)) (sym third) i;
      };
    };
    shape = shape_stepped c t g due.core.shape;
    opened = refl;
    indifferent = refl;
  }
    where
      go : (r : Rule) → (turn s).rule ≡ r → (turn s).rule ≡ rule3
      go rule1 q = let no : IndifferentFirst ≡ Nobody = sym (due.chosen.rule ∙ ap name_of q) ∙ e in cc
      go rule2 q = let no : PrivateDraw ≡ Nobody = sym (due.chosen.rule ∙ ap name_of q) ∙ e in cc
      go rule3 q = q

      third : (turn s).rule ≡ rule3
      third = go (turn s).rule refl
