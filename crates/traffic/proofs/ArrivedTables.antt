-- What a packet's arrival leaves in the tables, and that it means what the definitions say. The packet goes to the free place
-- behind the queue's ring, so that the packets that wait stay as they are; of the other ids nothing is touched. Assumes nothing.
use Prim.Native.Nat.{ℕ, suc, ◌+◌, ◌-◌, ◌*◌, ◌<◌}
use mathlib.Core.Path.{◌≡◌, refl, sym, ap, ap₂, ◌∙◌}
use mathlib.Core.Logic.{◌≢◌}
use mathlib.Core.Bool.{Bool, true, false, cond, ◌&&◌, ◌||◌, or-true, or-false}
use mathlib.Core.List.{List, [], ◌∷◌, ◌++◌, map}
use native.Mathlib.Omega.{arith}
use lib.Dec.{eqb, ltb, eqb-suc-zero}
use lib.ListN.{length, set, length-set}
use lib.Seq.{get_or-set_same, get_or-set_other}
use borrow.Author.Tests.{lt-ltb, ne_eqb}
use Rattle.definitions.specs.declared.Packet.{Packet}
use Rattle.definitions.specs.Sizes.{ids, places, shares}
use Rattle.definitions.specs.Client.{Client, is_indifferent, charged}
use Rattle.definitions.specs.Stock.{Stock, queued}
use Rattle.definitions.specs.State.{updated, put}
use Rattle.definitions.specs.Calls.{order_after_arrival, side_after_arrival}
use Rattle.definitions.proofs.Laws.Tests.{eqb_same, cond_both}
use Rattle.definitions.proofs.Laws.Rates.{held}
use Rattle.marks.specs.Marks.{marked}
use Rattle.order.specs.Order.{sentinel, Sound, Ordered, Absent}
use Rattle.order.specs.Owner.{owner, places_of}
use Rattle.order.proofs.DistinctLists.{all_map}
use Rattle.order.proofs.Owner.{map-owner-append, places_of_push_own, places_of_push_other}
use Rattle.order.proofs.OrderWalk.{ordered-walked}
use Rattle.tables.specs.declared.Control.{Control}
use Rattle.tables.specs.Controls.{with_waiting}
use Rattle.tables.specs.declared.Tables.{Tables}
use Rattle.tables.specs.Tables.{tables, rate_column, burst_column, level_column, term_columns}
use Rattle.tables.specs.Tables.{pool_column, head_column, count_column, stock_columns, field, written, level_at, head_at, count_at, ring}
use Rattle.tables.specs.Meaning.{kind_at, packet_at, queue_at, client_at, clients_of, stock_at, stocks_of, order_of, side_of, state_of}
use Rattle.tables.specs.Invariant.{Shape}
use Rattle.tables.proofs.Fields.{OnlyAt, only_set, store_own, place_owner}
use Rattle.tables.proofs.QueueRing.{place_of, place_within, ring_push, ring_free, packets_same, packets_append}
use Rattle.tables.proofs.Touch.{Touch, touch_clients, touch_stocks, touch_shape, client_own, stock_own, rates-kept}

-- the place that the packet goes to
abbrev pub free_place : Tables → ℕ → ℕ
free_place t id = place_of id (head_at t.stocks id + count_at t.stocks id)

pub place_stored : (t : Tables) (id : ℕ) → id < ids → free_place t id < ids * places
unfolding sentinel
place_stored t id below = place_within id below (head_at t.stocks id + count_at t.stocks id)

pub place_own : (t : Tables) (id : ℕ) → owner (free_place t id) ≡ id
place_own t id = place_owner id (head_at t.stocks id + count_at t.stocks id)

-- the terms once a packet is paid, and those after: an indifferent client pays
abbrev pub paid_terms : Tables → ℕ → List ℕ
paid_terms t id = written t.terms level_column id (level_at t.terms id - shares)

abbrev pub charged_terms : Control → Tables → ℕ → List ℕ
charged_terms c t id = cond (is_indifferent (kind_at c id)) (paid_terms t id) t.terms

-- the stocks after: one packet more
abbrev pub counted_stocks : Tables → ℕ → List ℕ
counted_stocks t id = written t.stocks count_column id (count_at t.stocks id + 1)

-- the tables after, with the links anew
abbrev pub arrived_tables : Control → Tables → ℕ → Packet → List ℕ → Tables
arrived_tables c t id p links =
    tables (charged_terms c t id) (counted_stocks t id) (set t.handles (free_place t id) p.handle)
    (set t.lengths (free_place t id) p.length) links t.counts

-- what the links after say: an indifferent client's packet is the last
pub record Lined (c : Control) (t : Tables) (id : ℕ) (old links : List ℕ) : Type 0 where
  pub sound : Sound links
  pub ordered : Ordered links (cond (is_indifferent (kind_at c id)) (old ++ (free_place t id ∷ [])) old)

module _ (c : Control) (t : Tables) (old : Shape c t) (id : ℕ) (p : Packet) (below : id < ids)
    (room : count_at t.stocks id < places) (links : List ℕ) (waiting : ℕ) (lined : Lined c t id old.order links)
    (marks : (j : ℕ) → marked waiting j ≡ marked c.waiting j || (eqb j id && ltb id ids)) where
  abbrev after : Tables
  after = arrived_tables c t id p links

  abbrev place : ℕ
  place = free_place t id

  abbrev taken : List ℕ
  taken = ring id (head_at t.stocks id) (count_at t.stocks id)

  abbrev indifferent : Bool
  indifferent = is_indifferent (kind_at c id)

  -- the id's own numbers after

  paid : (column : ℕ)
      → field column (paid_terms t id) id
      ≡ cond (eqb column level_column) (level_at t.terms id - shares) (field column t.terms id)
  unfolding ids
  paid column =
      store_own t.terms term_columns level_column column id (level_at t.terms id - shares) old.sizes.terms (omega arith) below

  counted : (column : ℕ)
      → field column (counted_stocks t id) id
      ≡ cond (eqb column count_column) (count_at t.stocks id + 1) (field column t.stocks id)
  unfolding ids
  counted column =
      store_own t.stocks stock_columns count_column column id (count_at t.stocks id + 1) old.sizes.stocks (omega arith) below

  one_more : count_at (counted_stocks t id) id ≡ suc (count_at t.stocks id)
  one_more = omega (arith, counted count_column)

  client_after : client_at (with_waiting c waiting) after id ≡ charged (client_at c t id)
  unfolding client_at charged kind_at
  client_after = λ i. record {
    kind = kind_at c id;
    rate = kept rate_column (paid rate_column) i;
    burst = kept burst_column (paid burst_column) i;
    level = level-after indifferent i;
  }
    where
      -- a column that paying leaves is as it was for either kind
      kept : (column : ℕ) → field column (paid_terms t id) id ≡ field column t.terms id
          → field column (charged_terms c t id) id ≡ field column t.terms id
      kept column same = cond_both (λ (terms : List ℕ). field column terms id ≡ field column t.terms id) indifferent same refl

      level-after : (b : Bool) → level_at (cond b (paid_terms t id) t.terms) id
          ≡ cond b (level_at t.terms id - shares) (level_at t.terms id)
      level-after true = paid level_column
      level-after false = refl

  -- the packets after

  packet_here : packet_at after place ≡ p
  unfolding packet_at
  packet_here = λ i. record {
    handle = get_or-set_same t.handles place p.handle 0 (rw old.sizes.handles (place_stored t id below)) i;
    length = get_or-set_same t.lengths place p.length 0 (rw old.sizes.lengths (place_stored t id below)) i;
  }

  packet_other : (q : ℕ) → place ≢ q → packet_at after q ≡ packet_at t q
  unfolding packet_at
  packet_other q other = λ i. record {
    handle = get_or-set_other t.handles place q p.handle 0 (λ e. other (sym e)) i;
    length = get_or-set_other t.lengths place q p.length 0 (λ e. other (sym e)) i;
  }

  ring-after : ring id (head_at after.stocks id) (count_at after.stocks id) ≡ taken ++ (place ∷ [])
  ring-after = rw (counted head_column, one_more) (ring_push id (head_at t.stocks id) (count_at t.stocks id))

  free : Absent place taken
  free = ring_free id (head_at t.stocks id) (count_at t.stocks id) room

  waiting_same : map (packet_at after) taken ≡ map (packet_at t) taken
  waiting_same =
      packets_same t after taken
      (all_map (λ q. place ≢ q) (λ q. packet_at after q ≡ packet_at t q) packet_other taken free)

  queue_after : queue_at after id ≡ queue_at t id ++ (p ∷ [])
  unfolding queue_at
  queue_after =
      ap (map (packet_at after)) ring-after ∙ packets_append after taken (place ∷ [])
      ∙ ap₂ (λ (xs : List Packet) (x : Packet). xs ++ (x ∷ [])) waiting_same packet_here

  stock_after : stock_at after id ≡ queued (stock_at t id) p
  unfolding stock_at queued
  stock_after = λ i. record { queue = queue_after i; pool = counted pool_column i }

  -- the order after

  abbrev behind : Bool → List ℕ
  behind b = cond b (old.order ++ (place ∷ [])) old.order

  placed_after : (b : Bool) → places_of id old.order ≡ cond b taken []
      → places_of id (behind b) ≡ cond b (taken ++ (place ∷ [])) []
  placed_after true e =
      places_of_push_own id place old.order (place_own t id)
      ∙ ap (λ (xs : List ℕ). xs ++ (place ∷ [])) e
  placed_after false e = e

  others-after : (b : Bool) (j : ℕ) → j ≢ id → places_of j (behind b) ≡ places_of j old.order
  others-after true j other =
      places_of_push_other j place old.order
      (λ e. other (sym e ∙ place_own t id))
  others-after false j other = refl

  owners_after : (b : Bool) → map owner (behind b) ≡ cond b (map owner old.order ++ (id ∷ [])) (map owner old.order)
  owners_after true =
      map-owner-append old.order (place ∷ [])
      ∙ ap (λ (x : ℕ). map owner old.order ++ (x ∷ [])) (place_own t id)
  owners_after false = refl

  touch : Touch c t old (with_waiting c waiting) after id
  unfolding held charged client_at kind_at
  touch = record {
    below = below;
    sizes = record {
      terms = cond_both (λ (terms : List ℕ). length terms ≡ term_columns * ids) indifferent
          (length-set t.terms _ _ ∙ old.sizes.terms) old.sizes.terms;
      stocks = length-set t.stocks _ _ ∙ old.sizes.stocks;
      handles = length-set t.handles _ _ ∙ old.sizes.handles;
      lengths = length-set t.lengths _ _ ∙ old.sizes.lengths;
      counts = old.sizes.counts;
    };
    only_terms = cond_both (OnlyAt id t.terms) indifferent
        (only_set t.terms t.terms level_column id _ below (λ column j l other. refl)) (λ column j l other. refl);
    only_stocks = only_set t.stocks t.stocks count_column id _ below (λ column j l other. refl);
    packets = λ q other. packet_other q (λ e. other (ap owner (sym e) ∙ place_own t id));
    indifferents = λ j other. refl;
    privates = λ j other. refl;
    waitings = λ j other. marks j ∙ rw (ne_eqb j id other) (or-false (marked c.waiting j));
    head = rw (counted head_column) (old.heads id below);
    waits = marks id ∙ rw (eqb_same id, lt-ltb id ids below, one_more, eqb-suc-zero) (or-true (marked c.waiting id));
    apart = old.apart id;
    rates_held = rates-kept c t old id below (client_at (with_waiting c waiting) after id) (ap held client_after);
    sound = lined.sound;
    order = behind indifferent;
    ordered = lined.ordered;
    placed = rw ring-after (placed_after indifferent (old.placed id below));
    others = others-after indifferent;
  }

  pub arrived_shape : Shape (with_waiting c waiting) (arrived_tables c t id p links)
  arrived_shape = touch_shape c t old (with_waiting c waiting) after id touch

  -- what the tables after mean

  clients_after : clients_of (with_waiting c waiting) after ≡ put (clients_of c t) id (charged (clients_of c t id))
  clients_after =
      touch_clients c t old (with_waiting c waiting) after id touch
      ∙ ap (put (clients_of c t) id) (client_after ∙ ap charged (sym (client_own c t old id below)))

  stocks_after_lem : stocks_of after ≡ put (stocks_of t) id (queued (stocks_of t id) p)
  stocks_after_lem =
      touch_stocks c t old (with_waiting c waiting) after id touch
      ∙ ap (put (stocks_of t) id) (stock_after ∙ ap (λ (k : Stock). queued k p) (sym (stock_own c t old id below)))

  order_before : order_of t ≡ map owner old.order
  unfolding order_of
  order_before = ap (map owner) (ordered-walked t.links old.order old.ordered)

  kind_before : (clients_of c t id).kind ≡ kind_at c id
  unfolding client_at
  kind_before = ap (λ (x : Client). x.kind) (client_own c t old id below)

  order_after_lem : order_of after ≡ order_after_arrival (state_of c t) id
  unfolding order_of order_after_arrival state_of side_of
  order_after_lem =
      rw (kind_before, order_before)
      (ap (map owner) (ordered-walked links (behind indifferent) lined.ordered) ∙ owners_after indifferent)

  pub arrived_state : state_of (with_waiting c waiting) (arrived_tables c t id p links)
      ≡ updated (state_of c t) (put (clients_of c t) id (charged (clients_of c t id))) (side_after_arrival (state_of c t) id p)
  unfolding state_of side_of updated side_after_arrival
  arrived_state = λ i. record {
    threshold = c.threshold;
    discipline = c.discipline;
    clients = clients_after i;
    side = record { generator = c.generator.value; order = order_after_lem i; stocks = stocks_after_lem i };
  }
