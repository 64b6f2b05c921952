-- An id sends its first packet: it is taken out of the queue and of the order. Terms, and whatever belongs to another id, are as they
-- were. Assumes nothing.
use Prim.Native.Nat.{ℕ, zero, suc, pred, ◌+◌, ◌*◌, ◌-◌, ◌%◌, ◌≤◌, ◌<◌}
use mathlib.Core.Path.{◌≡◌, refl, sym, ap, ap₂, subst, ◌∙◌}
use mathlib.Core.Logic.{◌≢◌}
use mathlib.Core.Bool.{Bool, true, false, cond, not, ◌&&◌, and-true}
use mathlib.Core.List.{List, [], ◌∷◌, ◌++◌, map, tail}
use native.Mathlib.Nat.{mod-eq_of_lt}
use native.Mathlib.Omega.{arith}
use lib.Dec.{eqb}
use lib.ListN.{length-set}
use borrow.Author.Tests.{ne_eqb, eqb-true, not-false}
use Rattle.definitions.specs.declared.Packet.{Packet}
use Rattle.definitions.specs.declared.Outcome.{Outcome}
use Rattle.definitions.specs.declared.Outcome.TheVariants.{Real}
use Rattle.definitions.specs.Sizes.{places, longest}
use Rattle.definitions.specs.Client.{Kind, absent, indifferent, private, is_indifferent}
use Rattle.definitions.specs.Stock.{Stock, empty, spent}
use Rattle.definitions.specs.State.{updated, put, without_first}
use Rattle.definitions.specs.Tick.{padding, sent_from, sent}
use Rattle.definitions.specs.Limits.{LengthsFit, QueueBy}
use Rattle.definitions.proofs.Laws.Tests.{eqb_same}
use Rattle.definitions.proofs.Laws.Rates.{held}
use Rattle.marks.specs.Marks.{marked}
use Rattle.order.specs.Order.{sentinel, Ordered}
use Rattle.order.specs.Owner.{owner, places_of}
use Rattle.order.proofs.OrderWalk.{ordered-walked}
use Rattle.order.proofs.FirstPlaceTaken.{places_of-taken, taken-others, taken-without_first}
use Rattle.tables.specs.declared.Control.{Control}
use Rattle.tables.specs.declared.Tables.{Tables}
use Rattle.tables.specs.Tables.{tables, pool_column, head_column, count_column, stock_columns, written, field, pool_at, head_at, count_at, ring}
use Rattle.tables.specs.Controls.{with_waiting}
use Rattle.tables.specs.Meaning.{kind_at, packet_at, queue_at, client_at, clients_of, stock_at, stocks_of, order_of, side_of, state_of}
use Rattle.tables.specs.Invariant.{Shape}
use Rattle.tables.proofs.MarkedKinds.{kind_indifferent, kind_private}
use Rattle.tables.proofs.Fields.{only_set, store_own}
use Rattle.tables.proofs.QueueRing.{place_of, place_within, remainder_small, ring_pop_remainder}
use Rattle.tables.proofs.Touch.{Touch, touch_stocks, touch_shape, waits_here, client_own, stock_own, rates-kept}
use Rattle.slot.specs.Sends.{Settled, popped, Unlinked, Sender, state_after, Spent}
use Rattle.slot.proofs.ChosenTurn.{order_owners}

module _ (c : Control) (t : Tables) (id : ℕ) (sender : Sender c t id) where
  abbrev old : Shape c t
  old = sender.core.shape

  abbrev head : ℕ
  head = head_at t.stocks id

  abbrev count : ℕ
  count = count_at t.stocks id

  abbrev place : ℕ
  place = id * places + head

  -- an id without the mark has no packet
  pub unmarked_none : marked c.waiting id ≡ false → count ≡ 0
  unmarked_none e =
      eqb-true count 0 (not-false (eqb count 0) (sym (waits_here c t old id sender.below) ∙ e))

  -- ---- with a packet

  module _ (some : 0 < count) where
    abbrev rest : List ℕ
    rest = ring id ((head + 1) % places) (count - 1)

    place_first : place ≡ place_of id head
    place_first = rw (mod-eq_of_lt (old.heads id sender.below))

    pub place_inside : place < sentinel
    place_inside = subst (λ (p : ℕ). p < sentinel) (sym place_first) (place_within id sender.below head)

    ring_first : ring id head count ≡ place ∷ rest
    ring_first = rw place_first (go count some)
      where
        go : (n : ℕ) → 0 < n → ring id head n ≡ place_of id head ∷ ring id ((head + 1) % places) (n - 1)
        go zero l = absurd (omega arith)
        go (suc n) l =
            let one : head + 1 ≡ suc head = omega arith in
            let less : suc n - 1 ≡ n = omega arith in
            rw (one, less) (ring_pop_remainder id head n)

    queue_first : queue_at t id ≡ packet_at t place ∷ map (packet_at t) rest
    unfolding queue_at
    queue_first = ap (map (packet_at t)) ring_first

    -- what waits is no longer than the longest
    fits : LengthsFit (queue_at t id)
    unfolding state_of side_of stock_at
    fits =
        subst (λ (x : Stock). LengthsFit x.queue) (stock_own c t old id sender.below)
        (go (clients_of c t id).kind (stocks_of t id).queue (sender.core.limits.side_limits.stock_limits id).queues)
      where
        go : (k : Kind) (queue : List Packet) → QueueBy k queue → LengthsFit queue
        go absent queue none = subst LengthsFit (sym none) tt
        go indifferent queue l = l.queue_lengths
        go private queue l = l.queue_lengths

    pub first_length : (packet_at t place).length ≤ longest
    first_length = (subst LengthsFit queue_first fits).1

    padded : (p : Packet) → cond (marked c.private id) (longest - p.length) 0 ≡ padding (client_at c t id) p
    unfolding padding client_at
    padded p = ap (λ (b : Bool). cond b (longest - p.length) 0) (sym (kind_private c id (old.apart id)))

    sent_first : sent id (client_at c t id) (stock_at t id)
        ≡ Real id (packet_at t place) (padding (client_at c t id) (packet_at t place))
    unfolding sent stock_at
    sent_first = ap (sent_from id (client_at c t id) (pool_at t.stocks id)) queue_first

    pub real-sent : (r : Packet) → r ≡ packet_at t place → (n : ℕ) → n ≡ cond (marked c.private id) (longest - r.length) 0
        → Real id r n ≡ sent id (clients_of c t id) (stocks_of t id)
    real-sent r e n f =
        ap₂ (λ (p : Packet) (m : ℕ). Real id p m) e (f ∙ padded r ∙ ap (padding (client_at c t id)) e)
        ∙ sym sent_first
        ∙ sym (ap₂ (sent id) (client_own c t old id sender.below) (stock_own c t old id sender.below))

    -- ---- the order after it

    record Left (links : List ℕ) : Type 0 where
      pub order : List ℕ
      pub ordered : Ordered links order
      pub placed : places_of id order ≡ cond (is_indifferent (kind_at c id)) rest []
      pub others : (j : ℕ) → j ≢ id → places_of j order ≡ places_of j old.order
      pub owners : map owner order ≡ cond (marked c.indifferent id) (without_first id (order_of t)) (order_of t)

    left : (links : List ℕ) → Unlinked (marked c.indifferent id) place t.links links → Left links
    left links u = go (marked c.indifferent id) refl
      where
        go : (b : Bool) → marked c.indifferent id ≡ b → Left links
        go true e =
            let first : places_of id old.order ≡ place ∷ rest =
            old.placed id sender.below ∙ rw (kind_indifferent c id, e) ring_first in
            let taken = places_of-taken id place rest old.order first in
            record {
              order = taken.before ++ taken.behind;
              ordered = u.gone e taken.before taken.behind (subst (Ordered t.links) taken.split old.ordered);
              placed = taken.left ∙ rw (kind_indifferent c id, e);
              others = taken-others id place rest old.order taken;
              owners = sym (taken-without_first id place rest old.order taken) ∙ rw (order_owners c t old, e);
            }
        go false e = record {
          order = old.order;
          ordered = subst (λ (x : List ℕ). Ordered x old.order) (sym (u.kept e)) old.ordered;
          placed = old.placed id sender.below ∙ rw (kind_indifferent c id, e);
          others = λ j other. refl;
          owners = sym (order_owners c t old) ∙ rw e;
        }

    -- ---- control and tables after it

    module _ (links : List ℕ) (word : ℕ) (unlinked : Unlinked (marked c.indifferent id) place t.links links)
        (marks : (j : ℕ) → marked word j
        ≡ marked c.waiting j && not (eqb j id && eqb (count_at (popped t.stocks id) id) 0)) where
      abbrev d : Control
      d = with_waiting c word

      abbrev u : Tables
      u = tables t.terms (popped t.stocks id) t.handles t.lengths links t.counts

      abbrev o : Left links
      o = left links unlinked

      own : (m : ℕ) → field m u.stocks id
          ≡ cond (eqb m count_column) (count - 1) (cond (eqb m head_column) ((head + 1) % places) (field m t.stocks id))
      unfolding popped
      own m =
          store_own (written t.stocks head_column id ((head + 1) % places)) stock_columns count_column m id (count - 1)
          (simp length-set old.sizes.stocks) (omega arith) sender.below
          ∙ rw (store_own t.stocks stock_columns head_column m id ((head + 1) % places) old.sizes.stocks (omega arith)
          sender.below)

      stock_after : stock_at u id ≡ spent (stock_at t id)
      unfolding stock_at queue_at packet_at spent
      stock_after = λ i. record { queue = queue_after i; pool = (own pool_column ∙ pool_kept) i }
        where
          pool_kept : pool_at t.stocks id
              ≡ cond (empty (queue_at t id)) (pred (pool_at t.stocks id)) (pool_at t.stocks id)
          pool_kept = rw queue_first

          queue_after : map (packet_at t) (ring id (head_at u.stocks id) (count_at u.stocks id)) ≡ tail (queue_at t id)
          queue_after = rw (own head_column, own count_column, queue_first)

      touch : Touch c t old d u id
      unfolding packet_at held client_at kind_at popped
      touch = record {
        below = sender.below;
        sizes = record {
          terms = old.sizes.terms;
          stocks = simp length-set old.sizes.stocks;
          handles = old.sizes.handles;
          lengths = old.sizes.lengths;
          counts = old.sizes.counts;
        };
        only_terms = λ m j l other. refl;
        only_stocks = only_set t.stocks _ count_column id (count - 1) sender.below
            (only_set t.stocks t.stocks head_column id ((head + 1) % places) sender.below (λ m j l other. refl));
        packets = λ p other. refl;
        indifferents = λ j other. refl;
        privates = λ j other. refl;
        waitings = λ j other. marks j ∙ rw (ne_eqb j id other, and-true);
        head = rw (own head_column) (remainder_small (head + 1));
        waits = marks id ∙ rw (waits_here c t old id sender.below, ne_eqb count 0 (omega arith), eqb_same id);
        apart = old.apart id;
        rates_held = rates-kept c t old id sender.below (client_at d u id) refl;
        sound = unlinked.sound;
        order = o.order;
        ordered = o.ordered;
        placed = rw (own head_column, own count_column) o.placed;
        others = o.others;
      }

      order_after_lem : order_of u ≡ map owner o.order
      unfolding order_of
      order_after_lem = ap (map owner) (ordered-walked links o.order o.ordered)

      packet_state : state_of d u ≡ state_after c t id
      unfolding state_after state_of side_of updated clients_of client_at kind_at
      packet_state = λ i. record {
        threshold = c.threshold;
        discipline = c.discipline;
        clients = clients_of c t;
        side = record {
          generator = c.generator.value;
          order = (order_after_lem ∙ o.owners) i;
          stocks = (touch_stocks c t old d u id touch
              ∙ ap (put (stocks_of t) id) (stock_after ∙ ap spent (sym (stock_own c t old id sender.below)))) i;
        };
      }

      pub packet_spent : (outcome : Outcome) → outcome ≡ sent id (clients_of c t id) (stocks_of t id)
          → Spent c t id (record { control = d; outcome = outcome }) u
      packet_spent outcome e = record {
        outcome = e;
        state = packet_state;
        shape = touch_shape c t old d u id touch;
        same = refl;
      }

    -- the same of what the functions gave
    pub packet_sent : (stocks links : List ℕ) (remaining : ℕ) (d : Control) (r : Packet) (n : ℕ)
        → stocks ≡ popped t.stocks id
        → Unlinked (marked c.indifferent id) place t.links links
        → remaining ≡ count_at stocks id
        → Settled c remaining id d
        → r ≡ packet_at t place
        → n ≡ cond (marked c.private id) (longest - r.length) 0
        → Spent c t id (record { control = d; outcome = Real id r n }) (tables t.terms stocks t.handles t.lengths links t.counts)
    packet_sent stocks links remaining d r n e unlinked f settled p q =
        subst
        (λ (xs : List ℕ). Spent c t id (record { control = d; outcome = Real id r n })
        (tables t.terms xs t.handles t.lengths links t.counts))
        (sym e)
        (subst (λ (x : Control). Spent c t id (record { control = x; outcome = Real id r n })
        (tables t.terms (popped t.stocks id) t.handles t.lengths links t.counts))
        (sym settled.same)
        (packet_spent links d.waiting unlinked (λ j. settled.marks j ∙ rw (f, e)) (Real id r n) (real-sent r p n q)))
