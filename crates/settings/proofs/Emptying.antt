-- What an id had to send is taken away: its stock is bare, its mark of waiting is gone, and the order has no place of it.
-- What the tables mean is the side, emptied. Assumes nothing.
use Prim.Native.Nat.{ℕ, ◌<◌}
use mathlib.Core.Path.{◌≡◌, refl, sym, ap, ◌∙◌}
use mathlib.Core.Bool.{cond}
use mathlib.Core.List.{List, [], map}
use lib.Dec.{eqb}
use lib.ListN.{length}
use Rattle.definitions.specs.Sizes.{ids}
use Rattle.definitions.specs.Client.{is_indifferent}
use Rattle.definitions.specs.Stock.{Stock, bare}
use Rattle.definitions.specs.State.{Side, put, without, emptied}
use Rattle.definitions.proofs.Laws.Tests.{cond_same}
use Rattle.definitions.proofs.Laws.Clients.{put_same}
use Rattle.definitions.proofs.Laws.Rates.{held}
use Rattle.marks.specs.Marks.{marked}
use Rattle.order.specs.Order.{Sound, Ordered}
use Rattle.order.specs.Owner.{owner}
use Rattle.order.proofs.OrderWalk.{ordered-walked}
use Rattle.tables.specs.declared.Control.{Control}
use Rattle.tables.specs.declared.Tables.{Tables}
use Rattle.tables.specs.Tables.{tables, pool_column, head_column, count_column, field, count_at, ring}
use Rattle.tables.specs.Meaning.{kind_at, packet_at, queue_at, client_at, stock_at, stocks_of, order_of, side_of}
use Rattle.tables.specs.Invariant.{Shape}
use Rattle.tables.proofs.QueueRing.{queue_length}
use Rattle.tables.proofs.Touch.{Touch, touch_stocks, touch_shape, stock_own, rates-kept}
use Rattle.settings.specs.Writes.{with_bare, Quiet, Withdrawn, Emptied}
use Rattle.settings.proofs.Entries.{bare-length, bare_own, bare_only}

-- the order that the tables mean
pub order_means : (t : Tables) (order : List ℕ) → Ordered t.links order → order_of t ≡ map owner order
unfolding order_of
order_means t order o = ap (map owner) (ordered-walked t.links order o)

-- the tables after
abbrev pub emptied_tables : Tables → ℕ → List ℕ → Tables
emptied_tables t id links = tables t.terms (with_bare t.stocks id) t.handles t.lengths links t.counts

module _ (c : Control) (t : Tables) (old : Shape c t) (id : ℕ) (below : id < ids) (d : Control) (links : List ℕ)
    (quiet : Quiet c d id) (tight : Sound links) (away : Withdrawn links id old.order) where
  abbrev after : Tables
  after = emptied_tables t id links

  own : (m : ℕ)
      → field m after.stocks id ≡ cond (eqb m count_column) 0 (cond (eqb m pool_column) 0 (field m t.stocks id))
  own m = bare_own t.stocks old.sizes.stocks id below m

  stock_after : stock_at after id ≡ bare
  unfolding stock_at queue_at ring
  stock_after = λ i. record {
    queue = map (packet_at after) (ring id (own head_column i) (own count_column i));
    pool = own pool_column i;
  }

  -- the terms are those before, and so are the marks of the kind
  same_client : client_at d after id ≡ client_at c t id
  unfolding client_at kind_at
  same_client = ap (λ (x : Control). client_at x after id) quiet.rest

  touch : Touch c t old d after id
  unfolding packet_at ring
  touch = record {
    below = below;
    sizes = record {
      terms = old.sizes.terms;
      stocks = bare-length t.stocks old.sizes.stocks id below;
      handles = old.sizes.handles;
      lengths = old.sizes.lengths;
      counts = old.sizes.counts;
    };
    only_terms = λ m j l other. refl;
    only_stocks = bare_only t.stocks old.sizes.stocks id below;
    packets = λ p other. refl;
    indifferents = λ j other. ap (λ (x : Control). marked x.indifferent j) quiet.rest;
    privates = λ j other. ap (λ (x : Control). marked x.private j) quiet.rest;
    waitings = quiet.waiting.others;
    head = rw (own head_column) (old.heads id below);
    waits = quiet.waiting.own ∙ rw (own count_column);
    apart = rw quiet.rest (old.apart id);
    rates_held = ap (λ (x : Control). x.rates) quiet.rest
        ∙ rates-kept c t old id below (client_at d after id) (ap held same_client);
    sound = tight;
    order = away.order;
    ordered = away.ordered;
    placed = away.none ∙ rw (own count_column) (sym (cond_same (is_indifferent (kind_at d id)) []));
    others = away.others;
  }

  side_after : side_of d after ≡ emptied (side_of c t) id
  unfolding side_of emptied
  side_after = λ i. record {
    generator = (quiet.rest i).generator.value;
    order = (order_means after away.order away.ordered ∙ away.rest
        ∙ ap (without id) (sym (order_means t old.order old.ordered))) i;
    stocks = (touch_stocks c t old d after id touch ∙ ap (put (stocks_of t) id) stock_after) i;
  }

  pub emptied_by : Emptied c t id d (emptied_tables t id links)
  emptied_by = record { side = side_after; shape = touch_shape c t old d after id touch; rest = quiet.rest }

-- an emptied id has a count of 0
pub emptied_count : (c : Control) (t : Tables) (id : ℕ) (d : Control) (u : Tables)
    → id < ids
    → Emptied c t id d u
    → count_at u.stocks id ≡ 0
unfolding side_of emptied stock_at
emptied_count c t id d u below e =
    sym (queue_length u id)
    ∙ ap (λ (k : Stock). length k.queue)
    (sym (stock_own d u e.shape id below) ∙ ap (λ (s : Side). s.stocks id) e.side ∙ put_same (stocks_of t) id bare)
