-- The tables with one id's pool written anew: its queue is as it was, and so is all else. A load raises the pool, and a dummy lowers it.
-- Assumes nothing.
use Prim.Native.Nat.{ℕ, ◌<◌}
use mathlib.Core.Path.{◌≡◌, refl, ap, ◌∙◌}
use mathlib.Core.Bool.{cond}
use mathlib.Core.List.{map}
use native.Mathlib.Omega.{arith}
use lib.Dec.{eqb}
use lib.ListN.{length-set}
use Rattle.definitions.specs.Sizes.{ids}
use Rattle.definitions.specs.State.{put}
use Rattle.tables.specs.declared.Control.{Control}
use Rattle.tables.specs.declared.Tables.{Tables}
use Rattle.tables.specs.Tables.{tables, pool_column, head_column, count_column, stock_columns, field, written, ring}
use Rattle.tables.specs.Meaning.{packet_at, queue_at, client_at, stock_at, stocks_of}
use Rattle.tables.specs.Invariant.{Shape}
use Rattle.tables.proofs.Fields.{only_set, store_own}
use Rattle.tables.proofs.Touch.{Touch, touch_stocks, touch_shape, waits_here, rates-kept}

abbrev pub pooled : Tables → ℕ → ℕ → Tables
pooled t id pool = tables t.terms (written t.stocks pool_column id pool) t.handles t.lengths t.links t.counts

module _ (c : Control) (t : Tables) (old : Shape c t) (id pool : ℕ) (below : id < ids) where
  own : (column : ℕ) → field column (pooled t id pool).stocks id ≡ cond (eqb column pool_column) pool (field column t.stocks id)
  own column = store_own t.stocks stock_columns pool_column column id pool old.sizes.stocks (omega arith) below

  pub pooled_stock : stock_at (pooled t id pool) id ≡ record { queue = queue_at t id; pool = pool }
  unfolding stock_at queue_at packet_at
  pooled_stock = λ i. record {
    queue = map (packet_at t) (ring id (own head_column i) (own count_column i));
    pool = own pool_column i;
  }

  touch : Touch c t old c (pooled t id pool) id
  unfolding packet_at client_at
  touch = record {
    below = below;
    sizes = record {
      terms = old.sizes.terms;
      stocks = length-set t.stocks _ _ ∙ old.sizes.stocks;
      handles = old.sizes.handles;
      lengths = old.sizes.lengths;
      counts = old.sizes.counts;
    };
    only_terms = λ column j l other. refl;
    only_stocks = only_set t.stocks t.stocks pool_column id _ below (λ column j l other. refl);
    packets = λ p other. refl;
    indifferents = λ j other. refl;
    privates = λ j other. refl;
    waitings = λ j other. refl;
    head = rw (own head_column) (old.heads id below);
    waits = rw (own count_column) (waits_here c t old id below);
    apart = old.apart id;
    rates_held = rates-kept c t old id below (client_at c t id) refl;
    sound = old.sound;
    order = old.order;
    ordered = old.ordered;
    placed = rw (own head_column, own count_column) (old.placed id below);
    others = λ j other. refl;
  }

  pub pooled_shape : Shape c (pooled t id pool)
  pooled_shape = touch_shape c t old c (pooled t id pool) id touch

  pub pooled_stocks : stocks_of (pooled t id pool) ≡ put (stocks_of t) id (record { queue = queue_at t id; pool = pool })
  pooled_stocks = touch_stocks c t old c (pooled t id pool) id touch ∙ ap (put (stocks_of t) id) pooled_stock
