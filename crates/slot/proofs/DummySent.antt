-- An id without a packet sends a dummy, which lowers its pool, or idles where the pool is empty. Terms, and whatever belongs to another
-- id, are as they were. Assumes nothing.
use Prim.Native.Nat.{ℕ, zero, suc, pred, ◌-◌, ◌<◌}
use mathlib.Core.Path.{◌≡◌, refl, sym, ap, subst, ◌∙◌}
use mathlib.Core.Bool.{Bool, true, false, cond}
use mathlib.Core.List.{List, [], tail}
use native.Mathlib.Omega.{arith}
use lib.Seq.{set-get_or}
use Rattle.definitions.specs.declared.Outcome.{Outcome}
use Rattle.definitions.specs.declared.Outcome.TheVariants.{Dummy, Idle}
use Rattle.definitions.specs.Stock.{empty, spent}
use Rattle.definitions.specs.State.{updated, put, without_first}
use Rattle.definitions.specs.Tick.{without_packet, sent}
use Rattle.marks.specs.Marks.{marked}
use Rattle.tables.specs.declared.Control.{Control}
use Rattle.tables.specs.declared.Tables.{Tables}
use Rattle.tables.specs.Tables.{tables, pool_column, entry, written, field, pool_at, count_at, ring}
use Rattle.tables.specs.Meaning.{queue_at, client_at, clients_of, stock_at, stocks_of, order_of, side_of, state_of}
use Rattle.tables.specs.Invariant.{Shape}
use Rattle.tables.proofs.Touch.{stock_own}
use Rattle.tables.proofs.PoolWritten.{pooled, pooled_shape, pooled_stocks}
use Rattle.slot.specs.Sends.{Sender, state_after, Spent}

module _ (c : Control) (t : Tables) (id : ℕ) (sender : Sender c t id) where
  abbrev old : Shape c t
  old = sender.core.shape

  module _ (none : count_at t.stocks id ≡ 0) where
    abbrev pool : ℕ
    pool = pool_at t.stocks id

    abbrev v : Tables
    v = pooled t id (pool - 1)

    -- the slot is no indifferent client's
    private_slot : marked c.indifferent id ≡ false
    private_slot = go (marked c.indifferent id) refl
      where
        go : (b : Bool) → marked c.indifferent id ≡ b → marked c.indifferent id ≡ false
        go true e = absurd (sender.waits e none)
        go false e = e

    queue_none : queue_at t id ≡ []
    unfolding queue_at ring
    queue_none = rw none

    less : (n : ℕ) → n - 1 ≡ pred n
    less zero = refl
    less (suc n) = omega arith

    stock_drained : record { queue = queue_at t id; pool = pool - 1 } ≡ spent (stock_at t id)
    unfolding stock_at spent
    stock_drained = λ i. record { queue = queue_spent i; pool = (less pool ∙ pool_spent) i }
      where
        pool_spent : pred pool ≡ cond (empty (queue_at t id)) (pred pool) pool
        pool_spent = rw queue_none

        queue_spent : queue_at t id ≡ tail (queue_at t id)
        queue_spent = rw queue_none

    pool_state : state_of c v ≡ state_after c t id
    unfolding state_after state_of side_of updated order_of clients_of client_at
    pool_state = λ i. record {
      threshold = c.threshold;
      discipline = c.discipline;
      clients = clients_of c t;
      side = record {
        generator = c.generator.value;
        order = ap (λ (b : Bool). cond b (without_first id (order_of t)) (order_of t)) (sym private_slot) i;
        stocks = (pooled_stocks c t old id (pool - 1) sender.below
            ∙ ap (put (stocks_of t) id) (stock_drained ∙ ap spent (sym (stock_own c t old id sender.below)))) i;
      };
    }

    sent-without : without_packet id pool ≡ sent id (clients_of c t id) (stocks_of t id)
    unfolding sent stock_at
    sent-without = rw (stock_own c t old id sender.below, queue_none)

    pool_spends : (outcome : Outcome) → outcome ≡ without_packet id pool
        → Spent c t id (record { control = c; outcome = outcome }) v
    pool_spends outcome e = record {
      outcome = e ∙ sent-without;
      state = pool_state;
      shape = pooled_shape c t old id (pool - 1) sender.below;
      same = refl;
    }

    pub dummy-spent : 0 < pool → Spent c t id (record { control = c; outcome = Dummy id }) v
    dummy-spent some = pool_spends (Dummy id) (go pool some)
      where
        go : (n : ℕ) → 0 < n → Dummy id ≡ without_packet id n
        go zero l = absurd (omega arith)
        go (suc n) l = refl

    pub idle-spent : pool ≡ 0 → Spent c t id (record { control = c; outcome = Idle id }) t
    unfolding field
    idle-spent empty =
        subst
        (λ (xs : List ℕ). Spent c t id (record { control = c; outcome = Idle id })
        (tables t.terms xs t.handles t.lengths t.links t.counts))
        same (pool_spends (Idle id) (rw empty))
      where
        lower : pool - 1 ≡ pool
        lower = omega (arith, empty)

        same : written t.stocks pool_column id (pool - 1) ≡ t.stocks
        same = rw lower (set-get_or t.stocks (entry pool_column id) 0)
