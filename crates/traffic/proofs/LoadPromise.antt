-- A load keeps its promise: one number of the stocks is raised, the pool of the id, and no client is touched. Assumes nothing.
use Prim.Native.Nat.{ℕ, ◌+◌, ◌≤◌, ◌<◌}
use mathlib.Core.Path.{◌≡◌, refl, sym, ap, ◌∙◌}
use mathlib.Core.Logic.{◌≢◌}
use borrow.Author.Tests.{lt-ltb, ltb-true, leb-true}
use Rattle.definitions.specs.Event.{Load}
use Rattle.definitions.specs.Counts.{entry_of_accepted, entry_of_refused, entry_of}
use Rattle.definitions.specs.declared.Answer.TheVariants.{Accepted, Refused}
use Rattle.definitions.specs.Sizes.{ids, pool_limit}
use Rattle.definitions.specs.Stock.{Stock, loaded}
use Rattle.definitions.specs.State.{updated, put, stocked}
use Rattle.definitions.specs.Checks.{active_checks, load_checks}
use Rattle.definitions.proofs.Laws.Checked.{Passed}
use Rattle.tables.specs.declared.Control.{Control}
use Rattle.tables.specs.declared.Answered.{Answered}
use Rattle.tables.specs.declared.Tables.{Tables}
use Rattle.tables.specs.Tables.{pool_at}
use Rattle.tables.specs.Meaning.{queue_at, client_at, clients_of, stock_at, stocks_of, order_of, side_of, state_of}
use Rattle.tables.specs.Invariant.{Shape, SoundCore, Valid}
use Rattle.tables.specs.Numbers.{refusal}
use Rattle.tables.specs.Promise.{Meets}
use Rattle.tables.specs.Counting.{Counts}
use Rattle.tables.proofs.Countings.{counts_kept, counts_refused}
use Rattle.tables.proofs.Promises.{refused_with_lem, opened, all_passed, sound_before, accepted_with}
use Rattle.tables.proofs.Checkings.{loads}
use Rattle.tables.proofs.Touch.{stock_own}
use Rattle.tables.proofs.PoolWritten.{pooled, pooled_shape, pooled_stocks}

-- the tables after a load
abbrev pub loaded_tables : Tables → ℕ → ℕ → Tables
loaded_tables t id dummies = pooled t id (pool_at t.stocks id + dummies)

module _ (c : Control) (t : Tables) (old : Shape c t) (id dummies : ℕ) (below : id < ids) where
  pub load_shape : Shape c (loaded_tables t id dummies)
  load_shape = pooled_shape c t old id _ below

  stock_loaded : record { queue = queue_at t id; pool = pool_at t.stocks id + dummies } ≡ loaded (stocks_of t id) dummies
  unfolding loaded stock_at
  stock_loaded = ap (λ (k : Stock). loaded k dummies) (sym (stock_own c t old id below))

  pub load_state : state_of c (loaded_tables t id dummies)
      ≡ updated (state_of c t) (clients_of c t) (stocked (side_of c t) id (loaded (stocks_of t id) dummies))
  unfolding state_of clients_of client_at side_of order_of updated stocked
  load_state = λ i. record {
    threshold = c.threshold;
    discipline = c.discipline;
    clients = clients_of c t;
    side = record {
      generator = c.generator.value;
      order = order_of t;
      stocks = (pooled_stocks c t old id _ below ∙ ap (put (stocks_of t) id) stock_loaded) i;
    };
  }

-- A load in the code: what its number says, and what it promises.
module _ (c : Control) (t : Tables) (valid : Valid c t) (id dummies : ℕ) where
  pub load_refused : (r : Answered) (n : ℕ) → r ≡ record { control = c; answer = Refused n }
      → n ≡ refusal c t (λ s. load_checks s id dummies) → n ≢ 0 → Meets (Load id dummies) c t r t
  unfolding loads
  load_refused = refused_with_lem (Load id dummies) (loads id dummies) c t valid

  -- whatever it gets, it enters nothing
  pub load_refused_counts : (r : Answered) (n : ℕ) → r ≡ record { control = c; answer = Refused n } → Counts (Load id dummies) c t r t
  unfolding entry_of_refused
  load_refused_counts r n e = counts_refused n e refl (λ j indifferent waiting. refl)

  pub load_counts : (r : Answered) → r ≡ record { control = c; answer = Accepted }
      → Counts (Load id dummies) c t r (loaded_tables t id dummies)
  unfolding entry_of entry_of_accepted
  load_counts r e = counts_kept (ap (λ (x : Answered). x.control.opened) e) refl (λ j. rw e)

  module _ (none : refusal c t (λ s. load_checks s id dummies) ≡ 0) where
    passed : Passed (load_checks (state_of c t) id dummies)
    unfolding loads
    passed = all_passed (Load id dummies) (loads id dummies) c t valid none

    sound : SoundCore c t
    unfolding loads
    sound = sound_before (Load id dummies) (loads id dummies) c t valid none

    pub load_below : id < ids
    unfolding load_checks active_checks
    load_below = ltb-true id ids passed.0

    pub load_fits : pool_at t.stocks id + dummies ≤ pool_limit
    unfolding load_checks active_checks state_of side_of stocks_of stock_at
    load_fits =
        leb-true (pool_at t.stocks id + dummies) pool_limit
        (rw (lt-ltb id ids load_below) at passed.1.1.1.0)

    pub load_accepted : (r : Answered) → r ≡ record { control = c; answer = Accepted }
        → Meets (Load id dummies) c t r (loaded_tables t id dummies)
    unfolding loads state_of side_of
    load_accepted r e =
        accepted_with (Load id dummies) (loads id dummies) c t valid none r c (loaded_tables t id dummies) e
        (opened (Load id dummies) (loads id dummies) c t valid none)
        (load_state c t sound.shape id dummies load_below)
        (load_shape c t sound.shape id dummies load_below)
