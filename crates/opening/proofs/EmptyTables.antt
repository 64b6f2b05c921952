-- The tables that opening fills: with a control without clients they mean a fresh core, and are laid out right. Every number
-- of terms and stocks is 0, no id has a mark, and the order's circle is empty. Assumes nothing.
use Prim.Native.Nat.{ℕ, zero, suc, ◌*◌}
use mathlib.Core.Path.{◌≡◌, refl, sym, ap, fun_ext, ◌∙◌}
use mathlib.Core.Bool.{Bool, true, false, cond, not, ◌&&◌, and-false}
use mathlib.Core.List.{List, [], map}
use lib.Dec.{eqb, ltb}
use lib.ListN.{get_or, replicate, length-replicate}
use Rattle.definitions.specs.Sizes.{ids, places}
use Rattle.definitions.specs.Counts.{Count, column}
use Rattle.definitions.specs.Client.{absent, nobody}
use Rattle.definitions.specs.Stock.{bare}
use Rattle.definitions.specs.State.{fresh}
use Rattle.definitions.specs.Checks.{active_rate, rates}
use Rattle.definitions.proofs.Laws.Tests.{true-false}
use Rattle.definitions.proofs.Laws.Sums.{sum_below-zero}
use Rattle.counts.specs.CountTable.{count_columns, count_entry, count_in}
use Rattle.marks.proofs.Bits.{marked-none}
use Rattle.order.specs.Order.{sentinel, link_count}
use Rattle.order.specs.Owner.{owner, places_of}
use Rattle.order.proofs.PushAndUnlink.{new_sound, new_ordered}
use Rattle.order.proofs.OrderWalk.{ordered-walked}
use Rattle.tables.specs.declared.Control.{Control}
use Rattle.tables.specs.declared.Tables.{Tables}
use Rattle.tables.specs.Tables.{tables, rate_column, burst_column, level_column, term_columns}
use Rattle.tables.specs.Tables.{pool_column, head_column, count_column, stock_columns, entry, field, ring}
use Rattle.tables.specs.Meaning.{kind_at, queue_at, client_at, clients_of, stock_at, stocks_of, order_of, side_of, state_of}
use Rattle.tables.specs.Invariant.{Shape}
use Rattle.tables.proofs.Fields.{places_positive}

-- a control without clients
abbrev pub empty_control : Bool → ℕ → ℕ → ℕ → Control
empty_control opened threshold discipline seed = record {
  opened = opened;
  threshold = threshold;
  discipline = discipline;
  generator = record { value = seed };
  rates = 0;
  indifferent = 0;
  private = 0;
  waiting = 0;
}

-- a table of n numbers
abbrev zeros : ℕ → List ℕ
zeros n = replicate n 0

-- the tables that opening fills
abbrev pub empty_tables : Tables
empty_tables =
    tables (zeros (term_columns * ids)) (zeros (stock_columns * ids)) (zeros (ids * places)) (zeros (ids * places))
    (replicate link_count sentinel) (zeros (count_columns * ids))

get_d_zeros : (n i : ℕ) → get_or (zeros n) i 0 ≡ 0
get_d_zeros zero zero = refl
get_d_zeros zero (suc i) = refl
get_d_zeros (suc n) zero = refl
get_d_zeros (suc n) (suc i) = get_d_zeros n i

field-zeros : (n column id : ℕ) → field column (zeros n) id ≡ 0
unfolding field
field-zeros n column id = get_d_zeros n (entry column id)

abbrev term_zero : (column id : ℕ) → field column empty_tables.terms id ≡ 0
term_zero = field-zeros (term_columns * ids)

abbrev stock_zero : (column id : ℕ) → field column empty_tables.stocks id ≡ 0
stock_zero = field-zeros (stock_columns * ids)

stock_empty : (id : ℕ) → stock_at empty_tables id ≡ bare
unfolding stock_at queue_at ring
stock_empty id = λ i. record { queue = queue_empty i; pool = stock_zero pool_column id i }
  where
    queue_empty : queue_at empty_tables id ≡ []
    queue_empty = rw (stock_zero count_column id)

stocks_empty : stocks_of empty_tables ≡ (λ id. bare)
unfolding stocks_of
stocks_empty = fun_ext (λ id. go id (ltb id ids))
  where
    go : (id : ℕ) (b : Bool) → cond b (stock_at empty_tables id) bare ≡ bare
    go id true = stock_empty id
    go id false = refl

-- every sheet is all zeros
pub count_zero : (id : ℕ) (count : Count) → count_in empty_tables.counts id count ≡ 0
unfolding count_in
count_zero id count = get_d_zeros (count_columns * ids) (count_entry id (column count))

order_empty : order_of empty_tables ≡ []
unfolding order_of
order_empty = ap (map owner) (ordered-walked empty_tables.links [] new_ordered)

module _ (threshold discipline seed : ℕ) where
  c : Control
  c = empty_control true threshold discipline seed

  kind_empty : (id : ℕ) → kind_at c id ≡ absent
  unfolding kind_at c
  kind_empty id = rw (marked-none id)

  client_empty : (id : ℕ) → client_at c empty_tables id ≡ nobody
  unfolding client_at
  client_empty id = λ i. record {
    kind = kind_empty id i;
    rate = term_zero rate_column id i;
    burst = term_zero burst_column id i;
    level = term_zero level_column id i;
  }

  clients_empty : clients_of c empty_tables ≡ (λ id. nobody)
  unfolding clients_of
  clients_empty = fun_ext (λ id. go id (ltb id ids))
    where
      go : (id : ℕ) (b : Bool) → cond b (client_at c empty_tables id) nobody ≡ nobody
      go id true = client_empty id
      go id false = refl

  pub empty_state : state_of (empty_control true threshold discipline seed) empty_tables ≡ fresh threshold discipline seed
  unfolding state_of side_of fresh c
  empty_state = λ i. record {
    threshold = threshold;
    discipline = discipline;
    clients = clients_empty i;
    side = record { generator = seed; order = order_empty i; stocks = stocks_empty i };
  }

  -- nobody waits, and nobody has packets
  waits_empty : (id : ℕ) → false ≡ ltb id ids && not (eqb (field count_column empty_tables.stocks id) 0)
  waits_empty id = sym (ap (λ (n : ℕ). ltb id ids && not (eqb n 0)) (stock_zero count_column id) ∙ and-false (ltb id ids))

  pub empty_shape : Shape (empty_control true threshold discipline seed) empty_tables
  unfolding c places_of rates active_rate
  empty_shape = record {
    sizes = record {
      terms = length-replicate (term_columns * ids) 0;
      stocks = length-replicate (stock_columns * ids) 0;
      handles = length-replicate (ids * places) 0;
      lengths = length-replicate (ids * places) 0;
      counts = length-replicate (count_columns * ids) 0;
    };
    heads = λ id l. rw (stock_zero head_column id) places_positive;
    waits = λ id. marked-none id ∙ waits_empty id;
    apart = λ id e. true-false e (marked-none id);
    rates_held = sym (ap rates clients_empty ∙ sum_below-zero ids (active_rate (λ id. nobody)) (λ i h. refl));
    sound = new_sound;
    order = [];
    ordered = new_ordered;
    placed = λ id l. rw (kind_empty id);
  }
