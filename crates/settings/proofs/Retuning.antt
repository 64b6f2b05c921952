-- New terms for a client that keeps its kind: rate, burst and level of the id are written, and the rates held together follow.
-- Assumes nothing.
use Prim.Native.Nat.{ℕ, ◌<◌}
use mathlib.Core.Path.{◌≡◌, refl, sym, ap, ◌∙◌}
use mathlib.Core.Bool.{true, cond}
use lib.Dec.{eqb}
use Rattle.definitions.specs.Sizes.{ids}
use Rattle.definitions.specs.Client.{is_active, Client, retuned}
use Rattle.definitions.specs.State.{updated, put}
use Rattle.definitions.proofs.Laws.Rates.{held, held_active}
use Rattle.tables.specs.declared.Control.{Control}
use Rattle.tables.specs.declared.Tables.{Tables}
use Rattle.tables.specs.Tables.{tables, rate_column, burst_column, level_column, field}
use Rattle.tables.specs.Controls.{with_rates}
use Rattle.tables.specs.Meaning.{kind_at, packet_at, queue_at, client_at, clients_of, stock_at, stocks_of, order_of, side_of, state_of}
use Rattle.tables.specs.Invariant.{Shape, SoundCore}
use Rattle.tables.proofs.Touch.{Touch, touch_clients, touch_shape, waits_here, client_own}
use Rattle.settings.specs.Writes.{with_terms, retuned_level, rates_after}
use Rattle.settings.proofs.Entries.{terms_length, terms_own, terms_only}
use Rattle.settings.proofs.HeldRates.{limits_own, rates_traded}

-- control and tables after
abbrev pub retuned_control : Control → Tables → ℕ → ℕ → Control
retuned_control c t id rate = with_rates c (rates_after c t.terms id rate)

abbrev pub retuned_tables : Tables → ℕ → ℕ → ℕ → Tables
retuned_tables t id rate burst =
    tables (with_terms t.terms id rate burst (retuned_level t.terms id burst))
    t.stocks t.handles t.lengths t.links t.counts

module _ (c : Control) (t : Tables) (sound : SoundCore c t) (id rate burst : ℕ) (below : id < ids)
    (active : is_active (kind_at c id) ≡ true) where
  abbrev level : ℕ
  level = retuned_level t.terms id burst

  abbrev d : Control
  d = retuned_control c t id rate

  abbrev after : Tables
  after = retuned_tables t id rate burst

  abbrev old : Shape c t
  old = sound.shape

  own : (m : ℕ)
      → field m after.terms id
      ≡ cond (eqb m level_column) level (cond (eqb m burst_column) burst (cond (eqb m rate_column) rate (field m t.terms id)))
  own m = terms_own t.terms old.sizes.terms id rate burst level below m

  client_after : client_at d after id ≡ retuned (client_at c t id) rate burst
  unfolding client_at kind_at retuned
  client_after = λ i. record {
    kind = kind_at c id;
    rate = own rate_column i;
    burst = own burst_column i;
    level = own level_column i;
  }

  holds : held (client_at d after id) ≡ rate
  unfolding client_at retuned
  holds = ap held client_after ∙ held_active (retuned (client_at c t id) rate burst) active

  touch : Touch c t old d after id
  unfolding packet_at kind_at
  touch = record {
    below = below;
    sizes = record {
      terms = terms_length t.terms old.sizes.terms id rate burst level below;
      stocks = old.sizes.stocks;
      handles = old.sizes.handles;
      lengths = old.sizes.lengths;
      counts = old.sizes.counts;
    };
    only_terms = terms_only t.terms old.sizes.terms id rate burst level below;
    only_stocks = λ m j l other. refl;
    packets = λ p other. refl;
    indifferents = λ j other. refl;
    privates = λ j other. refl;
    waitings = λ j other. refl;
    head = old.heads id below;
    waits = waits_here c t old id below;
    apart = old.apart id;
    rates_held = rates_traded c t old id below (limits_own c t sound id below) rate (client_at d after id) holds;
    sound = old.sound;
    order = old.order;
    ordered = old.ordered;
    placed = old.placed id below;
    others = λ j other. refl;
  }

  pub retuned_shape : Shape (retuned_control c t id rate) (retuned_tables t id rate burst)
  retuned_shape = touch_shape c t old d after id touch

  clients_after : clients_of d after ≡ put (clients_of c t) id (retuned (clients_of c t id) rate burst)
  clients_after =
      touch_clients c t old d after id touch
      ∙ ap (put (clients_of c t) id)
      (client_after ∙ ap (λ (x : Client). retuned x rate burst) (sym (client_own c t old id below)))

  pub retuned_state : state_of (retuned_control c t id rate) (retuned_tables t id rate burst)
      ≡ updated (state_of c t) (put (state_of c t).clients id (retuned ((state_of c t).clients id) rate burst)) (state_of c t).side
  unfolding state_of updated side_of order_of stocks_of stock_at queue_at packet_at
  retuned_state = ap (λ (clients : ℕ → Client). updated (state_of c t) clients (state_of c t).side) clients_after
