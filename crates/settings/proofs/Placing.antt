-- The terms of a new client at an id that has nothing to send: the state has it in the place of the old one. Only the id's own
-- terms and marks are written. Assumes nothing.
use Prim.Native.Nat.{ℕ, ◌<◌}
use mathlib.Core.Path.{◌≡◌, refl, sym, ap, ap₂, subst, ◌∙◌}
use mathlib.Core.Bool.{true, false, cond}
use mathlib.Core.List.{List, []}
use lib.Dec.{eqb}
use Rattle.definitions.specs.Sizes.{ids}
use Rattle.definitions.specs.Client.{Kind, absent, indifferent, private, kind_of, is_indifferent, is_private, Client, joining}
use Rattle.definitions.specs.State.{updated, put, emptied}
use Rattle.definitions.specs.Limits.{ClientLimits}
use Rattle.definitions.proofs.Laws.Tests.{true-false, cond_same}
use Rattle.definitions.proofs.Laws.Rates.{held}
use Rattle.marks.specs.Marks.{marked}
use Rattle.order.specs.Owner.{places_of}
use Rattle.tables.specs.declared.Control.{Control}
use Rattle.tables.specs.declared.Tables.{Tables}
use Rattle.tables.specs.Tables.{tables, rate_column, burst_column, level_column, field, count_at, ring}
use Rattle.tables.specs.Controls.{with_rates, with_marks}
use Rattle.tables.specs.Meaning.{kind_at, packet_at, queue_at, client_at, clients_of, stock_at, stocks_of, order_of, side_of, state_of}
use Rattle.tables.specs.Invariant.{Shape, SoundCore}
use Rattle.tables.proofs.Touch.{Touch, touch_clients, touch_shape, waits_here}
use Rattle.settings.specs.Writes.{with_terms, rates_after, Recast, Emptied}
use Rattle.settings.proofs.Remarks.{recast_kind}
use Rattle.settings.proofs.Entries.{terms_length, terms_own, terms_only}
use Rattle.settings.proofs.HeldRates.{limits_own, rates_traded}
use Rattle.settings.proofs.Emptying.{emptied_count}

-- the tables after
abbrev pub placed_tables : Tables → ℕ → ℕ → ℕ → Tables
placed_tables t id rate burst =
    tables (with_terms t.terms id rate burst 0) t.stocks t.handles t.lengths t.links
    t.counts

-- no kind is both
apart_kinds : (k : Kind) → is_private k ≡ true → is_indifferent k ≡ false
apart_kinds absent e = refl
apart_kinds indifferent e = true-false e refl
apart_kinds private e = refl

-- What a new client's place is made of: control c and tables t before, b and u once the id is emptied, and control d after.
pub record Placement (c : Control) (t : Tables) (id kind rate burst : ℕ) (b : Control) (stocks links : List ℕ) (d : Control)
    : Type 0 where
  pub sound : SoundCore c t
  pub below : id < ids
  pub bare : Emptied c t id b (tables t.terms stocks t.handles t.lengths links t.counts)
  -- it holds its rate of the threshold
  pub holds : held (joining kind rate burst) ≡ rate
  pub cast : Recast (with_rates b (rates_after b t.terms id rate)) d id (kind_of kind)

module _ (c : Control) (t : Tables) (id kind rate burst : ℕ) (b : Control) (stocks links : List ℕ) (d : Control)
    (p : Placement c t id kind rate burst b stocks links d) where
  abbrev u : Tables
  u = tables t.terms stocks t.handles t.lengths links t.counts

  abbrev after : Tables
  after = placed_tables u id rate burst

  abbrev old : Shape b u
  old = p.bare.shape

  own : (m : ℕ)
      → field m after.terms id
      ≡ cond (eqb m level_column) 0 (cond (eqb m burst_column) burst (cond (eqb m rate_column) rate (field m t.terms id)))
  own m = terms_own t.terms old.sizes.terms id rate burst 0 p.below m

  client_after : client_at d after id ≡ joining kind rate burst
  unfolding client_at joining
  client_after = λ i. record {
    kind = recast_kind _ d id (kind_of kind) p.cast i;
    rate = own rate_column i;
    burst = own burst_column i;
    level = own level_column i;
  }

  -- emptying leaves the clients as they were
  limits_then : ClientLimits (client_at b u id)
  unfolding client_at kind_at
  limits_then =
      subst (λ (x : Control). ClientLimits (client_at x u id)) (sym p.bare.rest) (limits_own c t p.sound id p.below)

  clients_then : clients_of b u ≡ clients_of c t
  unfolding clients_of client_at kind_at
  clients_then = ap (λ (x : Control). clients_of x u) p.bare.rest

  none : count_at stocks id ≡ 0
  none = emptied_count c t id b u p.below p.bare

  unplaced : places_of id old.order ≡ []
  unfolding ring
  unplaced = rw none at (old.placed id p.below) ∙ cond_same (is_indifferent (kind_at b id)) []

  touch : Touch b u old d after id
  unfolding packet_at ring
  touch = record {
    below = p.below;
    sizes = record {
      terms = terms_length t.terms old.sizes.terms id rate burst 0 p.below;
      stocks = old.sizes.stocks;
      handles = old.sizes.handles;
      lengths = old.sizes.lengths;
      counts = old.sizes.counts;
    };
    only_terms = terms_only t.terms old.sizes.terms id rate burst 0 p.below;
    only_stocks = λ m j l other. refl;
    packets = λ q other. refl;
    indifferents = p.cast.indifferent.others;
    privates = p.cast.private.others;
    waitings = λ j other. ap (λ (x : Control). marked x.waiting j) p.cast.rest;
    head = old.heads id p.below;
    waits = ap (λ (x : Control). marked x.waiting id) p.cast.rest ∙ waits_here b u old id p.below;
    apart = λ e. p.cast.indifferent.own ∙ apart_kinds (kind_of kind) (sym p.cast.private.own ∙ e);
    rates_held = ap (λ (x : Control). x.rates) p.cast.rest
        ∙ rates_traded b u old id p.below limits_then rate (client_at d after id) (ap held client_after ∙ p.holds);
    sound = old.sound;
    order = old.order;
    ordered = old.ordered;
    placed = unplaced ∙ rw none (sym (cond_same (is_indifferent (kind_at d id)) []));
    others = λ j other. refl;
  }

  pub placed_shape : Shape d (placed_tables u id rate burst)
  placed_shape = touch_shape b u old d after id touch

  -- d has what c has, but for the rates and the marks
  rest : d ≡ with_marks (with_rates c (rates_after b t.terms id rate)) d.indifferent d.private b.waiting
  rest =
      p.cast.rest
      ∙ ap (λ (x : Control). with_marks (with_rates x (rates_after b t.terms id rate)) d.indifferent d.private b.waiting)
      p.bare.rest

  pub placed_opened : d.opened ≡ c.opened
  placed_opened = ap (λ (x : Control). x.opened) rest

  clients_after : clients_of d after ≡ put (clients_of c t) id (joining kind rate burst)
  clients_after =
      touch_clients b u old d after id touch
      ∙ ap₂ (λ (all : ℕ → Client) (one : Client). put all id one) clients_then client_after

  side_after : side_of d after ≡ emptied (side_of c t) id
  unfolding side_of order_of stocks_of stock_at queue_at packet_at
  side_after = ap (λ (x : Control). side_of x after) p.cast.rest ∙ p.bare.side

  pub placed_state : state_of d (placed_tables u id rate burst)
      ≡ updated (state_of c t) (put (state_of c t).clients id (joining kind rate burst)) (emptied (state_of c t).side id)
  unfolding state_of updated
  placed_state = λ i. record {
    threshold = (rest i).threshold;
    discipline = (rest i).discipline;
    clients = clients_after i;
    side = side_after i;
  }
