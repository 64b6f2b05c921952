-- Rule 4 of a slot: every indifferent bucket is refilled, nothing that there is to send is touched, and the tables stay laid out right.
-- Assumes nothing.
use Prim.Native.Nat.{ℕ, ◌<◌}
use mathlib.Core.Path.{◌≡◌, refl, sym, ap, fun_ext, ◌∙◌}
use mathlib.Core.Bool.{Bool, true, false, cond}
use mathlib.Core.List.{List}
use native.Mathlib.Omega.{arith}
use lib.Dec.{ltb}
use borrow.Author.Tests.{ltb-true}
use Rattle.definitions.specs.Sizes.{ids}
use Rattle.definitions.specs.Client.{Client, nobody, refilled}
use Rattle.definitions.specs.State.{State, updated}
use Rattle.definitions.specs.Checks.{active_rate, rates}
use Rattle.definitions.specs.Tick.{Turn, refill_all, slotted}
use Rattle.tables.specs.declared.Control.{Control}
use Rattle.tables.specs.declared.Tables.{Tables}
use Rattle.tables.specs.Tables.{tables, rate_column, burst_column, level_at}
use Rattle.tables.specs.Meaning.{kind_at, packet_at, queue_at, client_at, clients_of, stock_at, stocks_of, order_of, side_of, state_of}
use Rattle.tables.specs.Invariant.{Shape}
use Rattle.tables.proofs.MarkedKinds.{kind_indifferent}
use Rattle.slot.specs.Buckets.{level_after, Refilled}
use Rattle.slot.specs.Slots.{unfilled}

module _ (d : Control) (u : Tables) (shape : Shape d u) (terms : List ℕ) (h : Refilled d.indifferent u.terms terms) where
  abbrev v : Tables
  v = tables terms u.stocks u.handles u.lengths u.links u.counts

  client_refilled : (j : ℕ) → j < ids → client_at d v j ≡ refilled (client_at d u j)
  unfolding client_at refilled level_after
  client_refilled j l = λ i. record {
    kind = kind_at d j;
    rate = h.others rate_column j l (omega arith) i;
    burst = h.others burst_column j l (omega arith) i;
    level = (h.levels j l
        ∙ ap (λ (b : Bool). cond b (level_after u.terms j) (level_at u.terms j)) (sym (kind_indifferent d j))) i;
  }

  clients_refilled : clients_of d v ≡ refill_all (clients_of d u)
  unfolding clients_of refill_all refilled
  clients_refilled = fun_ext (λ j. go j (ltb j ids) refl)
    where
      go : (j : ℕ) (b : Bool) → ltb j ids ≡ b → cond b (client_at d v j) nobody ≡ refilled (cond b (client_at d u j) nobody)
      go j true e = client_refilled j (ltb-true j ids e)
      go j false e = refl

  rates-refilled : (f : ℕ → Client) → rates (refill_all f) ≡ rates f
  unfolding rates active_rate refill_all refilled
  rates-refilled f = refl

  pub refill_shape : Shape d v
  refill_shape = record {
    sizes = record {
      terms = h.size ∙ shape.sizes.terms;
      stocks = shape.sizes.stocks;
      handles = shape.sizes.handles;
      lengths = shape.sizes.lengths;
      counts = shape.sizes.counts;
    };
    heads = shape.heads;
    waits = shape.waits;
    apart = shape.apart;
    rates_held = shape.rates_held ∙ sym (ap rates clients_refilled ∙ rates-refilled (clients_of d u));
    sound = shape.sound;
    order = shape.order;
    ordered = shape.ordered;
    placed = shape.placed;
  }

  pub refill_state : (s : State) (turn : Turn) → state_of d u ≡ unfilled s turn → state_of d v ≡ slotted s turn
  unfolding state_of unfilled slotted updated side_of stocks_of stock_at queue_at packet_at order_of
  refill_state s turn e = λ i. record {
    threshold = (e i).threshold;
    discipline = (e i).discipline;
    clients = (clients_refilled ∙ ap (λ (x : State). refill_all x.clients) e) i;
    side = (e i).side;
  }
