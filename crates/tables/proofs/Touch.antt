-- A call that touches one client: what it must say of control and tables after, for the meaning to have one client anew and
-- for the tables to stay laid out right. Whatever belongs to another id is as it was. Assumes nothing.
use Prim.Native.Nat.{ℕ, zero, suc, ◌+◌, ◌*◌, ◌%◌, ◌≤◌, ◌<◌}
use mathlib.Core.Path.{◌≡◌, refl, sym, ap, ap₂, subst, fun_ext, ◌∙◌}
use mathlib.Core.Logic.{◌≢◌}
use mathlib.Core.Bool.{Bool, true, false, cond, not, ◌&&◌}
use mathlib.Core.List.{List, [], ◌∷◌, map}
use native.Mathlib.Omega.{arith}
use lib.Dec.{eqb, ltb}
use lib.ListN.{length}
use borrow.Author.Tests.{lt-ltb, ltb-true}
use Rattle.definitions.specs.declared.Packet.{Packet}
use Rattle.definitions.specs.Sizes.{ids, places}
use Rattle.definitions.specs.Client.{is_indifferent, Client, nobody}
use Rattle.definitions.specs.Stock.{Stock, bare}
use Rattle.definitions.specs.State.{put}
use Rattle.definitions.specs.Checks.{rates}
use Rattle.definitions.proofs.Laws.Tests.{eqb-cases}
use Rattle.definitions.proofs.Laws.Clients.{put-cases}
use Rattle.definitions.proofs.Laws.Rates.{held, rates-put}
use Rattle.definitions.proofs.Limits.Stock.{queue_high_lem}
use Rattle.marks.specs.Marks.{marked}
use Rattle.order.specs.Order.{Sound, Ordered}
use Rattle.order.specs.Owner.{owner, places_of}
use Rattle.tables.specs.declared.Control.{Control}
use Rattle.tables.specs.declared.Tables.{Tables}
use Rattle.tables.specs.Tables.{rate_column, burst_column, level_column, pool_column, head_column, count_column, head_at, count_at, ring}
use Rattle.tables.specs.Meaning.{kind_at, packet_at, queue_at, client_at, clients_of, stock_at, stocks_of, side_of, state_of}
use Rattle.tables.specs.Invariant.{Sized, Shape, SoundCore}
use Rattle.tables.proofs.Fields.{OnlyAt, place_owner}
use Rattle.tables.proofs.QueueRing.{queue_length}

-- what holds at one id, and at every other, holds at each
pub at_each : (id : ℕ) (P : ℕ → Type 0) → P id → ((j : ℕ) → j ≢ id → P j) → (j : ℕ) → P j
at_each id P own others j = eqb-cases (λ b. P j) j id (λ e. subst P (sym e) own) (others j)

-- control d and tables u after, control c and tables t before
pub record Touch (c : Control) (t : Tables) (old : Shape c t) (d : Control) (u : Tables) (id : ℕ) : Type 0 where
  pub below : id < ids
  pub sizes : Sized u
  -- what belongs to the other ids is as it was
  pub only_terms : OnlyAt id t.terms u.terms
  pub only_stocks : OnlyAt id t.stocks u.stocks
  pub packets : (p : ℕ) → owner p ≢ id → packet_at u p ≡ packet_at t p
  pub indifferents : (j : ℕ) → j ≢ id → marked d.indifferent j ≡ marked c.indifferent j
  pub privates : (j : ℕ) → j ≢ id → marked d.private j ≡ marked c.private j
  pub waitings : (j : ℕ) → j ≢ id → marked d.waiting j ≡ marked c.waiting j
  -- the id's own part is laid out right
  pub head : head_at u.stocks id < places
  pub waits : marked d.waiting id ≡ not (eqb (count_at u.stocks id) 0)
  pub apart : marked d.private id ≡ true → marked d.indifferent id ≡ false
  pub rates_held : d.rates ≡ rates (put (clients_of c t) id (client_at d u id))
  -- and so is the order of acceptance
  pub sound : Sound u.links
  pub order : List ℕ
  pub ordered : Ordered u.links order
  pub placed : places_of id order
      ≡ cond (is_indifferent (kind_at d id)) (ring id (head_at u.stocks id) (count_at u.stocks id)) []
  pub others : (j : ℕ) → j ≢ id → places_of j order ≡ places_of j old.order

module _ (c : Control) (t : Tables) (old : Shape c t) (d : Control) (u : Tables) (id : ℕ) (k : Touch c t old d u id) where
  kind_elsewhere : (j : ℕ) → j ≢ id → kind_at d j ≡ kind_at c j
  unfolding kind_at
  kind_elsewhere j other = rw (k.indifferents j other, k.privates j other)

  -- a ring of another id has packets of that id alone
  packets_elsewhere : (j : ℕ) → j ≢ id → (h n : ℕ) → map (packet_at u) (ring j h n) ≡ map (packet_at t) (ring j h n)
  unfolding ring
  packets_elsewhere j other h zero = refl
  packets_elsewhere j other h (suc n) =
      ap₂ (λ (x : Packet) (xs : List Packet). x ∷ xs)
      (k.packets (j * places + h % places) (λ e. other (sym (place_owner j h) ∙ e)))
      (packets_elsewhere j other (suc h) n)

  queue_elsewhere : (j : ℕ) → j < ids → j ≢ id → queue_at u j ≡ queue_at t j
  unfolding queue_at
  queue_elsewhere j l other =
      rw (k.only_stocks head_column j l other, k.only_stocks count_column j l other)
      (packets_elsewhere j other (head_at t.stocks j) (count_at t.stocks j))

  client_elsewhere : (j : ℕ) → j < ids → j ≢ id → client_at d u j ≡ client_at c t j
  unfolding client_at
  client_elsewhere j l other = λ i. record {
    kind = kind_elsewhere j other i;
    rate = k.only_terms rate_column j l other i;
    burst = k.only_terms burst_column j l other i;
    level = k.only_terms level_column j l other i;
  }

  stock_elsewhere : (j : ℕ) → j < ids → j ≢ id → stock_at u j ≡ stock_at t j
  unfolding stock_at
  stock_elsewhere j l other = λ i. record {
    queue = queue_elsewhere j l other i;
    pool = k.only_stocks pool_column j l other i;
  }

  clients_elsewhere : (j : ℕ) → j ≢ id → clients_of d u j ≡ clients_of c t j
  unfolding clients_of
  clients_elsewhere j other = go (ltb j ids) refl
    where
      go : (b : Bool) → ltb j ids ≡ b → cond b (client_at d u j) nobody ≡ cond b (client_at c t j) nobody
      go true e = client_elsewhere j (ltb-true j ids e) other
      go false e = refl

  client_here : clients_of d u id ≡ client_at d u id
  unfolding clients_of
  client_here = rw (lt-ltb id ids k.below)

  -- the clients after are those before, with one anew
  pub touch_clients : clients_of d u ≡ put (clients_of c t) id (client_at d u id)
  touch_clients =
      fun_ext (put-cases (clients_of c t) id (client_at d u id) (λ j x. clients_of d u j ≡ x) client_here clients_elsewhere)

  stocks_elsewhere : (j : ℕ) → j ≢ id → stocks_of u j ≡ stocks_of t j
  unfolding stocks_of
  stocks_elsewhere j other = go (ltb j ids) refl
    where
      go : (b : Bool) → ltb j ids ≡ b → cond b (stock_at u j) bare ≡ cond b (stock_at t j) bare
      go true e = stock_elsewhere j (ltb-true j ids e) other
      go false e = refl

  stock_here : stocks_of u id ≡ stock_at u id
  unfolding stocks_of
  stock_here = rw (lt-ltb id ids k.below)

  -- and so is what they have to send
  pub touch_stocks : stocks_of u ≡ put (stocks_of t) id (stock_at u id)
  touch_stocks = fun_ext (put-cases (stocks_of t) id (stock_at u id) (λ j x. stocks_of u j ≡ x) stock_here stocks_elsewhere)

  waits_elsewhere : (j : ℕ) → j ≢ id → marked d.waiting j ≡ ltb j ids && not (eqb (count_at u.stocks j) 0)
  waits_elsewhere j other = k.waitings j other ∙ old.waits j ∙ go (ltb j ids) refl
    where
      go : (b : Bool) → ltb j ids ≡ b
          → b && not (eqb (count_at t.stocks j) 0) ≡ b && not (eqb (count_at u.stocks j) 0)
      go true e = ap (λ (n : ℕ). not (eqb n 0)) (sym (k.only_stocks count_column j (ltb-true j ids e) other))
      go false e = refl

  placed_elsewhere : (j : ℕ) → j ≢ id → j < ids
      → places_of j k.order ≡ cond (is_indifferent (kind_at d j)) (ring j (head_at u.stocks j) (count_at u.stocks j)) []
  placed_elsewhere j other l =
      rw (kind_elsewhere j other, k.only_stocks head_column j l other, k.only_stocks count_column j l other)
      (k.others j other ∙ old.placed j l)

  pub touch_shape : Shape d u
  touch_shape = record {
    sizes = k.sizes;
    heads = at_each id (λ j. j < ids → head_at u.stocks j < places) (λ l. k.head)
        (λ j other l. rw (k.only_stocks head_column j l other) (old.heads j l));
    waits = at_each id (λ j. marked d.waiting j ≡ ltb j ids && not (eqb (count_at u.stocks j) 0))
        (k.waits ∙ sym (ap (λ (b : Bool). b && not (eqb (count_at u.stocks id) 0)) (lt-ltb id ids k.below)))
        waits_elsewhere;
    apart = at_each id (λ j. marked d.private j ≡ true → marked d.indifferent j ≡ false) k.apart
        (λ j other e. k.indifferents j other ∙ old.apart j (sym (k.privates j other) ∙ e));
    rates_held = k.rates_held ∙ ap rates (sym touch_clients);
    sound = k.sound;
    order = k.order;
    ordered = k.ordered;
    placed = at_each id
        (λ j. j < ids → places_of j k.order
        ≡ cond (is_indifferent (kind_at d j)) (ring j (head_at u.stocks j) (count_at u.stocks j)) [])
        (λ l. k.placed)
        placed_elsewhere;
  }

-- the id's own marks and numbers before a call, read off the layout
module _ (c : Control) (t : Tables) (old : Shape c t) (id : ℕ) (below : id < ids) where
  pub waits_here : marked c.waiting id ≡ not (eqb (count_at t.stocks id) 0)
  waits_here = old.waits id ∙ ap (λ (b : Bool). b && not (eqb (count_at t.stocks id) 0)) (lt-ltb id ids below)

  pub client_own : clients_of c t id ≡ client_at c t id
  unfolding clients_of
  client_own = rw (lt-ltb id ids below)

  pub stock_own : stocks_of t id ≡ stock_at t id
  unfolding stocks_of
  stock_own = rw (lt-ltb id ids below)

  -- a client put in place that holds as much of the threshold as the one before
  pub rates-kept : (x : Client) → held x ≡ held (client_at c t id) → c.rates ≡ rates (put (clients_of c t) id x)
  rates-kept x same =
      omega (arith, old.rates_held, rates-put (clients_of c t) id x below, ap held client_own)

-- no more packets of an id wait than it has places
pub count_high : (c : Control) (t : Tables) → SoundCore c t → (id : ℕ) → id < ids → count_at t.stocks id ≤ places
unfolding state_of side_of stock_at
count_high c t sound id below =
    let high = queue_high_lem (clients_of c t id).kind (stocks_of t id).queue (sound.limits.side_limits.stock_limits id).queues in
    omega (
      arith,
      high,
      queue_length t id,
      ap (λ (k : Stock). length k.queue) (stock_own c t sound.shape id below),
    )
