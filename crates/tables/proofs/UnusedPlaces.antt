-- What stands in places where no packet waits is never seen. The meaning reads the places of the queues, and those of the order,
-- which are places of indifferent queues; so two cores that are the same there mean one core. Calls that keep their promise go by
-- the meaning alone, so they cannot tell them apart, however many follow: both are the stretch of that core. Assumes nothing.
use Prim.Native.Nat.{ℕ, ◌<◌}
use mathlib.Core.Path.{◌≡◌, refl, sym, ap, ap₂, subst, fun_ext, ◌∙◌}
use mathlib.Core.Logic.{◌≢◌}
use mathlib.Core.Bool.{Bool, true, false, cond, not, ◌&&◌}
use mathlib.Core.List.{List, [], ◌∷◌, map}
use native.Mathlib.Nat.{div-lt_iff_lt-mul}
use lib.Dec.{eqb, ltb}
use lib.ListN.{length, get_or, set, length-set}
use lib.Seq.{get_or-set_other}
use borrow.Author.Tests.{ltb-true}
use Rattle.definitions.specs.declared.Answer.TheVariants.{Accepted}
use Rattle.definitions.specs.Sizes.{ids}
use Rattle.definitions.specs.Client.{is_indifferent}
use Rattle.definitions.specs.Stock.{bare}
use Rattle.definitions.specs.Counts.{zeros}
use Rattle.definitions.specs.State.{Core, unopened, running, fresh}
use Rattle.definitions.specs.Checks.{Result, unchanged, open_checks, rates}
use Rattle.definitions.specs.Event.{Event, Open}
use Rattle.definitions.specs.Calls.{on_open}
use Rattle.definitions.specs.Core.{step}
use Rattle.definitions.specs.History.{Trace}
use Rattle.definitions.specs.Stretch.{stretch, behind}
use Rattle.definitions.proofs.Laws.Tests.{eqb_same}
use Rattle.definitions.proofs.Laws.Checked.{checked_anyway}
use Rattle.marks.specs.Marks.{marked}
use Rattle.order.specs.Order.{sentinel, Linked, All, Ordered}
use Rattle.order.specs.Owner.{owner, places_of}
use Rattle.order.proofs.DistinctLists.{all_map}
use Rattle.order.proofs.OrderWalk.{ordered-walked}
use Rattle.counts.specs.CountTable.{count_in}
use Rattle.tables.specs.declared.Control.{Control}
use Rattle.tables.specs.declared.Answered.{Answered}
use Rattle.tables.specs.declared.Tables.{Tables}
use Rattle.tables.specs.Tables.{tables, head_at, count_at, ring}
use Rattle.tables.specs.Meaning.{kind_at, packet_at, queue_at, client_at, clients_of, stock_at, stocks_of, order_of, side_of, state_of, core_of, counts_of, whole_of}
use Rattle.tables.specs.Invariant.{Shape, Valid}
use Rattle.tables.specs.Promise.{Meets}
use Rattle.tables.specs.Run.{calls_of}
use Rattle.tables.specs.Unused.{waiting_places, SameLinks, SamePlace, SameWhereWaiting, DifferUnused, Unused, overwritten}
use Rattle.tables.specs.CallsFrom.{CallsFrom}
use Rattle.tables.specs.Unseen.{Indistinct, Laid, UnusedUnseen}
use Rattle.tables.proofs.RunCounts.{counts_alike}
use Rattle.tables.proofs.DefinedCalls.{from_core, from_trace}
use Rattle.tables.proofs.Fields.{places_positive, ring-length}
use Rattle.tables.proofs.QueueRing.{packets_same}

pub owner_below : (p : ℕ) → p < sentinel → owner p < ids
unfolding owner sentinel
owner_below p below = (div-lt_iff_lt-mul places_positive).1 below

-- each place of an order is one of its owner's
module _ (P : ℕ → Type 0) where
  own_place : (p : ℕ) (order : List ℕ) → All P (places_of (owner p) (p ∷ order)) → P p
  unfolding places_of
  own_place p order all =
      (subst (λ (b : Bool). All P (cond b (p ∷ places_of (owner p) order) (places_of (owner p) order))) (eqb_same (owner p)) all).0

  other_places : (id p : ℕ) (order : List ℕ) → All P (places_of id (p ∷ order)) → All P (places_of id order)
  unfolding places_of
  other_places id p order = go (eqb (owner p) id)
    where
      go : (b : Bool) → All P (cond b (p ∷ places_of id order) (places_of id order)) → All P (places_of id order)
      go true all = all.1
      go false all = all

  places_of_each : (order : List ℕ) → All (λ p. p < sentinel) order
      → ((id : ℕ) → id < ids → All P (places_of id order))
      → All P order
  places_of_each [] within each = tt
  places_of_each (p ∷ order) within each = (
    own_place p order (each (owner p) (owner_below p within.0)),
    places_of_each order within.1 (λ id below. other_places id p order (each id below)),
  )

module _ (t u : Tables) where
  -- a stretch of the order that goes through nodes with the same links
  linked_same : (a : ℕ) (order : List ℕ) (b : ℕ)
      → SameLinks t u a → All (SameLinks t u) order → SameLinks t u b
      → Linked t.links a order b
      → Linked u.links a order b
  linked_same a [] b from all to h = record { next = from.next ∙ h.next; prev = to.prev ∙ h.prev }
  linked_same a (p ∷ order) b from all to h = (
    record { next = from.next ∙ h.0.next; prev = all.0.prev ∙ h.0.prev },
    linked_same p order b all.0 all.1 to h.1,
  )

  ordered_same : (order : List ℕ) → SameLinks t u sentinel → All (SameLinks t u) order
      → Ordered t.links order
      → Ordered u.links order
  ordered_same order ends all h = record {
    linked = linked_same sentinel order sentinel ends all ends h.linked;
    within = h.within;
    distinct = h.distinct;
  }

  -- a queue at the same places, with the same packets there
  queue_same : (id : ℕ) → waiting_places u id ≡ waiting_places t id → All (SamePlace t u) (waiting_places t id)
      → queue_at u id ≡ queue_at t id
  unfolding queue_at waiting_places
  queue_same id same all =
      ap (map (packet_at u)) same
      ∙ packets_same t u (waiting_places t id)
      (all_map (SamePlace t u) (λ p. packet_at u p ≡ packet_at t p) (λ p e. e.packet) (waiting_places t id) all)

  stock_same : SameWhereWaiting t u → (id : ℕ) → id < ids → stock_at u id ≡ stock_at t id
  unfolding stock_at
  stock_same same id below = λ i. record {
    queue = queue_same id (same.waiting id below) (same.places id below) i;
    pool = same.pools id below i;
  }

  stocks_same : SameWhereWaiting t u → stocks_of u ≡ stocks_of t
  unfolding stocks_of
  stocks_same same = fun_ext (λ id. go id (ltb id ids) refl)
    where
      go : (id : ℕ) (b : Bool) → ltb id ids ≡ b → cond b (stock_at u id) bare ≡ cond b (stock_at t id) bare
      go id true e = stock_same same id (ltb-true id ids e)
      go id false e = refl

  counts_same : (id : ℕ) → waiting_places u id ≡ waiting_places t id → count_at u.stocks id ≡ count_at t.stocks id
  unfolding waiting_places
  counts_same id same =
      sym (ring-length id (head_at u.stocks id) (count_at u.stocks id))
      ∙ ap length same
      ∙ ring-length id (head_at t.stocks id) (count_at t.stocks id)

module _ (c : Control) (t u : Tables) (shape : Shape c t) (same : SameWhereWaiting t u) where
  clients_same : clients_of c u ≡ clients_of c t
  unfolding clients_of client_at
  clients_same = rw same.terms

  -- the order has places of indifferent queues alone
  placed_same : (id : ℕ) → id < ids → All (SameLinks t u) (places_of id shape.order)
  unfolding waiting_places
  placed_same id below = subst (All (SameLinks t u)) (sym (shape.placed id below)) (go (is_indifferent (kind_at c id)))
    where
      links_same : All (SameLinks t u) (waiting_places t id)
      links_same = all_map (SamePlace t u) (SameLinks t u) (λ p e. e.links) (waiting_places t id) (same.places id below)

      go : (b : Bool) → All (SameLinks t u) (cond b (ring id (head_at t.stocks id) (count_at t.stocks id)) [])
      go true = links_same
      go false = tt

  order_kept_lem : Ordered u.links shape.order
  order_kept_lem =
      ordered_same t u shape.order same.ends
      (places_of_each (SameLinks t u) shape.order shape.ordered.within placed_same) shape.ordered

  order_same : order_of u ≡ order_of t
  unfolding order_of
  order_same =
      ap (map owner)
      (ordered-walked u.links shape.order order_kept_lem ∙ sym (ordered-walked t.links shape.order shape.ordered))

  state_same : state_of c u ≡ state_of c t
  unfolding state_of side_of
  state_same = λ i. record {
    threshold = c.threshold;
    discipline = c.discipline;
    clients = clients_same i;
    side = record { generator = c.generator.value; order = order_same i; stocks = stocks_same t u same i };
  }

  waits_same : (id : ℕ) → marked c.waiting id ≡ ltb id ids && not (eqb (count_at u.stocks id) 0)
  waits_same id = shape.waits id ∙ go (ltb id ids) refl
    where
      go : (b : Bool) → ltb id ids ≡ b
          → b && not (eqb (count_at t.stocks id) 0) ≡ b && not (eqb (count_at u.stocks id) 0)
      go true e = ap (λ (n : ℕ). not (eqb n 0)) (sym (counts_same t u id (same.waiting id (ltb-true id ids e))))
      go false e = refl

  shape_same : Laid u → Shape c u
  unfolding waiting_places
  shape_same laid = record {
    sizes = laid.sizes;
    heads = laid.heads;
    waits = waits_same;
    apart = shape.apart;
    rates_held = shape.rates_held ∙ ap rates (sym clients_same);
    sound = laid.sound;
    order = shape.order;
    ordered = order_kept_lem;
    placed = λ id below.
        shape.placed id below
        ∙ ap (λ (ring : List ℕ). cond (is_indifferent (kind_at c id)) ring []) (sym (same.waiting id below));
  }

module _ (c : Control) (t u : Tables) (valid : Valid c t) (differ : DifferUnused c t u) where
  core_same : core_of c u ≡ core_of c t
  unfolding core_of
  core_same = go c.opened refl
    where
      go : (b : Bool) → c.opened ≡ b → cond b (running (state_of c u)) unopened ≡ cond b (running (state_of c t)) unopened
      go true e = ap running (state_same c t u (valid e).shape (differ e))
      go false e = refl

  valid_same : (c.opened ≡ true → Laid u) → Valid c u
  valid_same laid e = record {
    shape = shape_same c t u (valid e).shape (differ e) (laid e);
    limits = rw (state_same c t u (valid e).shape (differ e)) (valid e).limits;
  }

-- one call, on two cores that mean the same
module _ {call : Event} {c d : Control} {t u v w : Tables} {r q : Answered}
    (same : core_of d u ≡ core_of c t) (m : Meets call c t r v) (n : Meets call d u q w)
  where
    answer_same : q.answer ≡ r.answer
    answer_same = n.answer ∙ ap (λ (x : Core). (step x call).answer) same ∙ sym m.answer

    core_after_lem : core_of q.control w ≡ core_of r.control v
    core_after_lem = n.core ∙ ap (λ (x : Core). (step x call).core) same ∙ sym m.core

-- any calls: both are the stretch of the one core that the two mean
calls_same : {c d : Control} {t u : Tables} {first second : Trace} {e f : Control} {v w : Tables}
    → core_of d u ≡ core_of c t
    → CallsFrom Meets c t first e v
    → CallsFrom Meets d u second f w
    → calls_of second ≡ calls_of first
    → (second ≡ first) × (core_of f w ≡ core_of e v)
calls_same same x y agree = (
  from_trace y ∙ ap₂ stretch same agree ∙ sym (from_trace x),
  from_core y ∙ ap₂ behind same agree ∙ sym (from_core x),
)

pub indistinct : {c d : Control} {t u : Tables} → core_of d u ≡ core_of c t → Indistinct c t d u
indistinct same = record {
  core = same;
  call = λ m n. (answer_same same m n, core_after_lem same m n);
  calls = calls_same same;
}

-- an open that is accepted leaves a fresh core, and since its checks ask nothing of the core before, any core accepts it
fresh-after : {threshold discipline seed : ℕ} {c d : Control} {t u v w : Tables} {r q : Answered}
    → Meets (Open threshold discipline seed) c t r v
    → Meets (Open threshold discipline seed) d u q w
    → r.answer ≡ Accepted
    → core_of q.control w ≡ running (fresh threshold discipline seed)
unfolding step on_open
fresh-after {threshold} {discipline} {seed} {c} {d} {t} {u} m n accepts =
    n.core
    ∙ ap (λ (x : Result). x.core)
    (checked_anyway (open_checks threshold discipline seed) (unchanged (core_of c t)) (unchanged (core_of d u))
    (fresh threshold discipline seed) (sym m.answer ∙ accepts))

-- the same tables with other handles and lengths
abbrev pub rewritten : Tables → List ℕ → List ℕ → Tables
rewritten t handles lengths = tables t.terms t.stocks handles lengths t.links t.counts

module _ (t : Tables) (handles lengths : List ℕ) where
  pub rewritten_place : (p : ℕ) → get_or handles p 0 ≡ get_or t.handles p 0 → get_or lengths p 0 ≡ get_or t.lengths p 0
      → SamePlace t (rewritten t handles lengths) p
  unfolding packet_at
  rewritten_place p e f = record {
    packet = λ i. record { handle = e i; length = f i };
    links = record { next = refl; prev = refl };
  }

  pub rewritten_waiting : ((id : ℕ) → id < ids → All (SamePlace t (rewritten t handles lengths)) (waiting_places t id))
      → SameWhereWaiting t (rewritten t handles lengths)
  unfolding waiting_places
  rewritten_waiting same = record {
    terms = refl;
    pools = λ id below. refl;
    waiting = λ id below. refl;
    places = same;
    ends = record { next = refl; prev = refl };
    counts = refl;
  }

  pub rewritten_laid : {c : Control} → Shape c t → length handles ≡ length t.handles → length lengths ≡ length t.lengths
      → Laid (rewritten t handles lengths)
  rewritten_laid shape e f = record {
    sizes = record {
      terms = shape.sizes.terms;
      stocks = shape.sizes.stocks;
      handles = e ∙ shape.sizes.handles;
      lengths = f ∙ shape.sizes.lengths;
      counts = shape.sizes.counts;
    };
    heads = shape.heads;
    sound = shape.sound;
  }

-- other numbers at a place where no packet waits
module _ (t : Tables) (place handle length : ℕ) (unused : Unused t place) where
  place_kept : (p : ℕ) → place ≢ p → SamePlace t (overwritten t place handle length) p
  place_kept p other =
      rewritten_place t (set t.handles place handle) (set t.lengths place length) p
      (get_or-set_other t.handles place p handle 0 (λ e. other (sym e)))
      (get_or-set_other t.lengths place p length 0 (λ e. other (sym e)))

  waiting_kept : SameWhereWaiting t (overwritten t place handle length)
  waiting_kept =
      rewritten_waiting t (set t.handles place handle) (set t.lengths place length)
      (λ id below.
      all_map (λ p. place ≢ p) (SamePlace t (overwritten t place handle length)) place_kept (waiting_places t id) (unused id below))

pub whole_same : (c : Control) (t u : Tables) → Valid c t → DifferUnused c t u → whole_of c u ≡ whole_of c t
unfolding counts_of
whole_same c t u valid differ = λ i. record { core = core_same c t u valid differ i; counts = λ id. same id i }
  where
    same : (id : ℕ) → counts_of c u id ≡ counts_of c t id
    same id = go c.opened refl
      where
        go : (b : Bool) → c.opened ≡ b
            → cond (b && ltb id ids) (count_in u.counts id) zeros ≡ cond (b && ltb id ids) (count_in t.counts id) zeros
        go true o = rw (differ o).counts
        go false o = refl

pub unused_unseen : UnusedUnseen
unused_unseen = record {
  indistinct = λ c t u valid differ. indistinct (core_same c t u valid differ);
  valid = valid_same;
  overwriting = λ c t place handle length valid unused.
      let differ : DifferUnused c t (overwritten t place handle length) = λ e. waiting_kept t place handle length unused in (
        differ,
        valid_same c t (overwritten t place handle length) valid differ
            (λ e. rewritten_laid t _ _ (valid e).shape (length-set t.handles place handle) (length-set t.lengths place length)),
      );
  counts = λ {c} {t = t} {u} valid differ. counts_alike (whole_same c t u valid differ);
  opened = λ m n e. indistinct (fresh-after m n e ∙ sym (fresh-after m m e));
}
