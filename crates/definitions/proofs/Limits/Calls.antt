-- Six of the seven calls keep the limits.
-- A refused call keeps the core. An accepted one puts a client and an order in place: `Update` is what is asked of the two.
use Prim.Native.Nat.{ℕ, ◌+◌, ◌-◌, ◌≤◌, ◌<◌}
use mathlib.Core.Path.{◌≡◌, refl, sym, ap, subst, ◌∙◌}
use mathlib.Core.Bool.{Bool, true, false, cond, true≢false}
use mathlib.Core.List.{List, [], ◌∷◌, ◌++◌}
use native.Mathlib.Omega.{arith}
use lib.ListN.{length, length-append}
use borrow.Author.Tests.{ltb-true, leb-true, not-true}
use Rattle.definitions.specs.declared.Packet.{Packet}
use Rattle.definitions.specs.Sizes.{ids, places, pool_limit, shares, shortest, longest, weighted_draw}
use Rattle.definitions.specs.Client.{Kind, absent, indifferent, private, kind_of, is_active, is_indifferent, same_kind, Client, nobody, joining, retuned, changed, charged}
use Rattle.definitions.specs.Stock.{Stock, bare, loaded, queued}
use Rattle.definitions.specs.State.{Side, State, Core, running, fresh, updated, put, stocked, without, emptied}
use Rattle.definitions.specs.Checks.{Check, accepted, checked, unchanged, active_rate, rates, open_checks, term_checks, join_checks, active_checks, change_checks, leave_checks, load_checks, arrive_checks}
use Rattle.definitions.specs.Calls.{on_open, on_join, side_after_change, on_change, on_leave, on_load, order_after_arrival, side_after_arrival, on_arrive}
use Rattle.definitions.specs.Limits.{ClientLimits, StockLimits, standing, ordered, StateLimits, CoreLimits}
use Rattle.definitions.proofs.Laws.Tests.{cond_both, cond_same, eqb-cases, within-true}
use Rattle.definitions.proofs.Laws.Checked.{Passed, checked-cases}
use Rattle.definitions.proofs.Laws.Kinds.{same_kind-true}
use Rattle.definitions.proofs.Laws.Clients.{put-cases, put_own}
use Rattle.definitions.proofs.Laws.Sums.{sum_below-zero}
use Rattle.definitions.proofs.Laws.Rates.{held, held_high, held_active, rates-put}
use Rattle.definitions.proofs.Limits.Order.{standing_push_same, standing_push_other, standing-without_same, standing-without_other}
use Rattle.definitions.proofs.Limits.Client.{Parts, Terms, terms_passed, limits_parts, parts_limits, joining_parts, retuned_parts, charged_parts}
use Rattle.definitions.proofs.Limits.Stock.{bare-limits, loaded-limits, queued-limits}

-- What belongs into the order.

ordered_inactive : (c : Client) (k : Stock) → is_active c.kind ≡ false → ordered c k ≡ 0
unfolding ordered
ordered_inactive c k e = go c.kind e
  where
    go : (x : Kind) → is_active x ≡ false → cond (is_indifferent x) (length k.queue) 0 ≡ 0
    go absent f = refl
    go indifferent f = absurd (true≢false f)
    go private f = refl

ordered-bare : (c : Client) → ordered c bare ≡ 0
unfolding ordered
ordered-bare c = cond_same (is_indifferent c.kind) 0

-- what is asked of a client and of what it has to send, where they are put in place
record Update (s : State) (id : ℕ) (c : Client) (k : Stock) (order : List ℕ) : Type 0 where
  below : id < ids
  parts : Parts c
  -- the others' rates and the client's together do not pass the threshold
  threshold : rates s.clients + held c ≤ s.threshold + held (s.clients id)
  stock : StockLimits c.kind k
  own : standing id order ≡ ordered c k
  others : (j : ℕ) → (j ≡ id → ⊥) → standing j order ≡ standing j s.side.order

-- the side with one stock and the order anew
abbrev with_stock : State → ℕ → Stock → List ℕ → Side
with_stock s id k order = record { generator = s.side.generator; order = order; stocks = put s.side.stocks id k }

module _ (s : State) (known : StateLimits s) where
  updated-limits : (id : ℕ) (c : Client) (k : Stock) (order : List ℕ)
      → Update s id c k order
      → StateLimits (updated s (put s.clients id c) (with_stock s id k order))
  unfolding updated put
  updated-limits id c k order u = record {
    threshold_low = known.threshold_low;
    threshold_high = known.threshold_high;
    discipline_high = known.discipline_high;
    rates_high = omega (arith, rates-put s.clients id c u.below, u.threshold);
    client_limits = put-cases s.clients id c (λ j d. ClientLimits d)
        (parts_limits c u.parts)
        (λ j other. known.client_limits j);
    ids_high = put-cases s.clients id c (λ j d. ids ≤ j → d ≡ nobody)
        (λ high. absurd (omega (arith, u.below)))
        (λ j other. known.ids_high j);
    side_limits = record {
      stock_limits = λ j. eqb-cases (λ t. StockLimits (cond t c (s.clients j)).kind (cond t k (s.side.stocks j))) j id
          (λ e. u.stock)
          (λ other. known.side_limits.stock_limits j);
      order_whole = λ j. eqb-cases (λ t. standing j order ≡ ordered (cond t c (s.clients j)) (cond t k (s.side.stocks j))) j id
          (λ e. rw e u.own)
          (λ other. u.others j other ∙ known.side_limits.order_whole j);
    };
  }

  call-limits : (cs : List Check) (id : ℕ) (c : Client) (k : Stock) (order : List ℕ)
      → (Passed cs → Update s id c k order)
      → CoreLimits (checked cs (unchanged (running s))
      (accepted (updated s (put s.clients id c) (with_stock s id k order)))).core
  call-limits cs id c k order update =
      checked-cases (λ r. CoreLimits r.core) cs (unchanged (running s))
      (accepted (updated s (put s.clients id c) (with_stock s id k order)))
      (λ number. known)
      (λ passed. updated-limits id c k order (update passed))

  module _ (id : ℕ) where
    old : Parts (s.clients id)
    old = limits_parts (s.clients id) (known.client_limits id)

    old_stock : StockLimits (s.clients id).kind (s.side.stocks id)
    old_stock = known.side_limits.stock_limits id

    join_update : (kind rate burst : ℕ)
        → Passed (join_checks s id kind rate burst)
        → Update s id (joining kind rate burst) bare s.side.order
    unfolding join_checks term_checks joining
    join_update kind rate burst h = record {
      below = ltb-true id ids h.0;
      parts = joining_parts kind rate burst (terms_passed s.threshold (rates s.clients) kind rate burst h.1.1);
      threshold = omega (
        arith,
        held_high (joining kind rate burst),
        leb-true (rates s.clients + rate) s.threshold h.1.1.1.1.1.0,
      );
      stock = bare-limits (kind_of kind);
      own = known.side_limits.order_whole id
          ∙ ordered_inactive (s.clients id) (s.side.stocks id) (not-true (is_active (s.clients id).kind) h.1.0)
          ∙ sym (ordered-bare (joining kind rate burst));
      others = λ j other. refl;
    }

    pub join_limits : (kind rate burst : ℕ) → CoreLimits (on_join s id kind rate burst).core
    unfolding on_join stocked
    join_limits kind rate burst =
        call-limits (join_checks s id kind rate burst) id (joining kind rate burst) bare s.side.order
        (join_update kind rate burst)

    module _ (kind rate burst : ℕ) (h : Passed (change_checks s id kind rate burst)) where
      change_terms : Terms (kind_of kind) rate burst
      unfolding change_checks active_checks
      change_terms = terms_passed s.threshold (rates s.clients - (s.clients id).rate) kind rate burst h.1.1

      change_below : id < ids
      unfolding change_checks active_checks
      change_below = ltb-true id ids h.0

      traded : (d : Client) → d.rate ≡ rate → rates s.clients + held d ≤ s.threshold + held (s.clients id)
      unfolding change_checks active_checks term_checks
      traded d e =
          omega (
            arith,
            held_high d,
            held_active (s.clients id) h.1.0,
            leb-true (rates s.clients - (s.clients id).rate + rate) s.threshold h.1.1.1.1.1.0,
          )

      retuned_update : (s.clients id).kind ≡ kind_of kind
          → Update s id (retuned (s.clients id) rate burst) (s.side.stocks id) s.side.order
      unfolding retuned ordered
      retuned_update same = record {
        below = change_below;
        parts = retuned_parts (s.clients id) old rate burst (rw same change_terms);
        threshold = traded (retuned (s.clients id) rate burst) refl;
        stock = old_stock;
        own = known.side_limits.order_whole id;
        others = λ j other. refl;
      }

      joining_update : Update s id (joining kind rate burst) bare (without id s.side.order)
      unfolding joining
      joining_update = record {
        below = change_below;
        parts = joining_parts kind rate burst change_terms;
        threshold = traded (joining kind rate burst) refl;
        stock = bare-limits (kind_of kind);
        own = standing-without_same id s.side.order ∙ sym (ordered-bare (joining kind rate burst));
        others = λ j other. standing-without_other id j other s.side.order;
      }

      changed-limits : StateLimits
          (updated s (put s.clients id (changed (s.clients id) kind rate burst)) (side_after_change s id kind))
      unfolding changed side_after_change emptied
      changed-limits = go (same_kind (s.clients id).kind (kind_of kind)) refl
        where
          stays : with_stock s id (s.side.stocks id) s.side.order ≡ s.side
          stays =
              ap (λ (k : ℕ → Stock). record { generator = s.side.generator; order = s.side.order; stocks = k })
              (put_own s.side.stocks id)

          go : (b : Bool)
              → same_kind (s.clients id).kind (kind_of kind) ≡ b
              → StateLimits (updated s
              (put s.clients id (cond b (retuned (s.clients id) rate burst) (joining kind rate burst)))
              (cond b s.side (emptied s.side id)))
          go true e =
              let tuned : Client = retuned (s.clients id) rate burst in
              subst (λ (side : Side). StateLimits (updated s (put s.clients id tuned) side)) stays
              (updated-limits id tuned (s.side.stocks id) s.side.order
              (retuned_update (same_kind-true (s.clients id).kind (kind_of kind) e)))
          go false e = updated-limits id (joining kind rate burst) bare (without id s.side.order) joining_update

    pub change_limits : (kind rate burst : ℕ) → CoreLimits (on_change s id kind rate burst).core
    unfolding on_change
    change_limits kind rate burst =
        checked-cases (λ r. CoreLimits r.core) (change_checks s id kind rate burst) (unchanged (running s))
        (accepted (updated s (put s.clients id (changed (s.clients id) kind rate burst)) (side_after_change s id kind)))
        (λ number. known)
        (changed-limits kind rate burst)

    leave_update : Passed (leave_checks s id) → Update s id nobody bare (without id s.side.order)
    unfolding leave_checks active_checks held ordered
    leave_update h = record {
      below = ltb-true id ids h.0;
      parts = limits_parts nobody refl;
      threshold = omega (arith, known.rates_high);
      stock = bare-limits absent;
      own = standing-without_same id s.side.order;
      others = λ j other. standing-without_other id j other s.side.order;
    }

    pub leave_limits : CoreLimits (on_leave s id).core
    unfolding on_leave emptied
    leave_limits = call-limits (leave_checks s id) id nobody bare (without id s.side.order) leave_update

    load_update : (dummies : ℕ)
        → Passed (load_checks s id dummies)
        → Update s id (s.clients id) (loaded (s.side.stocks id) dummies) s.side.order
    unfolding load_checks active_checks loaded held ordered
    load_update dummies h = record {
      below = ltb-true id ids h.0;
      parts = old;
      threshold = omega (arith, known.rates_high);
      stock = loaded-limits (s.clients id).kind (s.side.stocks id) old_stock dummies h.1.0 h.1.1.0
          (leb-true ((s.side.stocks id).pool + dummies) pool_limit h.1.1.1.0);
      own = known.side_limits.order_whole id;
      others = λ j other. refl;
    }

    -- a load leaves the clients as they are
    pub load_limits : (dummies : ℕ) → CoreLimits (on_load s id dummies).core
    unfolding on_load stocked
    load_limits dummies =
        subst
        (λ (clients : ℕ → Client).
        CoreLimits (checked (load_checks s id dummies) (unchanged (running s)) (accepted (updated s clients side))).core)
        (put_own s.clients id)
        (call-limits (load_checks s id dummies) id (s.clients id) (loaded (s.side.stocks id) dummies) s.side.order
        (load_update dummies))
      where
        side : Side
        side = with_stock s id (loaded (s.side.stocks id) dummies) s.side.order

    arrive_update : (p : Packet)
        → Passed (arrive_checks s id p)
        → Update s id (charged (s.clients id)) (queued (s.side.stocks id) p) (order_after_arrival s id)
    unfolding arrive_checks active_checks charged queued held ordered order_after_arrival
    arrive_update p h = record {
      below = ltb-true id ids h.0;
      parts = charged_parts (s.clients id) old;
      threshold = omega (arith, known.rates_high);
      stock = queued-limits (s.clients id).kind (s.side.stocks id) old_stock p h.1.0
          (within-true shortest longest p.length h.1.1.0)
          (ltb-true (length (s.side.stocks id).queue) places h.1.1.1.0);
      own = own (is_indifferent (s.clients id).kind) (known.side_limits.order_whole id);
      others = λ j other. cond_both (λ (order : List ℕ). standing j order ≡ standing j s.side.order)
          (is_indifferent (s.clients id).kind)
          (standing_push_other id j other s.side.order)
          refl;
    }
      where
        queue : List Packet
        queue = (s.side.stocks id).queue

        own : (b : Bool)
            → standing id s.side.order ≡ cond b (length queue) 0
            → standing id (cond b (s.side.order ++ (id ∷ [])) s.side.order) ≡ cond b (length (queue ++ (p ∷ []))) 0
        own true e = omega (arith, standing_push_same id s.side.order, length-append queue (p ∷ []))
        own false e = e

    pub arrive_limits : (p : Packet) → CoreLimits (on_arrive s id p).core
    unfolding on_arrive side_after_arrival
    arrive_limits p =
        call-limits (arrive_checks s id p) id (charged (s.clients id)) (queued (s.side.stocks id) p) (order_after_arrival s id)
        (arrive_update p)

-- An open asks nothing of the core before but its limits, which a refusal keeps.

fresh-limits : (threshold discipline seed : ℕ)
    → Passed (open_checks threshold discipline seed)
    → StateLimits (fresh threshold discipline seed)
unfolding open_checks fresh rates active_rate standing ordered
fresh-limits threshold discipline seed h = record {
  threshold_low = (within-true 1 shares threshold h.0).0;
  threshold_high = (within-true 1 shares threshold h.0).1;
  discipline_high = leb-true discipline weighted_draw h.1.0;
  rates_high = omega (arith, sum_below-zero ids (active_rate (λ id. nobody)) (λ i h. refl));
  client_limits = λ id. refl;
  ids_high = λ id high. refl;
  side_limits = record { stock_limits = λ id. bare-limits absent; order_whole = λ id. refl };
}

pub open_limits : (core : Core)
    → CoreLimits core
    → (threshold discipline seed : ℕ)
    → CoreLimits (on_open core threshold discipline seed).core
unfolding on_open
open_limits core known threshold discipline seed =
    checked-cases (λ r. CoreLimits r.core) (open_checks threshold discipline seed) (unchanged core)
    (accepted (fresh threshold discipline seed))
    (λ number. known)
    (fresh-limits threshold discipline seed)
