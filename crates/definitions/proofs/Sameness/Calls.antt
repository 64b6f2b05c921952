-- The six calls other than tick against erasure. A kept call gets the same answer from a core and from its erasure, and
-- leaves cores that are erased alike; an arrive or load of a private neighbour, or of nobody, leaves the erasure as it was.
-- The tests of a kept call read kinds and rates, and those of a kept arrive or load what the client that it names has:
-- none of it is erased. Assumes nothing.
use Prim.Native.Nat.{ℕ}
use mathlib.Core.Path.{◌≡◌, refl, ap, ◌∙◌}
use mathlib.Core.Bool.{Bool, true, false, cond}
use mathlib.Core.List.{List}
use lib.Dec.{eqb, ltb}
use borrow.Author.Tests.{eqb-true}
use Rattle.definitions.specs.declared.Packet.{Packet}
use Rattle.definitions.specs.Sizes.{ids}
use Rattle.definitions.specs.Client.{Client, Kind, absent, indifferent, private, is_active, is_indifferent, kind_of, same_kind, nobody, with_level, joining, retuned, changed, charged}
use Rattle.definitions.specs.Stock.{Stock, bare, loaded, queued}
use Rattle.definitions.specs.State.{Side, State, Core, running, fresh, updated, put, stocked, emptied}
use Rattle.definitions.specs.Checks.{Result, Check, checked, unchanged, accepted, refused, open_checks, join_checks, active_checks, change_checks, leave_checks, load_checks, arrive_checks}
use Rattle.definitions.specs.Calls.{on_open, on_join, side_after_change, on_change, on_leave, on_load, order_after_arrival, side_after_arrival, on_arrive}
use Rattle.definitions.proofs.Laws.Tests.{true-false}
use Rattle.definitions.proofs.Laws.Checked.{checked-cases, checked_rel}
use Rattle.definitions.proofs.Laws.Clients.{put_same, put_other, put_keeps, put_own}
use Rattle.definitions.proofs.Sameness.Erase.{hidden, shown, erase, erase_core, erase_path, shown_open, shown-kept, shown-put, erase_twice, erase_core_twice}

-- the same answer, and cores that are erased alike
pub record Alike (chosen : ℕ) (r q : Result) : Type 0 where
  pub answers : r.answer ≡ q.answer
  pub cores : erase_core chosen r.core ≡ erase_core chosen q.core

module _ (chosen : ℕ) where
  -- what is done on a state and on its erasure, under the same checks
  checked_alike : (s : State) (cs cs' : List Check) (t t' : State) → cs' ≡ cs → erase chosen t ≡ erase chosen t'
      → Alike chosen (checked cs (unchanged (running s)) (accepted t))
      (checked cs' (unchanged (running (erase chosen s))) (accepted t'))
  unfolding erase_core
  checked_alike s cs cs' t t' e d =
      rw e
      (checked_rel (Alike chosen) cs (unchanged (running s)) (unchanged (running (erase chosen s))) (accepted t) (accepted t')
      (λ n. record { answers = refl; cores = ap running (erase_twice chosen s) })
      (record { answers = refl; cores = ap running d }))

  -- clients and side anew, in a state and in its erasure
  updated_alike : (s : State) (clients : ℕ → Client) (side side' : Side)
      → side.generator ≡ side'.generator
      → side.order ≡ side'.order
      → ((j : ℕ) → shown chosen clients side.stocks j ≡ shown chosen clients side'.stocks j)
      → erase chosen (updated s clients side) ≡ erase chosen (updated (erase chosen s) clients side')
  unfolding updated erase
  updated_alike s clients side side' g o e =
      erase_path chosen (updated s clients side) (updated (erase chosen s) clients side') refl refl refl g o e

  pub open_alike : (core : Core) (threshold discipline seed : ℕ)
      → Alike chosen (on_open core threshold discipline seed) (on_open (erase_core chosen core) threshold discipline seed)
  unfolding on_open
  open_alike core threshold discipline seed =
      checked_rel (Alike chosen) (open_checks threshold discipline seed)
      (unchanged core) (unchanged (erase_core chosen core)) done done
      (λ n. record { answers = refl; cores = erase_core_twice chosen core })
      (record { answers = refl; cores = refl })
    where
      done : Result
      done = accepted (fresh threshold discipline seed)

  module _ (s : State) (id : ℕ) where
    -- one client anew, whose stock is as good as the one in the erasure
    stock_alike : (c : Client) (k k' : Stock)
        → cond (hidden chosen id c) bare k ≡ cond (hidden chosen id c) bare k'
        → (j : ℕ)
        → shown chosen (put s.clients id c) (put s.side.stocks id k) j
        ≡ shown chosen (put s.clients id c) (put (shown chosen s.clients s.side.stocks) id k') j
    stock_alike c k k' e =
        shown-put chosen s.clients s.side.stocks (put s.clients id c) id k k'
        (λ j other. ap (λ (d : Client). d.kind) (put_other s.clients id c j other))
        (rw (put_same s.clients id c) e)

    pub join_alike : (kind rate burst : ℕ)
        → Alike chosen (on_join s id kind rate burst) (on_join (erase chosen s) id kind rate burst)
    unfolding on_join erase stocked join_checks
    join_alike kind rate burst =
        checked_alike s (join_checks s id kind rate burst) (join_checks (erase chosen s) id kind rate burst)
        (updated s clients (stocked s.side id bare))
        (updated (erase chosen s) clients (stocked (erase chosen s).side id bare))
        refl
        (updated_alike s clients (stocked s.side id bare) (stocked (erase chosen s).side id bare) refl refl
        (stock_alike (joining kind rate burst) bare bare refl))
      where
        clients : ℕ → Client
        clients = put s.clients id (joining kind rate burst)

    -- what is emptied is empty in the erasure, too
    emptied_alike : (c : Client)
        → erase chosen (updated s (put s.clients id c) (emptied s.side id))
        ≡ erase chosen (updated (erase chosen s) (put s.clients id c) (emptied (erase chosen s).side id))
    unfolding emptied erase
    emptied_alike c =
        updated_alike s (put s.clients id c) (emptied s.side id) (emptied (erase chosen s).side id) refl refl
        (stock_alike c bare bare refl)

    pub leave_alike : Alike chosen (on_leave s id) (on_leave (erase chosen s) id)
    unfolding on_leave erase leave_checks active_checks
    leave_alike =
        checked_alike s (leave_checks s id) (leave_checks (erase chosen s) id)
        (updated s (put s.clients id nobody) (emptied s.side id))
        (updated (erase chosen s) (put s.clients id nobody) (emptied (erase chosen s).side id))
        refl
        (emptied_alike nobody)

    -- A client keeps its stock only where it keeps its kind, and then it is hidden before and after, or neither.
    changed_alike : (kind rate burst : ℕ)
        → erase chosen (updated s (put s.clients id (changed (s.clients id) kind rate burst)) (side_after_change s id kind))
        ≡ erase chosen (updated (erase chosen s) (put s.clients id (changed (s.clients id) kind rate burst))
        (side_after_change (erase chosen s) id kind))
    unfolding side_after_change changed retuned erase
    changed_alike kind rate burst = go (same_kind (s.clients id).kind (kind_of kind))
      where
        tuned : Client
        tuned = retuned (s.clients id) rate burst

        kinds : (j : ℕ) → (put s.clients id tuned j).kind ≡ (s.clients j).kind
        kinds = put_keeps s.clients id tuned (λ (c : Client). c.kind) refl

        clients : Bool → ℕ → Client
        clients same = put s.clients id (cond same tuned (joining kind rate burst))

        go : (same : Bool)
            → erase chosen (updated s (clients same) (cond same s.side (emptied s.side id)))
            ≡ erase chosen (updated (erase chosen s) (clients same)
            (cond same (erase chosen s).side (emptied (erase chosen s).side id)))
        go true =
            updated_alike s (clients true) s.side (erase chosen s).side refl refl
            (λ j. shown-kept chosen s.clients s.side.stocks (clients true) j (kinds j))
        go false = emptied_alike (joining kind rate burst)

    pub change_alike : (kind rate burst : ℕ)
        → Alike chosen (on_change s id kind rate burst) (on_change (erase chosen s) id kind rate burst)
    unfolding on_change erase change_checks active_checks
    change_alike kind rate burst =
        checked_alike s (change_checks s id kind rate burst) (change_checks (erase chosen s) id kind rate burst)
        (updated s clients (side_after_change s id kind))
        (updated (erase chosen s) clients (side_after_change (erase chosen s) id kind))
        refl
        (changed_alike kind rate burst)
      where
        clients : ℕ → Client
        clients = put s.clients id (changed (s.clients id) kind rate burst)

    -- a load or an arrival of a client that is not hidden
    module _ (seen : hidden chosen id (s.clients id) ≡ false) where
      as_it_is : shown chosen s.clients s.side.stocks id ≡ s.side.stocks id
      as_it_is = shown_open chosen s.clients s.side.stocks id seen

      pub load_alike : (dummies : ℕ) → Alike chosen (on_load s id dummies) (on_load (erase chosen s) id dummies)
      unfolding on_load erase stocked load_checks active_checks
      load_alike dummies =
          checked_alike s (load_checks s id dummies) (load_checks (erase chosen s) id dummies)
          (updated s s.clients (stocked s.side id more))
          (updated (erase chosen s) s.clients
          (stocked (erase chosen s).side id (loaded ((erase chosen s).side.stocks id) dummies)))
          (rw as_it_is)
          (updated_alike s s.clients (stocked s.side id more)
          (stocked (erase chosen s).side id (loaded ((erase chosen s).side.stocks id) dummies)) refl refl
          (shown-put chosen s.clients s.side.stocks s.clients id more _ (λ j other. refl) (rw as_it_is)))
        where
          more : Stock
          more = loaded (s.side.stocks id) dummies

      pub arrive_alike : (p : Packet) → Alike chosen (on_arrive s id p) (on_arrive (erase chosen s) id p)
      unfolding on_arrive erase arrive_checks active_checks side_after_arrival order_after_arrival
      arrive_alike p =
          checked_alike s (arrive_checks s id p) (arrive_checks (erase chosen s) id p)
          (updated s clients (side_after_arrival s id p))
          (updated (erase chosen s) clients (side_after_arrival (erase chosen s) id p))
          (rw as_it_is)
          (updated_alike s clients (side_after_arrival s id p) (side_after_arrival (erase chosen s) id p) refl refl
          (stock_alike (charged (s.clients id)) (queued (s.side.stocks id) p) _ (rw as_it_is)))
        where
          clients : ℕ → Client
          clients = put s.clients id (charged (s.clients id))

    -- what is done to the stock of a hidden client is not seen
    unseen : hidden chosen id (s.clients id) ≡ true → (k : Stock)
        → erase chosen (updated s s.clients (record {
          generator = s.side.generator;
          order = s.side.order;
          stocks = put s.side.stocks id k;
        }))
        ≡ erase chosen s
    unfolding updated put shown
    unseen h k = erase_path chosen _ s refl refl refl refl refl (λ j. go j (eqb j id) refl)
      where
        go : (j : ℕ) (b : Bool)
            → eqb j id ≡ b
            → cond (hidden chosen j (s.clients j)) bare (cond b k (s.side.stocks j))
            ≡ cond (hidden chosen j (s.clients j)) bare (s.side.stocks j)
        go j true e = rw (eqb-true j id e, h)
        go j false e = refl

    -- a call for an id that is not active is refused
    inactive : (more : List Check) (done : Result) → is_active (s.clients id).kind ≡ false
        → (checked (active_checks s id more) (unchanged (running s)) done).core ≡ running s
    unfolding checked active_checks
    inactive more done e = go (ltb id ids)
      where
        go : (b : Bool)
            → (cond b (cond (is_active (s.clients id).kind) (checked more (unchanged (running s)) done) (refused 5 (running s)))
            (refused 4 (running s))).core
            ≡ running s
        go true = rw e
        go false = refl

    -- an arrive or load that is struck out names another id, which is not indifferent: it is private, or it is refused
    struck : eqb id chosen ≡ false → is_indifferent (s.clients id).kind ≡ false → (more : List Check) (t : State)
        → (hidden chosen id (s.clients id) ≡ true → erase chosen t ≡ erase chosen s)
        → erase_core chosen (checked (active_checks s id more) (unchanged (running s)) (accepted t)).core
        ≡ erase_core chosen (running s)
    unfolding erase_core hidden
    struck other apart more t same = go (s.clients id).kind refl
      where
        go : (k : Kind) → (s.clients id).kind ≡ k
            → erase_core chosen (checked (active_checks s id more) (unchanged (running s)) (accepted t)).core
            ≡ erase_core chosen (running s)
        go absent q = ap (erase_core chosen) (inactive more (accepted t) (ap is_active q))
        go indifferent q = true-false (ap is_indifferent q) apart
        go private q =
            checked-cases (λ r. erase_core chosen r.core ≡ erase_core chosen (running s)) (active_checks s id more)
            (unchanged (running s)) (accepted t)
            (λ n. refl)
            (λ passed. ap running (same (rw (q, other))))

    pub load_struck : eqb id chosen ≡ false → is_indifferent (s.clients id).kind ≡ false
        → (dummies : ℕ) → erase_core chosen (on_load s id dummies).core ≡ erase_core chosen (running s)
    unfolding on_load load_checks stocked
    load_struck other apart dummies = struck other apart _ _ (λ h. unseen h (loaded (s.side.stocks id) dummies))

    -- a private client has no bucket to charge
    uncharged : is_indifferent (s.clients id).kind ≡ false → put s.clients id (charged (s.clients id)) ≡ s.clients
    unfolding charged
    uncharged apart =
        ap (λ (level : ℕ). put s.clients id (with_level (s.clients id) level)) (rw apart) ∙ put_own s.clients id

    pub arrive_struck : eqb id chosen ≡ false → is_indifferent (s.clients id).kind ≡ false
        → (p : Packet) → erase_core chosen (on_arrive s id p).core ≡ erase_core chosen (running s)
    unfolding on_arrive arrive_checks side_after_arrival order_after_arrival
    arrive_struck other apart p =
        struck other apart _ _
        (λ h. rw (uncharged apart, apart) (unseen h (queued (s.side.stocks id) p)))
