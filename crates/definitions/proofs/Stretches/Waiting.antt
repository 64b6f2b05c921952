-- What a refused packet tells of its client, and how many packets of a client wait behind a call: behind a tick no more than
-- before. By cases over the calls. Assumes nothing.
use Prim.Native.Nat.{ℕ, ◌≤◌, ◌<◌}
use mathlib.Core.Path.{◌≡◌, refl, sym, subst}
use mathlib.Core.Logic.{inl, inr}
use mathlib.Core.Bool.{Bool, true, false, not, ◌&&◌, ◌||◌}
use mathlib.Core.List.{List, [], ◌∷◌, tail}
use native.Mathlib.Omega.{arith}
use lib.Dec.{T, eqb, leb}
use lib.ListN.{length, length-append}
use borrow.Author.Tests.{eqb-true, eqb-false, ne_eqb, leb-false, ltb-true, ltb-false}
use Rattle.definitions.specs.declared.Packet.{Packet}
use Rattle.definitions.specs.Event.{Event, Open, Join, Change, Leave, Load, Arrive, Tick}
use Rattle.definitions.specs.Sizes.{places, shares}
use Rattle.definitions.specs.Client.{same_kind, kind_of, is_indifferent}
use Rattle.definitions.specs.Stock.{Stock, bare, loaded, queued, spent}
use Rattle.definitions.specs.State.{Side, State, Core, unopened, running, fresh, updated, put, stocked, emptied}
use Rattle.definitions.specs.Answers.{number, is_accepted}
use Rattle.definitions.specs.Checks.{Check, accepted, checked, unchanged, open_checks, active_checks, join_checks, change_checks, leave_checks, load_checks, arrive_checks}
use Rattle.definitions.specs.Calls.{on_open, on_join, side_after_change, on_change, on_leave, on_load, side_after_arrival, on_arrive}
use Rattle.definitions.specs.Tick.{turn, side_after, slotted, on_tick}
use Rattle.definitions.specs.Core.{step}
use Rattle.definitions.specs.History.{client_of, stock_of}
use Rattle.definitions.specs.Sameness.{names, is_setting, is_arrival, is_tick}
use Rattle.definitions.specs.Stretch.{one_if, is_open, resets, is_offer}
use Rattle.definitions.proofs.Laws.Tests.{T_true, T_and, true-false, cond_both, eqb_same}
use Rattle.definitions.proofs.Laws.Checked.{Passed, FailsFirst, checked_first, checked_spared}
use Rattle.definitions.proofs.Laws.Clients.{put_other, put-cases, put_keeps, stocks_after-cases}

-- how many packets of a client wait
unfoldable pub waits : Core → ℕ → ℕ
waits core id = length (stock_of core id).queue

-- what the number of a refused packet tells of its client, at the core that refused it
pub record Told (core : Core) (id n : ℕ) : Type 0 where
  pub full : n ≡ 14 → places ≤ waits core id
  pub drained : n ≡ 15 → (waits core id < places) × ((client_of core id).level < shares)

module _ (s : State) (id : ℕ) (p : Packet) (indifferently : T (is_indifferent (s.clients id).kind)) where
  below_token : (b : Bool) → T b → (not b || leb shares (s.clients id).level) ≡ false → (s.clients id).level < shares
  below_token true t f = leb-false shares (s.clients id).level f
  below_token false t f = absurd t

  failed_told : (n : ℕ) → FailsFirst n (arrive_checks s id p) → Told (running s) id n
  unfolding arrive_checks active_checks waits client_of stock_of
  failed_told n (inl w) = record { full = λ e. omega (arith, w.1); drained = λ e. omega (arith, w.1) }
  failed_told n (inr (_, inl w)) = record { full = λ e. omega (arith, w.1); drained = λ e. omega (arith, w.1) }
  failed_told n (inr (_, inr (_, inl w))) = record { full = λ e. omega (arith, w.1); drained = λ e. omega (arith, w.1) }
  failed_told n (inr (_, inr (_, inr (_, inl w)))) =
      record { full = λ e. ltb-false _ _ w.0; drained = λ e. omega (arith, w.1) }
  failed_told n (inr (_, inr (_, inr (_, inr (room, inl w))))) = record {
    full = λ e. omega (arith, w.1);
    drained = λ e. (ltb-true _ _ room, below_token (is_indifferent (s.clients id).kind) indifferently w.0);
  }
  failed_told n (inr (_, inr (_, inr (_, inr (_, inr (_, w)))))) = absurd w

pub step-told : (core : Core) (id : ℕ) (c : Event) (n : ℕ)
    → T (is_indifferent (client_of core id).kind)
    → 0 < n
    → T (is_offer id c && eqb (number (step core c).answer) n)
    → Told core id n
unfolding step client_of is_offer is_arrival names on_arrive
step-told unopened id c n indifferently positive refused = absurd indifferently
step-told (running s) id (Open threshold discipline seed) n indifferently positive refused = absurd refused
step-told (running s) id (Join other kind rate burst) n indifferently positive refused = absurd refused
step-told (running s) id (Change other kind rate burst) n indifferently positive refused = absurd refused
step-told (running s) id (Leave other) n indifferently positive refused = absurd refused
step-told (running s) id (Load other dummies) n indifferently positive refused = absurd refused
step-told (running s) id (Arrive other p) n indifferently positive refused =
    let both = T_and (eqb other id) (eqb (number (on_arrive s other p).answer) n) refused in
    let own = eqb-true other id (T_true both.0) in
    let failed = checked_first n (arrive_checks s other p) (unchanged (running s)) _ positive (eqb-true _ n (T_true both.1)) in
    failed_told s id p indifferently n (subst (λ (i : ℕ). FailsFirst n (arrive_checks s i p)) own failed)
step-told (running s) id Tick n indifferently positive refused = absurd refused

module _ (s : State) (id : ℕ) where
  -- A call that passes its checks or keeps the core: as many packets wait as the accepted call leaves, or as many as before.
  checked_waits : (reset arrival : Bool) (cs : List Check) (made : State)
      → (Passed cs → reset ≡ false → length (made.side.stocks id).queue ≡ one_if arrival (length (s.side.stocks id).queue))
      → T (not (reset && is_accepted (checked cs (unchanged (running s)) (accepted made)).answer))
      → waits (checked cs (unchanged (running s)) (accepted made)).core id
      ≡ one_if (arrival && is_accepted (checked cs (unchanged (running s)) (accepted made)).answer) (waits (running s) id)
  unfolding waits stock_of
  checked_waits reset arrival cs made =
      checked_spared (λ a core. waits core id ≡ one_if a (waits (running s) id)) s reset arrival cs made refl

  -- a call that puts another stock in place, or one with the same queue
  other_waits : (other : ℕ) (k : Stock) → eqb other id ≡ false
      → length (put s.side.stocks other k id).queue ≡ length (s.side.stocks id).queue
  other_waits other k e = rw (put_other s.side.stocks other k id (λ q. eqb-false other id e (sym q)))

  change_waits : (other kind : ℕ) → eqb other id ≡ false
      → length ((side_after_change s other kind).stocks id).queue ≡ length (s.side.stocks id).queue
  unfolding side_after_change emptied
  change_waits other kind e =
      cond_both (λ (side : Side). length (side.stocks id).queue ≡ length (s.side.stocks id).queue)
      (same_kind (s.clients other).kind (kind_of kind)) refl (other_waits other bare e)

  pub load_waits : (other dummies : ℕ)
      → length (put s.side.stocks other (loaded (s.side.stocks other) dummies) id).queue
      ≡ length (s.side.stocks id).queue
  unfolding loaded
  load_waits other dummies = put_keeps s.side.stocks other _ (λ k. length k.queue) refl id

  pub arrive_waits : (other : ℕ) (p : Packet)
      → length (put s.side.stocks other (queued (s.side.stocks other) p) id).queue
      ≡ one_if (eqb other id) (length (s.side.stocks id).queue)
  unfolding queued
  arrive_waits other p =
      put-cases s.side.stocks other (queued (s.side.stocks other) p)
      (λ j k. length k.queue ≡ one_if (eqb other j) (length (s.side.stocks j).queue))
      (rw (eqb_same other) (simp length-append (omega arith)))
      (λ j ne. rw (ne_eqb other j (λ q. ne (sym q))))
      id

-- how many packets of a client wait after a call that is no tick and does not reset it
pub step_waits : (core : Core) (id : ℕ) (c : Event)
    → T (is_indifferent (client_of core id).kind)
    → is_tick c ≡ false
    → T (not (resets id c && is_accepted (step core c).answer))
    → waits (step core c).core id ≡ one_if (is_offer id c && is_accepted (step core c).answer) (waits core id)
unfolding step client_of updated stocked emptied side_after_arrival resets is_offer is_open is_setting is_arrival is_tick names
    on_open on_join on_change on_leave on_load on_arrive
step_waits unopened id c indifferently still spared = absurd indifferently
step_waits (running s) id (Open threshold discipline seed) indifferently still spared =
    checked_waits s id true false (open_checks threshold discipline seed) (fresh threshold discipline seed)
    (λ passed kept. true-false refl kept)
    spared
step_waits (running s) id (Join other kind rate burst) indifferently still spared =
    checked_waits s id (eqb other id) false (join_checks s other kind rate burst) _ (λ passed. other_waits s id other bare) spared
step_waits (running s) id (Change other kind rate burst) indifferently still spared =
    checked_waits s id (eqb other id) false (change_checks s other kind rate burst) _ (λ passed. change_waits s id other kind)
    spared
step_waits (running s) id (Leave other) indifferently still spared =
    checked_waits s id (eqb other id) false (leave_checks s other) _ (λ passed. other_waits s id other bare) spared
step_waits (running s) id (Load other dummies) indifferently still spared =
    checked_waits s id false false (load_checks s other dummies) _ (λ passed kept. load_waits s id other dummies) spared
step_waits (running s) id (Arrive other p) indifferently still spared =
    checked_waits s id false (eqb other id) (arrive_checks s other p) _ (λ passed kept. arrive_waits s id other p) spared
step_waits (running s) id Tick indifferently still spared = true-false refl still

-- a slot adds nothing to what waits of a client
slot_waits : (s : State) (id : ℕ) → waits (on_tick s).core id ≤ waits (running s) id
unfolding waits stock_of on_tick slotted updated side_after spent
slot_waits s id =
    stocks_after-cases (λ j k. length k.queue ≤ length (s.side.stocks j).queue) (turn s).rule (turn s).id
    s.side.stocks (λ j. omega arith) (shorter (s.side.stocks (turn s).id).queue) id
  where
    shorter : (queue : List Packet) → length (tail queue) ≤ length queue
    shorter [] = omega arith
    shorter (p ∷ ps) = omega arith

pub tick_shrinks : (core : Core) (id : ℕ) → waits (step core Tick).core id ≤ waits core id
unfolding step
tick_shrinks unopened id = omega arith
tick_shrinks (running s) id = slot_waits s id
