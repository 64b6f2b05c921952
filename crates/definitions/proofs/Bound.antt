-- The level after a stretch, and so the bucket's bound. By induction over the stretch: an accepted arrival takes its cost, a tick
-- brings the rate, of which the bucket keeps what it has room for, and no other call moves either. Assumes nothing.
use Prim.Native.Nat.{ℕ, ◌+◌, ◌-◌, ◌*◌, ◌<◌, min}
use mathlib.Core.Path.{◌≡◌, refl, sym, ◌∙◌}
use mathlib.Core.Bool.{Bool, true, false, cond, not, ◌&&◌, ◌||◌, true≢false}
use mathlib.Core.List.{List}
use native.Mathlib.Nat.{le-div_iff_mul-le}
use native.Mathlib.Omega.{arith}
use lib.Dec.{T, eqb, leb, lit<}
use borrow.Author.Tests.{eqb-false, eq-eqb, ne_eqb, leb-true}
use Rattle.definitions.specs.declared.Packet.{Packet}
use Rattle.definitions.specs.Event.{Event, Open, Join, Change, Leave, Load, Arrive, Tick}
use Rattle.definitions.specs.Sizes.{shares}
use Rattle.definitions.specs.Client.{Client, is_indifferent, nobody, joining, changed, charged, refilled}
use Rattle.definitions.specs.Stock.{bare, loaded}
use Rattle.definitions.specs.State.{State, Core, unopened, running, fresh, updated, put, stocked, emptied}
use Rattle.definitions.specs.Answers.{is_accepted}
use Rattle.definitions.specs.Checks.{Check, accepted, checked, unchanged, open_checks, active_checks, join_checks, change_checks, leave_checks, load_checks, arrive_checks}
use Rattle.definitions.specs.Calls.{on_open, on_join, side_after_change, on_change, on_leave, on_load, side_after_arrival, on_arrive}
use Rattle.definitions.specs.Tick.{on_tick}
use Rattle.definitions.specs.Core.{step}
use Rattle.definitions.specs.History.{History, start, ◌then◌, after, answer_at, dealing_at, trace_of, client_of}
use Rattle.definitions.specs.Sameness.{names, is_setting, is_arrival, is_tick}
use Rattle.definitions.specs.Stretch.{stretch, behind, one_if, is_open, ticks, resets, is_offer, undisturbed, acceptances, tokens}
use Rattle.definitions.specs.Bound.{spill, spilt, LevelAfter, Bound}
use Rattle.definitions.proofs.Laws.Tests.{T_and}
use Rattle.definitions.proofs.Laws.Checked.{Passed, checked_spared}
use Rattle.definitions.proofs.Laws.Clients.{put_other, put-cases}
use Rattle.definitions.proofs.Facts.{tick_client}

-- a client d after a client c, on the same terms: what was taken, what is left and what was spilt is what it had and was given
pub record Moved (taken given over : ℕ) (c d : Client) : Type 0 where
  pub kind : d.kind ≡ c.kind
  pub rate : d.rate ≡ c.rate
  pub burst : d.burst ≡ c.burst
  pub level : taken + (d.level + over) ≡ c.level + given

unmoved : (c : Client) → Moved 0 0 0 c c
unmoved c = record { kind = refl; rate = refl; burst = refl; level = omega arith }

-- behind n packets that were accepted and k ticks, one call more
moved_on : (taken ticked : Bool) (n k : ℕ) {over more : ℕ} {c d e : Client}
    → Moved (n * shares) (k * c.rate) over c d
    → Moved (cond taken shares 0) (cond ticked d.rate 0) more d e
    → Moved (one_if taken n * shares) (one_if ticked k * c.rate) (over + more) c e
moved_on taken ticked n k {over} {more} {c} {d} {e} m next = record {
  kind = next.kind ∙ m.kind;
  rate = next.rate ∙ m.rate;
  burst = next.burst ∙ m.burst;
  level = go taken ticked next.level;
}
  where
    go : (a t : Bool)
        → cond a shares 0 + (e.level + more) ≡ d.level + cond t d.rate 0
        → one_if a n * shares + (e.level + (over + more)) ≡ c.level + one_if t k * c.rate
    go true true q = omega (arith, m.level, m.rate)
    go true false q = omega (arith, m.level)
    go false true q = omega (arith, m.level, m.rate)
    go false false q = omega (arith, m.level)

charged-moved : (c : Client)
    → T (is_indifferent c.kind)
    → (not (is_indifferent c.kind) || leb shares c.level) ≡ true
    → Moved shares 0 0 c (charged c)
unfolding charged
charged-moved c indifferently covered = record {
  kind = refl;
  rate = refl;
  burst = refl;
  level = go (is_indifferent c.kind) indifferently covered;
}
  where
    go : (b : Bool)
        → T b
        → (not b || leb shares c.level) ≡ true
        → shares + (cond b (c.level - shares) c.level + 0) ≡ c.level + 0
    go true t e = omega (arith, leb-true shares c.level e)
    go false t e = absurd t

-- a refill adds the rate, but for what it spills
refilled-moved : (c : Client) → T (is_indifferent c.kind) → Moved 0 c.rate (spill c) c (refilled c)
unfolding refilled spill
refilled-moved c indifferently = record {
  kind = refl;
  rate = refl;
  burst = refl;
  level = go (is_indifferent c.kind) indifferently;
}
  where
    go : (b : Bool)
        → T b
        → 0 + (cond b (min (c.level + c.rate) (c.burst * shares)) c.level + (c.level + c.rate - c.burst * shares))
        ≡ c.level + c.rate
    go true t = omega arith
    go false t = absurd t

module _ (s : State) (id : ℕ) where
  -- A call that passes its checks or keeps the core: the client moves as the accepted call moves it, or not at all.
  checked-moved : (reset arrival : Bool) (cs : List Check) (made : State)
      → (Passed cs → reset ≡ false → Moved (cond arrival shares 0) 0 0 (s.clients id) (made.clients id))
      → T (not (reset && is_accepted (checked cs (unchanged (running s)) (accepted made)).answer))
      → Moved (cond (arrival && is_accepted (checked cs (unchanged (running s)) (accepted made)).answer) shares 0) 0 0
      (s.clients id)
      (client_of (checked cs (unchanged (running s)) (accepted made)).core id)
  unfolding client_of
  checked-moved reset arrival cs made =
      checked_spared (λ a core. Moved (cond a shares 0) 0 0 (s.clients id) (client_of core id)) s reset arrival cs made
      (unmoved (s.clients id))

  -- a call that puts another client in place
  other_moved : (other : ℕ) (d : Client) → eqb other id ≡ false → Moved 0 0 0 (s.clients id) (put s.clients other d id)
  other_moved other d e =
      let own : put s.clients other d id ≡ s.clients id =
      put_other s.clients other d id (λ q. eqb-false other id e (sym q)) in
      rw own (unmoved (s.clients id))

  arrive_moved : (other : ℕ) (p : Packet)
      → T (is_indifferent (s.clients id).kind)
      → Passed (arrive_checks s other p)
      → Moved (cond (eqb other id) shares 0) 0 0 (s.clients id) (put s.clients other (charged (s.clients other)) id)
  unfolding arrive_checks active_checks
  arrive_moved other p indifferently passed =
      put-cases s.clients other (charged (s.clients other))
      (λ j d. T (is_indifferent (s.clients j).kind) → Moved (cond (eqb other j) shares 0) 0 0 (s.clients j) d)
      (λ t. rw (eq-eqb other other refl) (charged-moved (s.clients other) t passed.1.1.1.1.0))
      (λ j ne t. rw (ne_eqb other j (λ q. ne (sym q))) (unmoved (s.clients j)))
      id
      indifferently

  tick_moved : T (is_indifferent (s.clients id).kind)
      → Moved 0 (s.clients id).rate (spill (s.clients id)) (s.clients id) (client_of (on_tick s).core id)
  tick_moved indifferently = rw (tick_client s id) (refilled-moved (s.clients id) indifferently)

-- what each call does to an indifferent client that it does not reset
pub step-moved : (core : Core) (id : ℕ) (c : Event)
    → T (is_indifferent (client_of core id).kind)
    → T (not (resets id c && is_accepted (step core c).answer))
    → Moved (cond (is_offer id c && is_accepted (step core c).answer) shares 0) (cond (is_tick c) (client_of core id).rate 0)
    (cond (is_tick c) (spill (client_of core id)) 0)
    (client_of core id)
    (client_of (step core c).core id)
unfolding step client_of updated resets is_offer is_open is_setting is_arrival is_tick names
    on_open on_join on_change on_leave on_load on_arrive on_tick
step-moved unopened id c indifferently spared = absurd indifferently
step-moved (running s) id (Open threshold discipline seed) indifferently spared =
    checked-moved s id true false (open_checks threshold discipline seed) (fresh threshold discipline seed)
    (λ passed kept. absurd (true≢false kept))
    spared
step-moved (running s) id (Join other kind rate burst) indifferently spared =
    checked-moved s id (eqb other id) false (join_checks s other kind rate burst)
    (updated s (put s.clients other (joining kind rate burst)) (stocked s.side other bare))
    (λ passed. other_moved s id other (joining kind rate burst))
    spared
step-moved (running s) id (Change other kind rate burst) indifferently spared =
    checked-moved s id (eqb other id) false (change_checks s other kind rate burst)
    (updated s (put s.clients other (changed (s.clients other) kind rate burst)) (side_after_change s other kind))
    (λ passed. other_moved s id other (changed (s.clients other) kind rate burst))
    spared
step-moved (running s) id (Leave other) indifferently spared =
    checked-moved s id (eqb other id) false (leave_checks s other)
    (updated s (put s.clients other nobody) (emptied s.side other))
    (λ passed. other_moved s id other nobody)
    spared
step-moved (running s) id (Load other dummies) indifferently spared =
    checked-moved s id false false (load_checks s other dummies)
    (updated s s.clients (stocked s.side other (loaded (s.side.stocks other) dummies)))
    (λ passed kept. unmoved (s.clients id))
    spared
step-moved (running s) id (Arrive other p) indifferently spared =
    checked-moved s id false (eqb other id) (arrive_checks s other p)
    (updated s (put s.clients other (charged (s.clients other))) (side_after_arrival s other p))
    (λ passed kept. arrive_moved s id other p indifferently passed)
    spared
step-moved (running s) id Tick indifferently spared = tick_moved s id indifferently

-- a stretch without its last call
pub calm_before : (core : Core) (id : ℕ) (h : History) (c : Event)
    → T (undisturbed id (stretch core (h then c)))
    → T (undisturbed id (stretch core h)) × T (not (resets id c && is_accepted (step (behind core h) c).answer))
unfolding undisturbed trace_of dealing_at answer_at
calm_before core id h c =
    T_and (undisturbed id (stretch core h)) (not (resets id c && is_accepted (step (behind core h) c).answer))

-- so a stretch moves the client by what was accepted, what the ticks brought and what they spilt
module _ (core : Core) (id : ℕ) (indifferently : T (is_indifferent (client_of core id).kind)) where
  pub stretch-moved : (calls : History)
      → T (undisturbed id (stretch core calls))
      → Moved (acceptances id (stretch core calls) * shares) (ticks (stretch core calls) * (client_of core id).rate)
      (spilt id core calls)
      (client_of core id)
      (client_of (behind core calls) id)
  unfolding acceptances ticks spilt trace_of dealing_at answer_at after
  stretch-moved start calm = record { kind = refl; rate = refl; burst = refl; level = omega arith }
  stretch-moved (h then c) calm =
      let calms = calm_before core id h c calm in
      let moved = stretch-moved h calms.0 in
      let still : T (is_indifferent (client_of (behind core h) id).kind) = rw moved.kind indifferently in
      moved_on (is_offer id c && is_accepted (step (behind core h) c).answer) (is_tick c)
      (acceptances id (stretch core h)) (ticks (stretch core h)) moved (step-moved (behind core h) id c still calms.1)

pub level-after : LevelAfter
unfolding LevelAfter
level-after core id calls indifferently calm = (stretch-moved core id indifferently calls calm).level

pub shares_positive : 0 < shares
unfolding shares
shares_positive = lit< tt

pub bound : Bound
unfolding Bound tokens LevelAfter
bound core id calls indifferently calm =
    (le-div_iff_mul-le shares_positive).1 (omega (arith, level-after core id calls indifferently calm))
