-- An offering of an indifferent client: if a packet was refused with 14 since the last tick, its queue is full until the next,
-- and if one was with 15, the queue has room and the bucket less than a token. So it is one or the other, and where every
-- offering ended with 15 no 14 was met. By induction over the stretch. Assumes nothing.
use Prim.Native.Nat.{ℕ, ◌+◌, ◌≤◌, ◌<◌}
use mathlib.Core.Path.{◌≡◌, refl}
use mathlib.Core.Logic.{◌⊎◌, inl, inr, ⊎_elim}
use mathlib.Core.Bool.{Bool, true, false, cond, not, ◌&&◌, ◌||◌}
use native.Mathlib.Nat.{lt_irrefl, lt_of_lt_of_le}
use native.Mathlib.Omega.{arith}
use lib.Dec.{T, eqb, lit<}
use Rattle.definitions.specs.Event.{Event, Open, Join, Change, Leave, Load, Arrive, Tick}
use Rattle.definitions.specs.Sizes.{places, shares}
use Rattle.definitions.specs.Client.{is_indifferent}
use Rattle.definitions.specs.State.{Core}
use Rattle.definitions.specs.Answers.{number, is_accepted}
use Rattle.definitions.specs.Core.{step}
use Rattle.definitions.specs.History.{History, start, ◌then◌, after, answer_at, dealing_at, trace_of, client_of}
use Rattle.definitions.specs.Sameness.{is_arrival, is_tick}
use Rattle.definitions.specs.Stretch.{stretch, behind, one_if, resets, is_offer, undisturbed}
use Rattle.definitions.specs.Greedy.{is_refused, refused_ever, refused_since, refused_at_ticks}
use Rattle.definitions.proofs.Laws.Tests.{T_and, T-or, true-false}
use Rattle.definitions.proofs.Bound.{step-moved, calm_before, stretch-moved}
use Rattle.definitions.proofs.Stretches.Waiting.{waits, Told, step-told, step_waits}

-- a tick is no offer
tick_no_offer : (id : ℕ) (c : Event) → is_tick c ≡ true → is_offer id c ≡ false
unfolding is_tick is_offer is_arrival
tick_no_offer id (Open threshold discipline seed) e = refl
tick_no_offer id (Join other kind rate burst) e = refl
tick_no_offer id (Change other kind rate burst) e = refl
tick_no_offer id (Leave other) e = refl
tick_no_offer id (Load other dummies) e = refl
tick_no_offer id (Arrive other p) e = true-false e refl
tick_no_offer id Tick e = refl

-- a refusal that was met was met in the present offering, also with one answer more
met_on : (ever since now : Bool) → (ever ≡ false) ⊎ T since → ((ever || now) ≡ false) ⊎ T (since || now)
met_on ever true now w = inr tt
met_on ever false true w = inr tt
met_on ever false false (inl e) = inl (rw e)
met_on ever false false (inr t) = absurd t

-- a stretch without its last call
pub ended_before : (core : Core) (id n : ℕ) (h : History) (c : Event)
    → T (refused_at_ticks id n (stretch core (h then c)))
    → T (refused_at_ticks id n (stretch core h)) × T (not (is_tick c) || refused_since id n (stretch core h))
unfolding refused_at_ticks trace_of dealing_at
ended_before core id n h c = T_and (refused_at_ticks id n (stretch core h)) (not (is_tick c) || refused_since id n (stretch core h))

module _ (core : Core) (id : ℕ) (indifferently : T (is_indifferent (client_of core id).kind)) where
  -- what is so between the offers of a client, behind some calls
  pub record Offering (h : History) : Type 0 where
    -- until the next tick no packet leaves, and none is accepted without a token
    pub full : T (refused_since id 14 (stretch core h)) → places ≤ waits (behind core h) id
    pub drained : T (refused_since id 15 (stretch core h))
        → (waits (behind core h) id < places) × ((client_of (behind core h) id).level < shares)
    -- where every offering before it ended with 15, a 14 can only be of this one
    pub met : (refused_ever id 14 (stretch core h) ≡ false) ⊎ T (refused_since id 14 (stretch core h))

  pub offering_roomy : {h : History} → Offering h → T (refused_since id 15 (stretch core h))
      → refused_ever id 14 (stretch core h) ≡ false
  offering_roomy o ended =
      ⊎_elim (λ e. e) (λ since. absurd (lt_irrefl _ (lt_of_lt_of_le (o.drained ended).0 (o.full since)))) o.met

  module _ (h : History) (c : Event) where
    abbrev here : Core
    here = behind core h

    -- whether the call is an offer that is accepted
    abbrev takes : Bool
    takes = is_offer id c && is_accepted (step here c).answer

    -- what a call of the stretch that is no tick does to level and queue
    module _ (paid : cond takes shares 0 + ((client_of (step here c).core id).level + 0) ≡ (client_of here id).level + 0)
        (more : waits (step here c).core id ≡ one_if takes (waits here id)) where
      -- a full queue stays full
      full_on : places ≤ waits here id → places ≤ waits (step here c).core id
      full_on full = go takes more
        where
          go : (a : Bool) → waits (step here c).core id ≡ one_if a (waits here id) → places ≤ waits (step here c).core id
          go true e = omega arith
          go false e = omega arith

      -- without a token no packet is accepted, so none comes into the queue
      drained_on : (waits here id < places) × ((client_of here id).level < shares)
          → (waits (step here c).core id < places) × ((client_of (step here c).core id).level < shares)
      drained_on w = go takes more paid
        where
          go : (a : Bool) → waits (step here c).core id ≡ one_if a (waits here id)
              → cond a shares 0 + ((client_of (step here c).core id).level + 0) ≡ (client_of here id).level + 0
              → (waits (step here c).core id < places) × ((client_of (step here c).core id).level < shares)
          go true e l = (omega arith, omega arith)
          go false e l = (omega arith, omega arith)

      offering_on : Offering h
          → is_tick c ≡ false
          → ((n : ℕ) → 0 < n → T (is_offer id c && eqb (number (step here c).answer) n) → Told here id n)
          → Offering (h then c)
      unfolding refused_ever refused_since is_refused trace_of dealing_at answer_at after
      offering_on o still told = record {
        full = λ since. full_on (⊎_elim o.full (λ now. (told 14 (lit< tt) now).full refl) (since_cases 14 since));
        drained = λ since. drained_on (⊎_elim o.drained (λ now. (told 15 (lit< tt) now).drained refl) (since_cases 15 since));
        met = rw still (met_on (refused_ever id 14 (stretch core h)) (refused_since id 14 (stretch core h)) _ o.met);
      }
        where
          since_cases : (n : ℕ) → T (refused_since id n (stretch core (h then c)))
              → T (refused_since id n (stretch core h)) ⊎ T (is_offer id c && eqb (number (step here c).answer) n)
          since_cases n since =
              T-or (refused_since id n (stretch core h)) (is_offer id c && eqb (number (step here c).answer) n) (rw still at since)

    -- a tick begins the next offering
    offering-ticked : Offering h → is_tick c ≡ true → T (refused_since id 15 (stretch core h)) → Offering (h then c)
    unfolding refused_ever refused_since is_refused trace_of dealing_at answer_at after
    offering-ticked o ticked ended = record {
      full = λ since. absurd (rw ticked at since);
      drained = λ since. absurd (rw ticked at since);
      met = inl (rw (offering_roomy o ended, tick_no_offer id c ticked));
    }

  -- behind any calls of the stretch, if every tick so far came behind a 15
  pub offering : (calls : History)
      → T (undisturbed id (stretch core calls))
      → T (refused_at_ticks id 15 (stretch core calls))
      → Offering calls
  unfolding refused_ever refused_since trace_of
  offering start calm ended = record { full = λ since. absurd since; drained = λ since. absurd since; met = inl refl }
  offering (h then c) calm ended =
      let calms = calm_before core id h c calm in
      let ends = ended_before core id 15 h c ended in
      let kind = (stretch-moved core id indifferently h calms.0).kind in
      go (is_tick c) refl (offering h calms.0 ends.0) (rw kind indifferently) calms.1 ends.1
    where
      go : (b : Bool)
          → is_tick c ≡ b
          → Offering h
          → T (is_indifferent (client_of (behind core h) id).kind)
          → T (not (resets id c && is_accepted (step (behind core h) c).answer))
          → T (not b || refused_since id 15 (stretch core h))
          → Offering (h then c)
      go true e o kindly spared ended = offering-ticked h c o e ended
      go false e o kindly spared ended =
          let paid = rw e at (step-moved (behind core h) id c kindly spared).level in
          offering_on h c paid (step_waits (behind core h) id c kindly e spared)
          o e (λ n positive. step-told (behind core h) id c n kindly positive)
