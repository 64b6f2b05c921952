-- What a tenant sees behind a join or a switch. The bucket begins empty; while no packet is accepted a tick brings the rate, and
-- nothing waits; so of the checks of a packet only that for a token may fail, and the level says whether it does. The level is
-- that of Bound. Assumes nothing.
use Prim.Native.Nat.{ℕ, ◌*◌, ◌≤◌, ◌<◌, min}
use mathlib.Core.Path.{◌≡◌, refl, sym, ap, subst, ◌∙◌}
use mathlib.Core.Bool.{Bool, true, false, cond, not, ◌&&◌}
use mathlib.Core.List.{[], ◌∷◌}
use native.Mathlib.Nat.{mul-le-mul_right}
use native.Mathlib.Omega.{arith}
use lib.Dec.{T, leb, ltb, lit<}
use lib.ListN.{length}
use borrow.Author.Tests.{le-leb, lt-leb, lt-ltb}
use Rattle.definitions.specs.declared.Packet.{Packet}
use Rattle.definitions.specs.Event.{Event, Open, Join, Change, Leave, Load, Arrive, Tick}
use Rattle.definitions.specs.declared.Answer.TheVariants.{Accepted, Refused}
use Rattle.definitions.specs.Sizes.{ids, places, shares, shortest, longest, indifferent_kind}
use Rattle.definitions.specs.Client.{private, Client, kind_of, is_indifferent, joining, changed}
use Rattle.definitions.specs.Stock.{bare}
use Rattle.definitions.specs.State.{State, Core, unopened, running, updated, stocked, emptied}
use Rattle.definitions.specs.Answers.{is_accepted}
use Rattle.definitions.specs.Checks.{accepted, checked, check, within, unchanged, join_checks, change_checks, active_checks, arrive_checks}
use Rattle.definitions.specs.Calls.{on_join, side_after_change, on_change, on_arrive}
use Rattle.definitions.specs.Core.{step}
use Rattle.definitions.specs.History.{History, start, ◌then◌, after, answer_at, dealing_at, trace_of, client_of, stock_of, scheduler}
use Rattle.definitions.specs.Sameness.{is_tick}
use Rattle.definitions.specs.Limits.{CoreLimits, Limits}
use Rattle.definitions.specs.Stretch.{stretch, behind, one_if, ticks, resets, is_offer, undisturbed, acceptances}
use Rattle.definitions.specs.Bound.{spill}
use Rattle.definitions.specs.FirstPacket.{Begun, FirstPacket}
use Rattle.definitions.proofs.Laws.Tests.{lt_cases, T_true}
use Rattle.definitions.proofs.Laws.Kinds.{indifferent_kind_lem}
use Rattle.definitions.proofs.Laws.Checked.{refused_differs, checked-accepted}
use Rattle.definitions.proofs.Laws.Clients.{put_same}
use Rattle.definitions.proofs.Limits.{limits}
use Rattle.definitions.proofs.Limits.Client.{indifferent_limits}
use Rattle.definitions.proofs.Bound.{Moved, step-moved, calm_before, stretch-moved}
use Rattle.definitions.proofs.Stretches.Waiting.{waits, step_waits, tick_shrinks}
use Rattle.definitions.proofs.Stretches.Guarantee.{behind-limits}

join_begun : (core : Core) (id rate burst : ℕ)
    → (step core (Join id indifferent_kind rate burst)).answer ≡ Accepted
    → Begun (step core (Join id indifferent_kind rate burst)).core id rate burst
unfolding step on_join updated stocked client_of stock_of joining kind_of indifferent_kind
join_begun unopened id rate burst ok = absurd (refused_differs refl ok)
join_begun (running s) id rate burst ok =
    let done = checked-accepted (join_checks s id indifferent_kind rate burst) (unchanged (running s)) _ ok in
    record { client = rw done (put_same s.clients id _); stock = rw done (put_same s.side.stocks id bare) }

switch_begun : (core : Core) (id rate burst : ℕ)
    → (client_of core id).kind ≡ private
    → (step core (Change id indifferent_kind rate burst)).answer ≡ Accepted
    → Begun (step core (Change id indifferent_kind rate burst)).core id rate burst
unfolding step on_change updated side_after_change emptied client_of stock_of changed joining kind_of indifferent_kind
switch_begun unopened id rate burst secret ok = absurd (refused_differs refl ok)
switch_begun (running s) id rate burst secret ok =
    let done = checked-accepted (change_checks s id indifferent_kind rate burst) (unchanged (running s)) _ ok in
    record {
      client = rw done (put_same s.clients id _ ∙ rw secret);
      stock = rw (done, secret) (put_same s.side.stocks id bare);
    }

-- one call more behind calls in which no packet was accepted: a tick fills the bucket, another call leaves it as it was
filled_on : (ticked : Bool) (n rate burst : ℕ) {c d : Client}
    → c.rate ≡ rate
    → c.burst ≡ burst
    → c.level ≡ min (n * rate) (burst * shares)
    → Moved 0 (cond ticked c.rate 0) (cond ticked (spill c) 0) c d
    → d.level ≡ min (one_if ticked n * rate) (burst * shares)
unfolding spill
filled_on true n rate burst {c = c} {d = d} r b e m = omega (arith, e, r, m.level, ap (λ (k : ℕ). k * shares) b)
filled_on false n rate burst {c = c} {d = d} r b e m = omega (arith, e, m.level)

-- of a client that nothing waits of, nothing waits behind a call that does not reset it and by which no packet of it is accepted
step-none : (core : Core) (id : ℕ) (c : Event)
    → T (is_indifferent (client_of core id).kind)
    → T (not (resets id c && is_accepted (step core c).answer))
    → (is_offer id c && is_accepted (step core c).answer) ≡ false
    → waits core id ≡ 0
    → waits (step core c).core id ≡ 0
unfolding is_tick
step-none core id Tick indifferently spared none empty = omega (arith, tick_shrinks core id)
step-none core id (Open threshold discipline seed) indifferently spared none empty =
    step_waits core id (Open threshold discipline seed) indifferently refl spared ∙ rw none empty
step-none core id (Join other kind rate burst) indifferently spared none empty =
    step_waits core id (Join other kind rate burst) indifferently refl spared ∙ rw none empty
step-none core id (Change other kind rate burst) indifferently spared none empty =
    step_waits core id (Change other kind rate burst) indifferently refl spared ∙ rw none empty
step-none core id (Leave other) indifferently spared none empty =
    step_waits core id (Leave other) indifferently refl spared ∙ rw none empty
step-none core id (Load other dummies) indifferently spared none empty =
    step_waits core id (Load other dummies) indifferently refl spared ∙ rw none empty
step-none core id (Arrive other p) indifferently spared none empty =
    step_waits core id (Arrive other p) indifferently refl spared ∙ rw none empty

module _ (core : Core) (id rate burst : ℕ) (begun : Begun core id rate burst) where
  indifferently : T (is_indifferent (client_of core id).kind)
  indifferently = rw begun.client tt

  -- that no packet was accepted up to a call, nor with it
  none_before : (h : History) (c : Event)
      → acceptances id (stretch core (h then c)) ≡ 0
      → (acceptances id (stretch core h) ≡ 0) × ((is_offer id c && is_accepted (step (behind core h) c).answer) ≡ false)
  unfolding acceptances trace_of dealing_at answer_at
  none_before h c = go (is_offer id c && is_accepted (step (behind core h) c).answer)
    where
      go : (b : Bool)
          → one_if b (acceptances id (stretch core h)) ≡ 0
          → (acceptances id (stretch core h) ≡ 0) × (b ≡ false)
      go true e = let no : ⊥ = omega arith in absurd no
      go false e = (e, refl)

  -- the client behind some calls is as it was, but for its level
  still : (h : History) → T (undisturbed id (stretch core h)) → T (is_indifferent (client_of (behind core h) id).kind)
  still h calm = rw (stretch-moved core id indifferently h calm).kind indifferently

  unwaiting : (calls : History)
      → T (undisturbed id (stretch core calls))
      → acceptances id (stretch core calls) ≡ 0
      → waits (behind core calls) id ≡ 0
  unfolding after waits
  unwaiting start calm none = rw begun.stock
  unwaiting (h then c) calm none =
      let calms = calm_before core id h c calm in
      let nones = none_before h c none in
      step-none (behind core h) id c (still h calms.0) calms.1 nones.1 (unwaiting h calms.0 nones.0)

  filling : (calls : History)
      → T (undisturbed id (stretch core calls))
      → acceptances id (stretch core calls) ≡ 0
      → (client_of (behind core calls) id).level ≡ min (ticks (stretch core calls) * rate) (burst * shares)
  unfolding ticks trace_of dealing_at answer_at after
  filling start calm none = omega (arith, ap (λ c. c.level) begun.client)
  filling (h then c) calm none =
      let calms = calm_before core id h c calm in
      let nones = none_before h c none in
      let moved = stretch-moved core id indifferently h calms.0 in
      filled_on (is_tick c) (ticks (stretch core h)) rate burst
      (moved.rate ∙ ap (λ k. k.rate) begun.client)
      (moved.burst ∙ ap (λ k. k.burst) begun.client)
      (filling h calms.0 nones.0)
      (subst (λ (b : Bool). Moved (cond b shares 0) (cond (is_tick c) (client_of (behind core h) id).rate 0)
      (cond (is_tick c) (spill (client_of (behind core h) id)) 0) (client_of (behind core h) id)
      (client_of (step (behind core h) c).core id))
      nones.1 (step-moved (behind core h) id c (still h calms.0) calms.1))

places_positive : 0 < places
unfolding places
places_positive = lit< tt

last_check : (passed : Bool) (left : ℕ → Core) (made : State)
    → (checked (check 15 passed ∷ []) left (accepted made)).answer ≡ cond passed Accepted (Refused 15)
unfolding checked
last_check true left made = refl
last_check false left made = refl

-- with nothing waiting, a packet of the right length gets what the level says
arrive_answer : (core : Core) (id : ℕ) (p : Packet)
    → CoreLimits core
    → T (is_indifferent (client_of core id).kind)
    → waits core id ≡ 0
    → within shortest longest p.length ≡ true
    → (step core (Arrive id p)).answer ≡ cond (leb shares (client_of core id).level) Accepted (Refused 15)
unfolding step client_of stock_of waits on_arrive checked arrive_checks active_checks
arrive_answer unopened id p known own empty fits = absurd own
arrive_answer (running s) id p known own empty fits =
    rw (named, indifferent_kind_lem (s.clients id).kind (T_true own), fits, room)
    (last_check (leb shares (s.clients id).level) (unchanged (running s)) _)
  where
    named : ltb id ids ≡ true
    named =
        lt_cases id ids (λ below. lt-ltb id ids below)
        (λ above. absurd (rw (known.ids_high id above) at own))

    room : ltb (length (s.side.stocks id).queue) places ≡ true
    room = rw empty (lt-ltb 0 places places_positive)

-- a bucket of one token's room or more has a token as soon as the ticks have brought one
token_there : (level n rate burst : ℕ)
    → level ≡ min (n * rate) (burst * shares)
    → 1 ≤ burst
    → leb shares level ≡ leb shares (n * rate)
token_there level n rate burst e room =
    let one = mul-le-mul_right shares room in
    lt_cases (n * rate) shares
    (λ low. lt-leb shares level (omega (arith, e)) ∙ sym (lt-leb shares (n * rate) low))
    (λ high. le-leb shares level (omega (arith, e, one)) ∙ sym (le-leb shares (n * rate) high))

pub first_packet : FirstPacket
unfolding Limits
first_packet = record {
  join = join_begun;
  switch = switch_begun;
  filling = λ core id rate burst calls begun. filling core id rate burst begun calls;
  first = λ h id rate burst calls p begun calm none fits.
      let core = after scheduler h in
      let level = filling core id rate burst begun calls calm none in
      let room : 1 ≤ burst =
      subst (λ (b : ℕ). 1 ≤ b) (ap (λ c. c.burst) begun.client)
      (indifferent_limits core id (limits h) (indifferently core id rate burst begun)).burst_low in
      arrive_answer (behind core calls) id p (behind-limits core (limits h) calls) (still core id rate burst begun calls calm)
      (unwaiting core id rate burst begun calls calm none) fits
      ∙ ap (λ (b : Bool). cond b Accepted (Refused 15)) (token_there _ (ticks (stretch core calls)) rate burst level room);
}
