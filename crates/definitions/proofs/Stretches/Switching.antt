-- A client that switches gains nothing. What one call does: it takes a packet's cost, brings a rate, or lowers what is in the
-- bucket, since a join or a change of type begins with an empty one. So, by induction over the calls, the packets of each spell
-- are paid for by what came in during it. Assumes nothing.
use Prim.Native.Nat.{ℕ, ◌+◌, ◌-◌, ◌*◌, ◌/◌, ◌≤◌, min, max}
use mathlib.Core.Path.{◌≡◌, refl, sym, ap, ◌∙◌}
use mathlib.Core.Bool.{Bool, true, false, cond, not, ◌&&◌, ◌||◌}
use mathlib.Core.List.{List}
use native.Mathlib.Nat.{le-div_iff_mul-le, div-mul-le_self, mul-le-mul_left, mul-le-mul}
use native.Mathlib.Omega.{arith}
use lib.Dec.{T, eqb, leb}
use borrow.Author.Tests.{eq-eqb, ne_eqb, leb-true}
use Rattle.definitions.specs.declared.Packet.{Packet}
use Rattle.definitions.specs.Event.{Event, Open, Join, Change, Leave, Load, Arrive, Tick}
use Rattle.definitions.specs.Sizes.{shares}
use Rattle.definitions.specs.Client.{Client, is_indifferent, kind_of, same_kind, nobody, joining, retuned, changed, charged, refilled}
use Rattle.definitions.specs.Stock.{bare, loaded}
use Rattle.definitions.specs.State.{State, Core, unopened, running, fresh, updated, put, stocked, emptied}
use Rattle.definitions.specs.Answers.{is_accepted}
use Rattle.definitions.specs.Checks.{Check, accepted, checked, unchanged, open_checks, active_checks, join_checks, change_checks, leave_checks, load_checks, arrive_checks}
use Rattle.definitions.specs.Calls.{on_open, on_join, side_after_change, on_change, on_leave, on_load, side_after_arrival, on_arrive}
use Rattle.definitions.specs.Core.{step}
use Rattle.definitions.specs.History.{History, start, ◌then◌, Trace, begin, ◌and◌, after, answer_at, dealing_at, trace_of, client_of, scheduler}
use Rattle.definitions.specs.Sameness.{names, is_arrival, is_tick}
use Rattle.definitions.specs.Stretch.{stretch, behind, one_if, ticks, is_offer, undisturbed, acceptances, tokens, bought}
use Rattle.definitions.specs.Switching.{rate_by, bucket_of, indifferent_in, rate_in, is_refill, refills, top_rate, admissions, income, credit, closed, affordable, BySpells, ByTicks, Unswitched, Switching}
use Rattle.definitions.proofs.Laws.Tests.{T_true, cond_same}
use Rattle.definitions.proofs.Laws.Checked.{Passed, checked-cases, checked_spared}
use Rattle.definitions.proofs.Laws.Clients.{put-cases}
use Rattle.definitions.proofs.Facts.{tick_client}
use Rattle.definitions.proofs.Readings.{Reading, told}
use Rattle.definitions.proofs.Sameness.Kinds.{holds_indifferent, indifferent_since_lem}
use Rattle.definitions.proofs.Bound.{calm_before, stretch-moved, shares_positive}
use Rattle.definitions.proofs.Stretches.Greedy.{greedy_exact}

-- A client d after a client c: a packet, if one was accepted and c was indifferent, and what is left in the bucket are paid for
-- by what was there and what the call brought.
unfoldable Paid : (taken ticked : Bool) (c d : Client) → Type 0
Paid taken ticked c d =
    cond (is_indifferent c.kind && taken) shares 0 + bucket_of d
    ≤ bucket_of c + cond (is_indifferent c.kind && ticked) c.rate 0

-- where neither a packet was accepted nor a tick made, the bucket has no more than before
lowered : (c d : Client) → bucket_of d ≤ bucket_of c → Paid false false c d
unfolding Paid
lowered c d low = go (is_indifferent c.kind)
  where
    go : (b : Bool) → cond (b && false) shares 0 + bucket_of d ≤ bucket_of c + cond (b && false) c.rate 0
    go true = omega (arith, low)
    go false = omega (arith, low)

same : (c : Client) → Paid false false c c
same c = lowered c c (omega arith)

-- nobody pays nothing for nothing
unheld : (taken ticked : Bool) → Paid taken ticked nobody nobody
unfolding Paid bucket_of
unheld taken ticked = omega arith

nobody-empty : bucket_of nobody ≡ 0
unfolding bucket_of
nobody-empty = refl

joining-empty : (kind rate burst : ℕ) → bucket_of (joining kind rate burst) ≡ 0
unfolding bucket_of joining
joining-empty kind rate burst = cond_same (is_indifferent (kind_of kind)) 0

-- a change keeps the bucket or lowers it, or begins with an empty one
changed_lowers : (c : Client) (kind rate burst : ℕ) → bucket_of (changed c kind rate burst) ≤ bucket_of c
unfolding changed retuned bucket_of
changed_lowers c kind rate burst = go (same_kind c.kind (kind_of kind))
  where
    tuned : (b : Bool) → cond b (min c.level (burst * shares)) 0 ≤ cond b c.level 0
    tuned true = omega arith
    tuned false = omega arith

    go : (b : Bool) → bucket_of (cond b (retuned c rate burst) (joining kind rate burst)) ≤ bucket_of c
    go true = tuned (is_indifferent c.kind)
    go false = omega (arith, joining-empty kind rate burst)

charged_paid : (c : Client) → (not (is_indifferent c.kind) || leb shares c.level) ≡ true → Paid true false c (charged c)
unfolding Paid charged bucket_of
charged_paid c covered = go (is_indifferent c.kind) covered
  where
    go : (b : Bool)
        → (not b || leb shares c.level) ≡ true
        → cond (b && true) shares 0 + cond b (cond b (c.level - shares) c.level) 0
        ≤ cond b c.level 0 + cond (b && false) c.rate 0
    go true e = omega (arith, leb-true shares c.level e)
    go false e = omega arith

refilled_paid : (c : Client) → Paid false true c (refilled c)
unfolding Paid refilled bucket_of
refilled_paid c = go (is_indifferent c.kind)
  where
    go : (b : Bool)
        → cond (b && false) shares 0 + cond b (cond b (min (c.level + c.rate) (c.burst * shares)) c.level) 0
        ≤ cond b c.level 0 + cond (b && true) c.rate 0
    go true = omega arith
    go false = omega arith

module _ (s : State) (id : ℕ) where
  -- a call that passes its checks or keeps the core
  checked_paid : (arrival : Bool) (cs : List Check) (made : State)
      → (Passed cs → Paid arrival false (s.clients id) (made.clients id))
      → Paid (arrival && is_accepted (checked cs (unchanged (running s)) (accepted made)).answer) false (s.clients id)
      (client_of (checked cs (unchanged (running s)) (accepted made)).core id)
  unfolding client_of
  checked_paid arrival cs made done =
      checked_spared (λ a core. Paid a false (s.clients id) (client_of core id)) s false arrival cs made (same (s.clients id))
      (λ passed kept. done passed)
      tt

  -- one that puts a client in place
  put_paid : (other : ℕ) (d : Client) → bucket_of d ≤ bucket_of (s.clients other)
      → Paid false false (s.clients id) (put s.clients other d id)
  put_paid other d low =
      put-cases s.clients other d (λ j e. Paid false false (s.clients j) e) (lowered (s.clients other) d low)
      (λ j ne. same (s.clients j)) id

  arrive_paid : (other : ℕ) (p : Packet)
      → Passed (arrive_checks s other p)
      → Paid (eqb other id) false (s.clients id) (put s.clients other (charged (s.clients other)) id)
  unfolding arrive_checks active_checks
  arrive_paid other p passed =
      put-cases s.clients other (charged (s.clients other)) (λ j d. Paid (eqb other j) false (s.clients j) d)
      (rw (eq-eqb other other refl) (charged_paid (s.clients other) passed.1.1.1.1.0))
      (λ j ne. rw (ne_eqb other j (λ q. ne (sym q))) (same (s.clients j)))
      id

-- what each call does, whoever is called
step_paid : (core : Core) (id : ℕ) (c : Event)
    → Paid (is_offer id c && is_accepted (step core c).answer) (is_tick c) (client_of core id) (client_of (step core c).core id)
unfolding step client_of updated fresh is_accepted is_offer is_arrival is_tick names on_open on_join on_change on_leave on_load on_arrive
step_paid unopened id (Open threshold discipline seed) =
    checked-cases (λ r. Paid false false nobody (client_of r.core id)) (open_checks threshold discipline seed)
    (unchanged unopened) (accepted (fresh threshold discipline seed)) (λ number. unheld _ _) (λ passed. unheld _ _)
step_paid unopened id (Join other kind rate burst) = unheld _ _
step_paid unopened id (Change other kind rate burst) = unheld _ _
step_paid unopened id (Leave other) = unheld _ _
step_paid unopened id (Load other dummies) = unheld _ _
step_paid unopened id (Arrive other p) = unheld _ _
step_paid unopened id Tick = unheld _ _
step_paid (running s) id (Open threshold discipline seed) =
    checked_paid s id false (open_checks threshold discipline seed) (fresh threshold discipline seed)
    (λ passed. lowered (s.clients id) nobody (omega (arith, nobody-empty)))
step_paid (running s) id (Join other kind rate burst) =
    checked_paid s id false (join_checks s other kind rate burst)
    (updated s (put s.clients other (joining kind rate burst)) (stocked s.side other bare))
    (λ passed. put_paid s id other (joining kind rate burst) (omega (arith, joining-empty kind rate burst)))
step_paid (running s) id (Change other kind rate burst) =
    checked_paid s id false (change_checks s other kind rate burst)
    (updated s (put s.clients other (changed (s.clients other) kind rate burst)) (side_after_change s other kind))
    (λ passed. put_paid s id other (changed (s.clients other) kind rate burst)
    (changed_lowers (s.clients other) kind rate burst))
step_paid (running s) id (Leave other) =
    checked_paid s id false (leave_checks s other)
    (updated s (put s.clients other nobody) (emptied s.side other))
    (λ passed. put_paid s id other nobody (omega (arith, nobody-empty)))
step_paid (running s) id (Load other dummies) =
    checked_paid s id false (load_checks s other dummies)
    (updated s s.clients (stocked s.side other (loaded (s.side.stocks other) dummies)))
    (λ passed. same (s.clients id))
step_paid (running s) id (Arrive other p) =
    checked_paid s id (eqb other id) (arrive_checks s other p)
    (updated s (put s.clients other (charged (s.clients other))) (side_after_arrival s other p))
    (λ passed. arrive_paid s id other p passed)
step_paid (running s) id Tick = rw (tick_client s id) (refilled_paid (s.clients id))

-- type and rate, as they are read off the calls, are those that the core holds
rate_reading : (id : ℕ) → Reading id (λ c. c.rate) (rate_by id)
unfolding rate_by joining changed retuned charged refilled
rate_reading id = record {
  opened = λ threshold discipline seed was. refl;
  joined = λ other kind rate burst was. refl;
  altered = λ c other kind rate burst was. go (same_kind c.kind (kind_of kind)) c kind rate burst (eqb other id) was;
  left = λ other was. refl;
  load = λ other dummies was. refl;
  arrive = λ other p was. refl;
  charge = λ c. refl;
  refill = λ c. refl;
}
  where
    go : (b : Bool) (c : Client) (kind rate burst : ℕ) (own : Bool) (was : ℕ)
        → cond own rate was ≡ cond own (cond b (retuned c rate burst) (joining kind rate burst)).rate was
    go true c kind rate burst own was = refl
    go false c kind rate burst own was = refl

module _ (core : Core) (id : ℕ) where
  abbrev client : Client
  client = client_of core id

  held_kind : (h : History) → indifferent_in id client (stretch core h) ≡ is_indifferent (client_of (behind core h) id).kind
  unfolding holds_indifferent
  held_kind h = indifferent_since_lem core id h

  held_rate : (h : History) → rate_in id client (stretch core h) ≡ (client_of (behind core h) id).rate
  unfolding rate_in trace_of dealing_at answer_at after
  held_rate start = refl
  held_rate (h then c) =
      rw (held_rate h) (sym (told id (λ (d : Client). d.rate) (rate_by id) (rate_reading id) (behind core h) c))

-- so many packets were accepted, and spells that ended pay for so many; what has come in during the present one, and is in the
-- bucket now
record Ledger (admitted ended came left : ℕ) : Type 0 where
  -- the packets of the present spell
  present : ℕ
  counted : admitted ≤ ended + present
  paid : present * shares + left ≤ came

module _ {admitted ended came left : ℕ} (l : Ledger admitted ended came left) (next more : ℕ) where
  -- a call more, and a packet more if one was taken
  counted_on : (taken : Bool) → one_if taken admitted ≤ ended + one_if taken l.present
  counted_on true = omega (arith, l.counted)
  counted_on false = omega (arith, l.counted)

  paid_on : (taken : Bool) → cond taken shares 0 + next ≤ left + more → one_if taken l.present * shares + next ≤ came + more
  paid_on true pays = omega (arith, l.paid)
  paid_on false pays = omega (arith, l.paid)

  -- the spell goes on, or its whole tokens are closed with it
  ledger_on : (taken after : Bool)
      → cond taken shares 0 + next ≤ left + more
      → (after ≡ false → next ≡ 0)
      → Ledger (one_if taken admitted) (ended + cond after 0 ((came + more) / shares)) (cond after (came + more) 0) next
  ledger_on taken true pays none = record {
    present = one_if taken l.present;
    counted = omega (arith, counted_on taken);
    paid = paid_on taken pays;
  }
  ledger_on taken false pays none = record {
    present = 0;
    counted =
        let tokens : one_if taken l.present ≤ (came + more) / shares =
        (le-div_iff_mul-le shares_positive).1 (omega (arith, paid_on taken pays)) in
        omega (arith, counted_on taken);
    paid = omega (arith, none refl);
  }

bucket_none : (c : Client) → is_indifferent c.kind ≡ false → bucket_of c ≡ 0
unfolding bucket_of
bucket_none c e = rw e

module _ (core : Core) (id : ℕ) where
  call_paid : (h : History) (c : Event)
      → cond (indifferent_in id (client_of core id) (stretch core h) && (is_offer id c && is_accepted (step (behind core h) c).answer))
      shares 0
      + bucket_of (client_of (step (behind core h) c).core id)
      ≤ bucket_of (client_of (behind core h) id)
      + cond (indifferent_in id (client_of core id) (stretch core h) && is_tick c) (rate_in id (client_of core id) (stretch core h)) 0
  unfolding Paid
  call_paid h c = rw (held_kind core id h, held_rate core id h) (step_paid (behind core h) id c)

  ledger : (h : History)
      → Ledger (admissions id (client_of core id) (stretch core h)) (closed id (client_of core id) (stretch core h))
      (credit id (client_of core id) (stretch core h)) (bucket_of (client_of (behind core h) id))
  unfolding admissions closed credit income is_refill trace_of dealing_at answer_at after
  ledger start = record { present = 0; counted = omega arith; paid = omega arith }
  ledger (h then c) =
      ledger_on (ledger h) (bucket_of (client_of (behind core (h then c)) id))
      (cond (indifferent_in id (client_of core id) (stretch core h) && is_tick c) (rate_in id (client_of core id) (stretch core h)) 0)
      (indifferent_in id (client_of core id) (stretch core h) && (is_offer id c && is_accepted (step (behind core h) c).answer))
      (indifferent_in id (client_of core id) (stretch core (h then c)))
      (call_paid h c)
      (λ e. bucket_none (client_of (behind core (h then c)) id) (sym (held_kind core id (h then c)) ∙ e))

  by_spells_lem : (h : History)
      → admissions id (client_of core id) (stretch core h) ≤ affordable id (client_of core id) (stretch core h)
  by_spells_lem h =
      let l = ledger h in
      let tokens : l.present ≤ credit id (client_of core id) (stretch core h) / shares =
      (le-div_iff_mul-le shares_positive).1 (omega (arith, l.paid)) in
      omega (arith, l.counted)

-- whole tokens of a spell cost no more than what came in
closing : (b : Bool) (ended came : ℕ) → (ended + cond b 0 (came / shares)) * shares + cond b came 0 ≤ ended * shares + came
closing true ended came = omega arith
closing false ended came = omega (arith, div-mul-le_self came shares)

-- a tick more at a rate that is no larger than the largest
rising : (b : Bool) (n top rate : ℕ) → n * top + cond b rate 0 ≤ one_if b n * cond b (max rate top) top
rising true n top rate = omega (arith, mul-le-mul_left {m = top} {n = max rate top} n (omega arith))
rising false n top rate = omega arith

module _ (id : ℕ) (client : Client) where
  -- all that came in was brought by ticks, at rates up to the largest
  came_in : (t : Trace)
      → closed id client t * shares + credit id client t ≤ bucket_of client + refills id client t * top_rate id client t
  unfolding closed credit income refills top_rate
  came_in begin = omega arith
  came_in (t and d) =
      omega (
        arith,
        came_in t,
        closing (indifferent_in id client (t and d)) (closed id client t)
            (credit id client t + cond (is_refill id client t d) (rate_in id client t) 0),
        rising (is_refill id client t d) (refills id client t) (top_rate id client t) (rate_in id client t),
      )

  by_ticks_lem : (t : Trace) → affordable id client t ≤ tokens (bucket_of client) (top_rate id client t) (refills id client t)
  unfolding tokens
  by_ticks_lem t =
      (le-div_iff_mul-le shares_positive).1 (omega (arith, came_in t, div-mul-le_self (credit id client t) shares))

-- without a switch, what is counted of the client's spells is counted of the stretch
module _ (core : Core) (id : ℕ) (indifferently : T (is_indifferent (client_of core id).kind)) where
  unswitched : (h : History)
      → T (undisturbed id (stretch core h))
      → Unswitched id (client_of core id) (stretch core h)
  unfolding refills admissions top_rate is_refill ticks acceptances trace_of dealing_at answer_at after
  unswitched start calm = record { ticked = refl; accepted = refl; rated = omega arith }
  unswitched (h then c) calm =
      let calms = calm_before core id h c calm in
      let moved = stretch-moved core id indifferently h calms.0 in
      let before = unswitched h calms.0 in
      let on : indifferent_in id (client_of core id) (stretch core h) ≡ true =
      held_kind core id h ∙ ap is_indifferent moved.kind ∙ T_true indifferently in
      let rate : rate_in id (client_of core id) (stretch core h) ≡ (client_of core id).rate = held_rate core id h ∙ moved.rate in
      record {
        ticked = rw (on, before.ticked);
        accepted = rw (on, before.accepted);
        rated = rw (on, rate) (larger (is_tick c) before.rated);
      }
    where
      larger : (b : Bool)
          → top_rate id (client_of core id) (stretch core h) ≤ (client_of core id).rate
          → cond b (max (client_of core id).rate (top_rate id (client_of core id) (stretch core h)))
          (top_rate id (client_of core id) (stretch core h))
          ≤ (client_of core id).rate
      larger true low = omega (arith, low)
      larger false low = low

-- more in the bucket, a larger rate and more ticks buy no fewer packets
tokens_grow : (level rate n level' rate' n' : ℕ)
    → level ≤ level'
    → rate ≤ rate'
    → n ≤ n'
    → tokens level rate n ≤ tokens level' rate' n'
unfolding tokens
tokens_grow level rate n level' rate' n' l r t =
    (le-div_iff_mul-le shares_positive).1 (omega (arith, div-mul-le_self (level + n * rate) shares, mul-le-mul t r))

bucket_level : (c : Client) → bucket_of c ≤ c.level
unfolding bucket_of
bucket_level c = go (is_indifferent c.kind)
  where
    go : (b : Bool) → cond b c.level 0 ≤ c.level
    go true = omega arith
    go false = omega arith

pub switching : Switching
unfolding BySpells ByTicks
switching = record {
  type_read = held_kind;
  rate_read = held_rate;
  staying = λ core id calls indifferently. unswitched core id indifferently calls;
  by_spells = by_spells_lem;
  by_ticks = within;
  from_nothing = λ core id calls e. rw (bucket_none (client_of core id) e) at (within core id calls);
  nothing_gained = λ h id moves stays greedy.
      gained (after scheduler h) id moves stays (greedy_exact.reached h id stays greedy);
}
  where
    within : (core : Core) (id : ℕ) (calls : History)
        → admissions id (client_of core id) (stretch core calls)
        ≤ tokens (bucket_of (client_of core id)) (top_rate id (client_of core id) (stretch core calls))
        (refills id (client_of core id) (stretch core calls))
    within core id calls = omega (arith, by_spells_lem core id calls, by_ticks_lem id (client_of core id) (stretch core calls))

    gained : (core : Core) (id : ℕ) (moves stays : History)
        → acceptances id (stretch core stays) ≡ bought (client_of core id) (ticks (stretch core stays))
        → top_rate id (client_of core id) (stretch core moves) ≤ (client_of core id).rate
        → refills id (client_of core id) (stretch core moves) ≤ ticks (stretch core stays)
        → admissions id (client_of core id) (stretch core moves) ≤ acceptances id (stretch core stays)
    gained core id moves stays exact rate n =
        omega (
          arith,
          exact,
          within core id moves,
          tokens_grow _ _ _ _ _ _ (bucket_level (client_of core id)) rate n,
        )
