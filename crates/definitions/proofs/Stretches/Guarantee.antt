-- The private side gets what it is sure of. While a private client is active every slot goes by rule 1 or by rule 2, and rule 1
-- sends a packet that waited: so the slots are shared out, which is one equation. What is accepted is bounded client by client
-- (Bound), and whoever rule 1 picks has a packet, since the order of acceptance has just those that wait (Limits/Turns).
-- Assumes nothing.
use Prim.Native.Nat.{ℕ, suc, ◌+◌, ◌-◌, ◌≤◌, ◌<◌}
use mathlib.Core.Path.{◌≡◌, refl, sym, ap, subst, fun_ext, ◌∙◌}
use mathlib.Core.Bool.{Bool, true, false, cond, not, ◌&&◌}
use native.Mathlib.Omega.{arith}
use lib.Dec.{T}
use lib.ListN.{length}
use Rattle.definitions.specs.Event.{Event, Open, Join, Change, Leave, Load, Arrive, Tick}
use Rattle.definitions.specs.Sizes.{ids}
use Rattle.definitions.specs.Draw.{sum_below}
use Rattle.definitions.specs.Client.{Kind, private, Client, is_indifferent, is_private, refilled}
use Rattle.definitions.specs.Stock.{Stock, spent}
use Rattle.definitions.specs.State.{State, Core, unopened, running, updated, put}
use Rattle.definitions.specs.Answers.{is_accepted}
use Rattle.definitions.specs.Tick.{any_below, Rule, rule1, rule2, rule3, rule_of, turn, stocks_after, side_after, refill_all, slotted, on_tick}
use Rattle.definitions.specs.Core.{step}
use Rattle.definitions.specs.History.{History, start, ◌then◌, after, answer_at, dealing_at, trace_of, client_of, stock_of, pick_by, pick_of, scheduler}
use Rattle.definitions.specs.Sameness.{is_setting, is_arrival, is_tick}
use Rattle.definitions.specs.Limits.{StateLimits, CoreLimits, Limits}
use Rattle.definitions.specs.Stretch.{stretch, behind, one_if, ticks, is_offer, acceptances, bought}
use Rattle.definitions.specs.Bound.{Bound}
use Rattle.definitions.specs.Guarantee.{steady, is_private_pick, picks, private_active, over_indifferent, backlog, demand, sure, SlotsShared, Guarantee}
use Rattle.definitions.proofs.Laws.Tests.{T_true, true-false, lt_cases, cond_same}
use Rattle.definitions.proofs.Laws.Sums.{sum_below_same, sum_below-zero, sum_below_balance, sum_below_least, sum_below_other, any_below-true}
use Rattle.definitions.proofs.Laws.Rules.{rule-cases, turn-rule}
use Rattle.definitions.proofs.Laws.Clients.{put_same, put_other, put-cases}
use Rattle.definitions.proofs.Limits.{step-limits, limits}
use Rattle.definitions.proofs.Limits.Turns.{Contender, rule1_below, rule1_contender, rule2_private}
use Rattle.definitions.proofs.Bound.{bound}
use Rattle.definitions.proofs.Stretches.Waiting.{waits, step_waits}
use Rattle.definitions.proofs.Stretches.Steady.{spared_resets, steady_before, steady_undisturbed, step_kind, stretch_kind}

-- one more is one added
pub one_if_plus : (b : Bool) (n : ℕ) → one_if b n ≡ one_if b 0 + n
one_if_plus true n = omega arith
one_if_plus false n = omega arith

-- a sum over the indifferent clients of another core, where every client is of the kind that it is here
over_kinds : (core other : Core) (f : ℕ → ℕ)
    → ((id : ℕ) → (client_of other id).kind ≡ (client_of core id).kind)
    → over_indifferent other f ≡ over_indifferent core f
unfolding over_indifferent
over_kinds core other f same =
    sum_below_same ids _ _ (λ id below. ap (λ (k : Kind). cond (is_indifferent k) (f id) 0) (same id))

-- what two sums over the indifferent clients come to together
over_balance : (core : Core) (f g h k : ℕ → ℕ)
    → ((id : ℕ) → T (is_indifferent (client_of core id).kind) → f id + g id ≡ h id + k id)
    → over_indifferent core f + over_indifferent core g ≡ over_indifferent core h + over_indifferent core k
unfolding over_indifferent
over_balance core f g h k same =
    sum_below_balance ids _ _ _ _ (λ id below. go id (is_indifferent (client_of core id).kind) (same id))
  where
    go : (id : ℕ) (b : Bool)
        → (T b → f id + g id ≡ h id + k id)
        → cond b (f id) 0 + cond b (g id) 0 ≡ cond b (h id) 0 + cond b (k id) 0
    go id true e = e tt
    go id false e = refl

over_least : (core : Core) (f g : ℕ → ℕ)
    → ((id : ℕ) → T (is_indifferent (client_of core id).kind) → f id ≤ g id)
    → over_indifferent core f ≤ over_indifferent core g
unfolding over_indifferent
over_least core f g least = sum_below_least ids _ _ (λ id below. go id (is_indifferent (client_of core id).kind) (least id))
  where
    go : (id : ℕ) (b : Bool) → (T b → f id ≤ g id) → cond b (f id) 0 ≤ cond b (g id) 0
    go id true e = e tt
    go id false e = omega arith

-- a private client that is active stays so
pub private_stays : (core other : Core)
    → ((id : ℕ) → (client_of other id).kind ≡ (client_of core id).kind)
    → T (private_active core)
    → T (private_active other)
unfolding private_active
private_stays core other same =
    subst (λ (f : ℕ → Bool). T (any_below ids f)) (fun_ext (λ id. ap is_private (sym (same id))))

-- a queue of which the first packet is gone, for a client that has one
spent_shorter : (c : Client) (k : Stock) → Contender c k
    → cond (is_indifferent c.kind) (length k.queue) 0 ≡ suc (cond (is_indifferent c.kind) (length (spent k).queue) 0)
unfolding spent
spent_shorter c k at = rw (at.indifferently, at.waiting)

module _ (s : State) where
  -- how many packets of an id wait, if it is indifferent
  abbrev waiting : (ℕ → Stock) → ℕ → ℕ
  waiting stocks id = cond (is_indifferent (s.clients id).kind) (length (stocks id).queue) 0

  -- what the turn of an id leaves waiting, by the rule that it goes by
  abbrev LeftBy : Rule → ℕ → Type 0
  LeftBy rule id =
      one_if (is_private_pick (pick_by rule id)) (sum_below ids (waiting s.side.stocks))
      ≡ suc (sum_below ids (waiting (stocks_after rule id s.side.stocks)))

  module _ (id : ℕ) where
    abbrev rest : ℕ → Stock
    rest = put s.side.stocks id (spent (s.side.stocks id))

    -- at any other id as many wait as before
    others_wait : (j : ℕ) → (j ≡ id → ⊥) → waiting s.side.stocks j ≡ waiting rest j
    others_wait j other = rw (put_other s.side.stocks id (spent (s.side.stocks id)) j other)

    sent_by_rule1 : id < ids → Contender (s.clients id) (s.side.stocks id)
        → sum_below ids (waiting s.side.stocks) ≡ suc (sum_below ids (waiting rest))
    sent_by_rule1 below at =
        let less : waiting s.side.stocks id ≡ suc (waiting rest id) =
        rw (put_same s.side.stocks id (spent (s.side.stocks id)))
        (spent_shorter (s.clients id) (s.side.stocks id) at) in
        omega (arith, less, sum_below_other ids id (waiting s.side.stocks) (waiting rest) below others_wait)

    sent_by_rule2 : (s.clients id).kind ≡ private
        → sum_below ids (waiting s.side.stocks) ≡ sum_below ids (waiting rest)
    sent_by_rule2 secret =
        sum_below_same ids (waiting s.side.stocks) (waiting rest) (λ j below.
        put-cases s.side.stocks id (spent (s.side.stocks id))
        (λ i k. waiting s.side.stocks i ≡ cond (is_indifferent (s.clients i).kind) (length k.queue) 0)
        (rw secret)
        (λ i other. refl)
        j)

  -- rule 3 is for a core without private clients
  abbrev Private : Rule → Type 0
  Private rule1 = Unit {0}
  Private rule2 = Unit {0}
  Private rule3 = ⊥

  private_rule : T (private_active (running s)) → Private (rule_of s)
  unfolding private_active client_of
  private_rule active =
      rule-cases Private s (λ id below waits. tt) (λ none id below secret. tt)
      (λ none none_secret.
      let found = any_below-true ids (λ id. is_private (s.clients id).kind) (T_true active) in
      true-false found.2 (none_secret found.0 found.1))

  -- a slot is a pick, or one packet fewer waits
  turn_left : StateLimits s → T (private_active (running s)) → LeftBy (turn s).rule (turn s).id
  unfolding stocks_after
  turn_left known active = subst (λ r. LeftBy r (turn s).id) (sym (turn-rule s)) (go (rule_of s) refl (private_rule active))
    where
      go : (r : Rule) → rule_of s ≡ r → Private r → LeftBy r (turn s).id
      go rule1 e p = sent_by_rule1 (turn s).id (rule1_below s known e) (rule1_contender s known e)
      go rule2 e p = ap suc (sent_by_rule2 (turn s).id (rule2_private s known e))
      go rule3 e p = absurd p

  tick_left : StateLimits s → T (private_active (running s))
      → one_if (is_private_pick (pick_of (running s))) (backlog (running s)) ≡ suc (backlog (on_tick s).core)
  unfolding backlog over_indifferent client_of stock_of on_tick slotted updated side_after refill_all refilled
  tick_left known active = turn_left known active

-- an unopened core has nobody
pub unopened_private : private_active unopened ≡ false
unfolding private_active client_of
unopened_private = go (any_below ids (λ id. false)) refl
  where
    go : (b : Bool) → any_below ids (λ id. false) ≡ b → b ≡ false
    go true e = true-false (any_below-true ids (λ id. false) e).2 refl
    go false e = refl

pub tick_shared : (core : Core)
    → CoreLimits core
    → T (private_active core)
    → one_if (is_private_pick (pick_of core)) (backlog core) ≡ suc (backlog (step core Tick).core)
unfolding step
tick_shared unopened known active = true-false (T_true active) unopened_private
tick_shared (running s) known active = tick_left s known active

-- Behind a call that is no tick as many wait as before, and those that it got accepted.
call_shared : (core : Core) (c : Event) (accepted : ℕ → ℕ)
    → is_tick c ≡ false
    → T (not (is_setting c && is_accepted (step core c).answer))
    → backlog (step core c).core + over_indifferent core accepted
    ≡ backlog core + over_indifferent core (λ id. one_if (is_offer id c && is_accepted (step core c).answer) (accepted id))
unfolding backlog waits
call_shared core c accepted still spared =
    ap (λ (n : ℕ). n + over_indifferent core accepted)
    (over_kinds core (step core c).core (waits (step core c).core) (λ id. step_kind core id c spared))
    ∙ over_balance core (waits (step core c).core) accepted (waits core)
    (λ id. one_if (is_offer id c && is_accepted (step core c).answer) (accepted id))
    (λ id indifferently.
    let taken = is_offer id c && is_accepted (step core c).answer in
    omega (
      arith,
      step_waits core id c indifferently still (spared_resets id c (is_accepted (step core c).answer) spared),
      one_if_plus taken (waits core id),
      one_if_plus taken (accepted id),
    ))

-- what any call does: a pick, or a packet that goes or comes
step_shared : (core : Core) (c : Event) (accepted : ℕ → ℕ)
    → CoreLimits core
    → T (private_active core)
    → T (not (is_setting c && is_accepted (step core c).answer))
    → one_if (is_tick c && is_private_pick (pick_of core)) (backlog core)
    + over_indifferent core (λ id. one_if (is_offer id c && is_accepted (step core c).answer) (accepted id))
    ≡ one_if (is_tick c) (backlog (step core c).core) + over_indifferent core accepted
unfolding is_tick is_offer is_arrival
step_shared core Tick accepted known active spared =
    ap (λ (n : ℕ). n + over_indifferent core accepted) (tick_shared core known active)
step_shared core (Open threshold discipline seed) accepted known active spared =
    sym (call_shared core (Open threshold discipline seed) accepted refl spared)
step_shared core (Join id kind rate burst) accepted known active spared =
    sym (call_shared core (Join id kind rate burst) accepted refl spared)
step_shared core (Change id kind rate burst) accepted known active spared =
    sym (call_shared core (Change id kind rate burst) accepted refl spared)
step_shared core (Leave id) accepted known active spared = sym (call_shared core (Leave id) accepted refl spared)
step_shared core (Load id dummies) accepted known active spared = sym (call_shared core (Load id dummies) accepted refl spared)
step_shared core (Arrive id p) accepted known active spared = sym (call_shared core (Arrive id p) accepted refl spared)

pub behind-limits : (core : Core) → CoreLimits core → (h : History) → CoreLimits (behind core h)
unfolding after
behind-limits core known start = known
behind-limits core known (h then c) = step-limits (behind core h) (behind-limits core known h) c

none-accepted : (core : Core) → over_indifferent core (λ id. 0) ≡ 0
unfolding over_indifferent
none-accepted core = sum_below-zero ids _ (λ id below. cond_same (is_indifferent (client_of core id).kind) 0)

pub slots_shared : SlotsShared
unfolding SlotsShared picks ticks acceptances trace_of dealing_at answer_at after
slots_shared core start known active calm = omega (arith, none-accepted core)
slots_shared core (h then c) known active calm =
    let calms = steady_before core h c calm in
    let b = behind core h in
    let kinds : (id : ℕ) → (client_of b id).kind ≡ (client_of core id).kind = λ id. stretch_kind core id h calms.0 in
    let accepted : ℕ → ℕ = λ id. acceptances id (stretch core h) in
    let more : ℕ → ℕ = λ id. one_if (is_offer id c && is_accepted (step b c).answer) (accepted id) in
    let picked = is_tick c && is_private_pick (pick_of b) in
    omega (
      arith,
      slots_shared core h known active calms.0,
      step_shared b c accepted (behind-limits core known h) (private_stays core b kinds active) calms.1,
      over_kinds core b accepted kinds,
      over_kinds core b more kinds,
      one_if_plus picked (picks (stretch core h)),
      one_if_plus picked (backlog b),
      one_if_plus (is_tick c) (ticks (stretch core h)),
      one_if_plus (is_tick c) (backlog (step b c).core),
    )

-- what is accepted is no more than what was bought, client by client
accepted-bought : (core : Core) (calls : History) → T (steady (stretch core calls))
    → over_indifferent core (λ id. acceptances id (stretch core calls))
    ≤ over_indifferent core (λ id. bought (client_of core id) (ticks (stretch core calls)))
unfolding Bound
accepted-bought core calls calm =
    let t = stretch core calls in
    over_least core (λ id. acceptances id t) (λ id. bought (client_of core id) (ticks t))
    (λ id indifferently. bound core id calls indifferently (steady_undisturbed id t calm))

guaranteed : (core : Core) (calls : History)
    → CoreLimits core
    → T (private_active core)
    → T (steady (stretch core calls))
    → ticks (stretch core calls) ≤ picks (stretch core calls) + demand core (ticks (stretch core calls))
unfolding SlotsShared demand
guaranteed core calls known active calm =
    omega (arith, slots_shared core calls known active calm, accepted-bought core calls calm)

-- At a tick one packet goes or a pick is made, so what was accepted before it is what counts.
at_tick : (core : Core) (h : History)
    → CoreLimits core
    → T (private_active core)
    → T (steady (stretch core h))
    → suc (ticks (stretch core h))
    ≤ one_if (is_private_pick (pick_of (behind core h))) (picks (stretch core h)) + demand core (ticks (stretch core h))
unfolding SlotsShared demand
at_tick core h known active calm =
    let b = behind core h in
    let kinds : (id : ℕ) → (client_of b id).kind ≡ (client_of core id).kind = λ id. stretch_kind core id h calm in
    omega (
      arith,
      slots_shared core h known active calm,
      accepted-bought core h calm,
      tick_shared b (behind-limits core known h) (private_stays core b kinds active),
      one_if_plus (is_private_pick (pick_of b)) (picks (stretch core h)),
      one_if_plus (is_private_pick (pick_of b)) (backlog b),
    )

-- and no call behind the last tick counts
sharpened : (core : Core) (calls : History)
    → CoreLimits core
    → T (private_active core)
    → T (steady (stretch core calls))
    → (m : ℕ)
    → ticks (stretch core calls) ≡ suc m
    → suc m ≤ picks (stretch core calls) + demand core m
unfolding picks ticks trace_of dealing_at answer_at
sharpened core start known active calm m e = absurd (omega arith)
sharpened core (h then c) known active calm m e = go (is_tick c) (sharpened core h known active before m) e
  where
    before : T (steady (stretch core h))
    before = (steady_before core h c calm).0

    go : (b : Bool)
        → (ticks (stretch core h) ≡ suc m → suc m ≤ picks (stretch core h) + demand core m)
        → one_if b (ticks (stretch core h)) ≡ suc m
        → suc m ≤ one_if (b && is_private_pick (pick_of (behind core h))) (picks (stretch core h)) + demand core m
    go true sofar e =
        subst (λ (k : ℕ). suc k ≤ one_if (is_private_pick (pick_of (behind core h))) (picks (stretch core h)) + demand core k)
        (omega (arith, e))
        (at_tick core h known active before)
    go false sofar e = sofar e

-- the figure for as many ticks as there are
figured : (core : Core) (calls : History)
    → CoreLimits core
    → T (steady (stretch core calls))
    → sure core (ticks (stretch core calls)) ≤ picks (stretch core calls)
unfolding sure
figured core calls known calm = go (private_active core) (λ active. guaranteed core calls known active calm)
  where
    n : ℕ
    n = ticks (stretch core calls)

    picked : ℕ
    picked = picks (stretch core calls)

    go : (b : Bool) → (T b → n ≤ picked + demand core n) → cond b (n - demand core n) 0 ≤ picked
    go true e = omega (arith, e tt)
    go false e = omega arith

-- and for fewer: ticks and picks only grow
figured_within : (core : Core) (calls : History)
    → CoreLimits core
    → T (steady (stretch core calls))
    → (m : ℕ)
    → m ≤ ticks (stretch core calls)
    → sure core m ≤ picks (stretch core calls)
unfolding picks ticks trace_of dealing_at answer_at
figured_within core start known calm m early =
    let none : m ≡ 0 = omega arith in
    rw none (figured core start known calm)
figured_within core (h then c) known calm m early =
    let n = ticks (stretch core h) in
    let picked = is_tick c && is_private_pick (pick_of (behind core h)) in
    lt_cases n m
    (λ last.
    let whole : m ≡ ticks (stretch core (h then c)) = go (is_tick c) last early in
    rw whole (figured core (h then c) known calm))
    (λ before.
    omega (
      arith,
      figured_within core h known (steady_before core h c calm).0 m before,
      one_if_plus picked (picks (stretch core h)),
    ))
  where
    go : (b : Bool) → ticks (stretch core h) < m → m ≤ one_if b (ticks (stretch core h)) → m ≡ one_if b (ticks (stretch core h))
    go true last early = omega arith
    go false last early = omega arith

pub guarantee : Guarantee
unfolding Limits
guarantee = record {
  anywhere = guaranteed;
  sharper = sharpened;
  figure = figured_within;
  reached = λ h calls. figured_within (after scheduler h) calls (limits h);
}
