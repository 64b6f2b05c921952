-- For every n half of the slots are sure and no more are got, if a client at half the shares takes each token as it comes. Two
-- ticks on, the client is where it was: the first of them is a pick, since nothing waits, and brings a token; the second sends
-- the packet that took it. Assumes nothing.
use Prim.Native.Nat.{ℕ, zero, suc, ◌+◌, ◌*◌, ◌/◌, ◌≤◌, ◌<◌}
use mathlib.Core.Path.{◌≡◌, refl, sym, ap, subst, ◌∙◌}
use mathlib.Core.Bool.{Bool, true, false, cond, not, ◌&&◌}
use native.Mathlib.Omega.{arith}
use native.Mathlib.Nat.{add-div_right}
use lib.Dec.{T, eqb, lit<, lit≤}
use lib.ListN.{length}
use borrow.Author.Tests.{ne_eqb}
use Rattle.definitions.specs.declared.Answer.TheVariants.{Accepted}
use Rattle.definitions.specs.Event.{Event, Tick}
use Rattle.definitions.specs.Sizes.{ids, places, shares, shortest, longest}
use Rattle.definitions.specs.Client.{Kind, Client, indifferent, is_indifferent}
use Rattle.definitions.specs.State.{Core, unopened, running}
use Rattle.definitions.specs.Answers.{is_accepted}
use Rattle.definitions.specs.Checks.{checked, within, active_checks, arrive_checks}
use Rattle.definitions.specs.Calls.{on_arrive}
use Rattle.definitions.specs.Tick.{Rule, turn, contends}
use Rattle.definitions.specs.Core.{step}
use Rattle.definitions.specs.History.{History, ◌then◌, after, answer_at, dealing_at, trace_of, client_of, stock_of, pick_by, pick_of}
use Rattle.definitions.specs.Sameness.{names, is_setting, is_arrival, is_tick}
use Rattle.definitions.specs.Limits.{ordered, CoreLimits, Limits}
use Rattle.definitions.specs.Stretch.{stretch, behind, one_if, is_open, ticks, resets, is_offer, tokens, bought}
use Rattle.definitions.specs.Bound.{spill}
use Rattle.definitions.specs.Guarantee.{steady, is_private_pick, picks, private_active, over_indifferent, backlog, demand, sure}
use Rattle.definitions.specs.GreedyExamples.{offer, ticking, joined}
use Rattle.definitions.specs.GuaranteeExamples.{with_token, with_half, beginning, taking, GuaranteeBest}
use Rattle.definitions.proofs.Laws.Tests.{T_true, true-false, cond_both, eqb-cases}
use Rattle.definitions.proofs.Laws.Kinds.{indifferent_kind_lem}
use Rattle.definitions.proofs.Laws.Sums.{sum_below-zero, sum_below_other}
use Rattle.definitions.proofs.Laws.Rules.{rule-cases, turn-rule}
use Rattle.definitions.proofs.Limits.{step-limits, limits}
use Rattle.definitions.proofs.Limits.Turns.{ordered-contends}
use Rattle.definitions.proofs.Everything.{everything}
use Rattle.definitions.proofs.Bound.{Moved, step-moved}
use Rattle.definitions.proofs.Stretches.Waiting.{waits, step_waits}
use Rattle.definitions.proofs.Stretches.Steady.{spared_resets, step_kind}
use Rattle.definitions.proofs.Stretches.Guarantee.{one_if_plus, private_stays, unopened_private, tick_shared, behind-limits}

-- client 3 is the only indifferent one, at half the shares
record Alone (core : Core) : Type 0 where
  limited : CoreLimits core
  active : T (private_active core)
  alone : (id : ℕ) → T (is_indifferent (client_of core id).kind) → id ≡ 3
  kind : T (is_indifferent (client_of core 3).kind)
  rate : (client_of core 3).rate ≡ 512
  burst : (client_of core 3).burst ≡ 2

-- what it has: so much in its bucket, and so many packets waiting
record Has (core : Core) (level waiting : ℕ) : Type 0 where
  held : (client_of core 3).level ≡ level
  wait : waits core 3 ≡ waiting

-- a sum over the indifferent clients is the number of client 3
over_alone : (core : Core) → Alone core → (f : ℕ → ℕ) → over_indifferent core f ≡ f 3
unfolding over_indifferent ids
over_alone core a f =
    omega (
      arith,
      sum_below_other ids 3 number (λ id. 0) (lit< tt) others,
      sum_below-zero ids (λ id. 0) (λ id below. refl),
      own (is_indifferent (client_of core 3).kind) a.kind,
    )
  where
    number : ℕ → ℕ
    number id = cond (is_indifferent (client_of core id).kind) (f id) 0

    others : (j : ℕ) → (j ≡ 3 → ⊥) → number j ≡ 0
    others j other = go (is_indifferent (client_of core j).kind) (a.alone j)
      where
        go : (b : Bool) → (T b → j ≡ 3) → cond b (f j) 0 ≡ 0
        go true e = absurd (other (e tt))
        go false e = refl

    own : (b : Bool) → T b → cond b (f 3) 0 ≡ f 3
    own true t = refl
    own false t = absurd t

module _ (core : Core) (c : Event) (spared : T (not (is_setting c && is_accepted (step core c).answer))) (a : Alone core) where
  moved : Moved (cond (is_offer 3 c && is_accepted (step core c).answer) shares 0) (cond (is_tick c) (client_of core 3).rate 0)
      (cond (is_tick c) (spill (client_of core 3)) 0)
      (client_of core 3)
      (client_of (step core c).core 3)
  moved = step-moved core 3 c a.kind (spared_resets 3 c (is_accepted (step core c).answer) spared)

  -- a call that sets nothing up leaves it so
  alone_on : Alone (step core c).core
  alone_on = record {
    limited = step-limits core a.limited c;
    active = private_stays core (step core c).core (λ id. step_kind core id c spared) a.active;
    alone = λ id t. a.alone id (subst (λ (k : Kind). T (is_indifferent k)) (step_kind core id c spared) t);
    kind = subst (λ (k : Kind). T (is_indifferent k)) (sym (step_kind core 3 c spared)) a.kind;
    rate = moved.rate ∙ a.rate;
    burst = moved.burst ∙ a.burst;
  }

-- a slot that nobody waits for is a pick
module _ (core : Core) (a : Alone core) where
  ticked : Alone (step core Tick).core
  unfolding is_setting
  ticked = alone_on core Tick tt a

  tick_level : (level : ℕ) → (client_of core 3).level ≡ level → level + 512 ≤ 2 * shares
      → (client_of (step core Tick).core 3).level ≡ level + 512
  unfolding is_setting is_tick is_offer is_arrival spill shares
  tick_level level e room = omega (arith, (moved core Tick tt a).level, a.rate, a.burst)

  tick_waits : one_if (is_private_pick (pick_of core)) (waits core 3) ≡ suc (waits (step core Tick).core 3)
  unfolding backlog waits
  tick_waits =
      omega (
        arith,
        tick_shared core a.limited a.active,
        over_alone core a (waits core),
        over_alone (step core Tick).core ticked (waits (step core Tick).core),
        one_if_plus (is_private_pick (pick_of core)) (waits core 3),
        one_if_plus (is_private_pick (pick_of core)) (backlog core),
      )

  idle_slot : waits core 3 ≡ 0 → (is_private_pick (pick_of core) ≡ true) × (waits (step core Tick).core 3 ≡ 0)
  idle_slot none = go (is_private_pick (pick_of core)) tick_waits
    where
      go : (b : Bool) → one_if b (waits core 3) ≡ suc (waits (step core Tick).core 3)
          → (b ≡ true) × (waits (step core Tick).core 3 ≡ 0)
      go true e = (refl, omega (arith, none))
      go false e = absurd (omega (arith, none))

-- a slot that client 3 waits for is none
busy_pick : (core : Core) → Alone core → 0 < waits core 3 → is_private_pick (pick_of core) ≡ false
unfolding waits client_of stock_of ids ordered
busy_pick unopened a some = true-false (T_true a.active) unopened_private
busy_pick (running s) a some =
    subst (λ (r : Rule). is_private_pick (pick_by r (turn s).id) ≡ false) (sym (turn-rule s))
    (rule-cases (λ r. is_private_pick (pick_by r (turn s).id) ≡ false) s
    (λ id below waits. refl)
    (λ none id below secret. true-false contending (none 3 (lit< tt)))
    (λ none none_secret. true-false contending (none 3 (lit< tt))))
  where
    go : (b : Bool) → T b → 0 < cond b (length (s.side.stocks 3).queue) 0
    go true t = some
    go false t = absurd t

    contending : contends (s.clients 3) (s.side.stocks 3) ≡ true
    contending = ordered-contends (s.clients 3) (s.side.stocks 3) (go (is_indifferent (s.clients 3).kind) a.kind)

-- a packet of client 3 is accepted if it has a token and nothing waiting
offer-accepted : (core : Core) → Alone core → (client_of core 3).level ≡ 1024 → waits core 3 ≡ 0 → (step core offer).answer ≡ Accepted
unfolding step client_of stock_of waits on_arrive arrive_checks active_checks checked within ids places shares shortest longest
offer-accepted unopened a level none = true-false (T_true a.active) unopened_private
offer-accepted (running s) a level none =
    let kind : (s.clients 3).kind ≡ indifferent = indifferent_kind_lem (s.clients 3).kind (T_true a.kind) in
    rw (kind, level, none)

-- Two ticks, the second behind an offer: the client is where it was, and there was one pick.
record Round (core : Core) : Type 0 where
  picked : is_private_pick (pick_of core) ≡ true
  sent : is_private_pick (pick_of (step (step core Tick).core offer).core) ≡ false
  alone : Alone (step (step (step core Tick).core offer).core Tick).core
  has : Has (step (step (step core Tick).core offer).core Tick).core 512 0

round : (core : Core) → Alone core → Has core 512 0 → Round core
unfolding is_setting is_tick is_offer is_arrival names is_open resets is_accepted shares
round core a has =
    let one = (step core Tick).core in
    let idle = idle_slot core a has.wait in
    let a1 = ticked core a in
    let token = tick_level core a 512 has.held (lit≤ tt) in
    let answer = offer-accepted one a1 token idle.1 in
    let two = (step one offer).core in
    let a2 = alone_on one offer tt a1 in
    let empty : (client_of two 3).level ≡ 0 = omega (arith, token, rw answer at (moved one offer tt a1).level) in
    let waiting : waits two 3 ≡ 1 = rw (answer, idle.1) at (step_waits one 3 offer a1.kind refl tt) in
    let busy = busy_pick two a2 (omega (arith, waiting)) in
    let left : waits (step two Tick).core 3 ≡ 0 = omega (arith, waiting, rw busy at (tick_waits two a2)) in
    record {
      picked = idle.0;
      sent = busy;
      alone = ticked two a2;
      has = record { held = tick_level two a2 0 empty (lit≤ tt); wait = left };
    }

-- n ticks, and where they leave the client
record Taken (core : Core) (calls : History) (n picked : ℕ) : Type 0 where
  calm : T (steady (stretch core calls))
  ticks : ticks (stretch core calls) ≡ n
  picks : picks (stretch core calls) ≡ picked
  alone : Alone (behind core calls)
  has : Has (behind core calls) 512 0

taken_on : (core : Core) (calls : History) (n picked : ℕ)
    → Taken core calls n picked
    → Taken core (calls then Tick then offer then Tick) (suc (suc n)) (suc picked)
unfolding steady ticks picks trace_of dealing_at answer_at after is_setting is_tick
taken_on core calls n picked t =
    let r = round (behind core calls) t.alone t.has in
    let calm : steady (stretch core calls) ≡ true = T_true t.calm in
    record {
      calm = rw calm tt;
      ticks = ap (λ (m : ℕ). suc (suc m)) t.ticks;
      picks = rw (r.picked, r.sent, t.picks);
      alone = r.alone;
      has = r.has;
    }

half : (n : ℕ) → suc (suc n) / 2 ≡ suc (n / 2)
half n = omega (arith, add-div_right n {k = 2} (lit< tt))

-- two ticks bring a token at half the shares
two_more : (level n : ℕ) → tokens level 512 (suc (suc n)) ≡ suc (tokens level 512 n)
unfolding tokens shares
two_more level n =
    let sum : level + suc (suc n) * 512 ≡ level + n * 512 + 1024 = omega arith in
    rw sum (omega (arith, add-div_right (level + n * 512) {k = 1024} (lit< tt)))

-- what is computed
unfoldable computed : Type 0
unfolding everything after answer_at dealing_at trace_of is_setting is_tick steady ticks picks private_active over_indifferent backlog
    demand sure tokens waits ticking joined with_token with_half beginning taking
computed = Unit {0}

-- none but client 3 is indifferent
others_private : (id : ℕ) → (id ≡ 3 → ⊥) → T (is_indifferent (client_of with_token id).kind) → ⊥
unfolding computed
others_private id other t =
    cond_both (λ (c : Client). T (is_indifferent c.kind) → ⊥) (eqb id 2) (λ u. u) (λ u. u) (rw (ne_eqb id 3 other) at t)

token_limits : CoreLimits with_token
unfolding Limits joined with_token
token_limits = behind-limits _ (limits _) _

token_alone : Alone with_token
unfolding computed
token_alone = record {
  limited = token_limits;
  active = tt;
  alone = λ id t. eqb-cases (λ b. id ≡ 3) id 3 (λ e. e) (λ other. absurd (others_private id other t));
  kind = tt;
  rate = refl;
  burst = refl;
}

half_alone : Alone with_half
unfolding with_half after is_setting
half_alone = ticked (step with_token offer).core (alone_on with_token offer tt token_alone)

half_has : Has with_half 512 0
unfolding computed
half_has = record { held = refl; wait = refl }

taken : (n : ℕ) → Taken (beginning n) (taking n) n (n / 2)
unfolding computed
taken zero = record { calm = tt; ticks = refl; picks = refl; alone = half_alone; has = half_has }
taken (suc zero) = record { calm = tt; ticks = refl; picks = refl; alone = half_alone; has = half_has }
taken (suc (suc n)) = rw (half n) (taken_on (beginning n) (taking n) n (n / 2) (taken n))

-- where the stretches begin: at half a token or at a whole one
record Begun (n : ℕ) : Type 0 where
  alone : Alone (beginning n)
  level : ℕ
  has : Has (beginning n) level 0
  rest : tokens level 512 n + n / 2 ≡ n

begun : (n : ℕ) → Begun n
unfolding computed
begun zero = record { alone = half_alone; level = 512; has = half_has; rest = refl }
begun (suc zero) = record { alone = token_alone; level = 1024; has = record { held = refl; wait = refl }; rest = refl }
begun (suc (suc n)) =
    let b = begun n in
    record {
      alone = b.alone;
      level = b.level;
      has = b.has;
      rest = omega (arith, b.rest, half n, two_more b.level n);
    }

claimed : (n : ℕ) → sure (beginning n) n ≡ n / 2
unfolding sure demand backlog waits
claimed n =
    let b = begun n in
    let all = over_alone (beginning n) b.alone in
    let active : private_active (beginning n) ≡ true = T_true b.alone.active in
    rw active
    (omega (
      arith,
      all (waits (beginning n)),
      all (λ id. bought (client_of (beginning n) id) n),
      b.has.wait,
      b.rest,
      ap (λ (level : ℕ). tokens level (client_of (beginning n) 3).rate n) b.has.held,
      ap (λ (rate : ℕ). tokens b.level rate n) b.alone.rate,
    ))

pub guarantee_best : GuaranteeBest
unfolding GuaranteeBest
guarantee_best n =
    let t = taken n in
    record {
      limited = (begun n).alone.limited;
      active = (begun n).alone.active;
      calm = t.calm;
      ticked = t.ticks;
      claimed = claimed n;
      got = t.picks;
    }
