-- A greedy client gets exactly what it bought. At every tick, and at the end, its level is below a token. With a burst of 2 there
-- is then room for a rate, so no refill spills anything; and what came in and was not taken is less than a packet costs. The
-- level is that of Bound. Assumes nothing.
use Prim.Native.Nat.{ℕ, ◌+◌, ◌≤◌, ◌<◌}
use mathlib.Core.Path.{◌≡◌, refl, sym}
use mathlib.Core.Bool.{Bool, true, false, cond, not, ◌||◌}
use native.Mathlib.Nat.{mul-le-mul_right, div-eq_of_lt-le}
use native.Mathlib.Omega.{arith}
use lib.Dec.{T}
use Rattle.definitions.specs.Sizes.{shares}
use Rattle.definitions.specs.Client.{Client}
use Rattle.definitions.specs.State.{Core}
use Rattle.definitions.specs.History.{History, start, ◌then◌, after, client_of, scheduler}
use Rattle.definitions.specs.Sameness.{is_tick}
use Rattle.definitions.specs.Limits.{Limits}
use Rattle.definitions.specs.Stretch.{stretch, behind, ticks, undisturbed, acceptances, tokens, bought}
use Rattle.definitions.specs.Bound.{spill, spilt, LevelAfter}
use Rattle.definitions.specs.Greedy.{refused_since, refused_at_ticks, Greedy, GreedyExact}
use Rattle.definitions.proofs.Laws.Tests.{T_and}
use Rattle.definitions.proofs.Limits.{limits}
use Rattle.definitions.proofs.Limits.Client.{indifferent_limits}
use Rattle.definitions.proofs.Bound.{calm_before, stretch-moved, level-after}
use Rattle.definitions.proofs.Stretches.Offering.{ended_before, offering_roomy, offering}

-- below a token, and with a burst of 2, there is room for a rate
spill-none : (c : Client) → c.level < shares → c.rate ≤ shares → 2 ≤ c.burst → spill c ≡ 0
unfolding spill
spill-none c low rate burst = omega (arith, mul-le-mul_right shares burst)

module _ (core : Core) (id : ℕ) (calls : History) (within : (client_of core id).rate ≤ shares)
    (greedy : Greedy id (client_of core id) (stretch core calls)) where
  -- so nothing is spilt
  unspilt : (h : History)
      → T (undisturbed id (stretch core h))
      → T (refused_at_ticks id 15 (stretch core h))
      → spilt id core h ≡ 0
  unfolding spilt after
  unspilt start calm ended = refl
  unspilt (h then c) calm ended =
      let calms = calm_before core id h c calm in
      let ends = ended_before core id 15 h c ended in
      let moved = stretch-moved core id greedy.indifferently h calms.0 in
      let o = offering core id greedy.indifferently h calms.0 ends.0 in
      let rate : (client_of (behind core h) id).rate ≤ shares = rw moved.rate within in
      let burst : 2 ≤ (client_of (behind core h) id).burst = rw moved.burst greedy.burst_two in
      go (is_tick c) (unspilt h calms.0 ends.0) ends.1
      (λ since. spill-none (client_of (behind core h) id) (o.drained since).1 rate burst)
    where
      go : (b : Bool)
          → spilt id core h ≡ 0
          → T (not b || refused_since id 15 (stretch core h))
          → (T (refused_since id 15 (stretch core h)) → spill (client_of (behind core h) id) ≡ 0)
          → spilt id core h + cond b (spill (client_of (behind core h) id)) 0 ≡ 0
      go true e ended none = omega (arith, none ended)
      go false e ended none = omega arith

  exact : acceptances id (stretch core calls) ≡ bought (client_of core id) (ticks (stretch core calls))
  unfolding tokens LevelAfter
  exact =
      let ends = T_and (refused_at_ticks id 15 (stretch core calls)) (refused_since id 15 (stretch core calls)) greedy.offers in
      let o = offering core id greedy.indifferently calls greedy.calm ends.0 in
      let level = level-after core id calls greedy.indifferently greedy.calm in
      let none = unspilt calls greedy.calm ends.0 in
      let low = (o.drained ends.1).1 in
      sym (div-eq_of_lt-le shares (omega (arith, level, none, low)) (omega (arith, level, none, low)))

pub greedy_exact : GreedyExact
unfolding Limits
greedy_exact = record {
  anywhere = exact;
  reached = λ h id calls greedy.
      exact (after scheduler h) id calls
      (indifferent_limits (after scheduler h) id (limits h) greedy.indifferently).active.rate_high greedy;
  roomy = λ core id calls indifferently calm offers.
      let ends = T_and (refused_at_ticks id 15 (stretch core calls)) (refused_since id 15 (stretch core calls)) offers in
      offering_roomy core id indifferently (offering core id indifferently calls calm ends.0) ends.1;
}
