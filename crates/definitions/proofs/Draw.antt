-- The law of the draw: where the ids in it weigh anything, the id drawn is one of them, and the target lies in its share.
-- It holds since the running sum grows from 0 past the target, and the search stops at the first id at which it has.
use Prim.Native.Nat.{ℕ, zero, suc, ◌+◌, ◌≤◌, ◌<◌}
use mathlib.Core.Path.{◌≡◌, refl, subst}
use mathlib.Core.Bool.{Bool, true, false, cond}
use native.Mathlib.Omega.{arith}
use lib.Dec.{ltb}
use borrow.Author.Tests.{ltb-true, ltb-false}
use Rattle.definitions.specs.Sizes.{ids}
use Rattle.definitions.specs.Draw.{sum_below, first_from, drawn_at, draw}
use Rattle.definitions.proofs.Sample.{sample_below}
use Rattle.definitions.proofs.Laws.Sums.{sum_below_part}

-- that an id below n is the one at which the running sum passes the target
pub record Drawing (n : ℕ) (weight : ℕ → ℕ) (target id : ℕ) : Type 0 where
  pub below : id < n
  pub reached : sum_below id weight ≤ target
  pub passed : target < sum_below (suc id) weight

module _ (weight : ℕ → ℕ) (target : ℕ) where
  -- a search over the ids from `id` up to `n`, when the running sum passes the target between the two
  pub first_from_draws : (id left n : ℕ)
      → id + left ≡ n
      → sum_below id weight ≤ target
      → target < sum_below n weight
      → Drawing n weight target (first_from id left (λ i. ltb target (sum_below (suc i) weight)))
  unfolding first_from
  first_from_draws id zero n at low high =
      let same : n ≡ id = omega arith in
      absurd (omega (arith, subst (λ (k : ℕ). target < sum_below k weight) same high))
  first_from_draws id (suc left) n at low high =
      go (ltb target (sum_below (suc id) weight)) refl (λ next. first_from_draws (suc id) left n (omega arith) next high)
    where
      test : ℕ → Bool
      test i = ltb target (sum_below (suc i) weight)

      go : (b : Bool)
          → ltb target (sum_below (suc id) weight) ≡ b
          → (sum_below (suc id) weight ≤ target → Drawing n weight target (first_from (suc id) left test))
          → Drawing n weight target (elim b [ true ↦ id | false ↦ first_from (suc id) left test ])
      go true e rest = record { below = omega arith; reached = low; passed = ltb-true target (sum_below (suc id) weight) e }
      go false e rest = rest (ltb-false target (sum_below (suc id) weight) e)

  pub drawn_at_draws : target < sum_below ids weight → Drawing ids weight target (drawn_at weight target)
  unfolding drawn_at sum_below
  drawn_at_draws high = first_from_draws 0 ids ids (omega arith) (omega arith) high

-- the id drawn weighs something: an id that is not in the draw is never drawn
pub drawing_weighs : {n : ℕ} {weight : ℕ → ℕ} {target id : ℕ} → Drawing n weight target id → 0 < weight id
unfolding sum_below
drawing_weighs d = omega arith

-- the target of a sample is below the sum
pub draw_draws : (generator : ℕ) (weight : ℕ → ℕ)
    → 0 < sum_below ids weight
    → Drawing ids weight (draw generator weight).sample.target (draw generator weight).id
unfolding draw
draw_draws generator weight some = drawn_at_draws weight _ (sample_below (sum_below ids weight) generator some)

-- what passes a test and has a rate weighs its rate, and everything else nothing
unfoldable pub weighing : (ℕ → Bool) → (ℕ → ℕ) → ℕ → ℕ
weighing test rate id = cond (test id) (rate id) 0

-- where one of the ids that pass a test has a rate, they weigh something together
pub weighing_some : (test : ℕ → Bool) (rate : ℕ → ℕ) (id : ℕ) → id < ids → test id ≡ true → 1 ≤ rate id
    → 0 < sum_below ids (weighing test rate)
unfolding weighing
weighing_some test rate id below passes some =
    let own : weighing test rate id ≡ rate id = rw passes in
    omega (arith, sum_below_part ids id (weighing test rate) below)

-- a draw among the ids that pass a test, where one of them has a rate, draws one of them
pub draw-among : (test : ℕ → Bool) (rate : ℕ → ℕ) (generator id : ℕ)
    → id < ids
    → test id ≡ true
    → 1 ≤ rate id
    → ((draw generator (weighing test rate)).id < ids) × (test (draw generator (weighing test rate)).id ≡ true)
unfolding weighing
draw-among test rate generator id below passes some = (d.below, go (test drawn) refl (drawing_weighs d))
  where
    weight : ℕ → ℕ
    weight = weighing test rate

    drawn : ℕ
    drawn = (draw generator weight).id

    d : Drawing ids weight (draw generator weight).sample.target drawn
    d = draw_draws generator weight (weighing_some test rate id below passes some)

    go : (b : Bool) → test drawn ≡ b → 0 < cond b (rate drawn) 0 → test drawn ≡ true
    go true e h = e
    go false e h = absurd (omega arith)
