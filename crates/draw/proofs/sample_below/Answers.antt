-- `draw::sample_below` meets its contract. Assumes nothing.
use Prim.Native.Nat.{ℕ, suc, ◌+◌, ◌-◌, ◌≤◌}
use native.Mathlib.Omega.{arith}
use native.Mathlib.Numerals.{add-one}
use mathlib.Core.Path.{◌≡◌, refl, sym, ap, ◌∙◌}
use mathlib.Core.Bool.{Bool, true, false, not, ◌&&◌}
use lib.Dec.{leb, ltb}
use borrow.Author.Tests.{leb-true, le-leb, not-true}
use Rattle.definitions.specs.Sizes.{throws}
use Rattle.definitions.specs.Generator.{stepped}
use Rattle.definitions.specs.Sample.{even_span, counted, sample_from, sample}
use Rattle.definitions.proofs.Laws.Tests.{true-false, and_both, lt_cases}
use Rattle.definitions.proofs.Sample.{sample_from-counted, sample_from_last, sample_from_thrown}
use Rattle.draw.proofs.sample_below.Goals as goal

-- what the test says of the value that is next: it is thrown away, or the sample is taken from it
module _ (total steps value : ℕ) (low : steps ≤ suc throws) {test : Bool}
    (asked : test ≡ leb steps throws && not (ltb value (even_span total))) where
  left : test ≡ true → steps ≤ throws
  left e = leb-true steps throws (and_both (leb steps throws) _ (sym asked ∙ e)).0

  thrown : test ≡ true
      → sample_from total (suc throws - steps) steps value
      ≡ sample_from total (suc throws - (steps + 1)) (steps + 1) (stepped value)
  thrown e =
      let more : suc throws - steps ≡ suc (suc throws - (steps + 1)) = omega (arith, left e) in
      let high = (and_both (leb steps throws) _ (sym asked ∙ e)).1 in
      rw (more, add-one steps) (sample_from_thrown total steps value _ (not-true _ high))

  taken : test ≡ false → sample_from total (suc throws - steps) steps value ≡ counted total steps value
  taken rest = go (ltb value (even_span total)) refl
    where
      go : (b : Bool) → ltb value (even_span total) ≡ b
          → sample_from total (suc throws - steps) steps value ≡ counted total steps value
      go true e = sample_from-counted total steps value (suc throws - steps) e
      go false e = lt_cases throws steps
          (λ last. let none : suc throws - steps ≡ 0 = omega arith in rw none (sample_from_last total steps value))
          (λ more. true-false (rw (le-leb steps throws more, e) at asked) rest)

pub overflow_add-steps : goal.overflow_add-steps
unfolding throws
overflow_add-steps c = omega (arith, c.loop-next.invariant)

pub loop-next-preserved : goal.loop-next-preserved
loop-next-preserved c =
    let low = c.loop-next.invariant.2 in
    let more = left _ _ _ low c.is_thrown.ensures c.loop-next-test.true in (
      rw c.step-next-in-loop-next.ensures
          (sym (thrown _ _ _ low c.is_thrown.ensures c.loop-next-test.true) ∙ c.loop-next.invariant.0),
      omega arith,
      omega (arith, more),
    )

pub returns : goal.returns
unfolding sample
returns c =
    let given : sample c.args.total c.args.generator.value ≡ counted c.args.total c.loop-next.steps c.loop-next.next.value =
    ap (sample_from c.args.total throws 1) (sym c.step-next.ensures) ∙ sym c.loop-next.invariant.0
    ∙ taken _ _ _ c.loop-next.invariant.2 c.is_thrown.ensures c.loop-next-test.false in
    rw given (record { target = c.remainder.ensures; sum = refl; generator = refl; steps = refl })
