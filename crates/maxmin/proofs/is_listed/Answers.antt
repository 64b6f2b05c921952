-- A turn through the list, and its end.
use Rattle.std.proofs.Common.{sym, ap, ◌∙◌, ℕ, length, arith}
use Rattle.std.proofs.Math.Logic.{⊎_elim}
use Rattle.definitions.specs.Sizes.{ids}
use Rattle.maxmin.proofs.DemandWalk.{entry_low, listed_turn, listed_end, listed_unequal}
use Rattle.maxmin.proofs.is_listed.Goals as goal

pub returns-then-listed-demands : goal.returns-then-listed-demands
returns-then-listed-demands c = sym (listed_unequal _ _ 0 c.if-listed-demands.true)

pub returns-then-not-is_entry : goal.returns-then-not-is_entry
returns-then-not-is_entry c =
    let s = c.in-Some.ensures.steps in
    sym (c.loop-id.invariant.2 ∙ listed_turn _ _ _ _ _ s.0 s.1 ∙ rw (← c.if-not-is_entry.ensures))

pub overflow_add-lowest : goal.overflow_add-lowest
unfolding ids
overflow_add-lowest c = omega (arith, entry_low _ _ _ (sym c.if-not-is_entry.ensures))

pub loop-id-preserved : goal.loop-id-preserved
loop-id-preserved c =
    let s = c.in-Some.ensures.steps in (
      (tt, tt),
      tt,
      c.loop-id.invariant.2 ∙ listed_turn _ _ _ _ _ s.0 s.1 ∙ rw (← c.if-not-is_entry.ensures),
      omega (arith, c.loop-id.invariant.3, ap (length {A = ℕ}) s.0, ap (length {A = ℕ}) s.1),
    )

pub returns : goal.returns
returns c =
    let same = c.loop-id.invariant.3 in
    sym (c.loop-id.invariant.2 ∙ ⊎_elim (λ p. listed_end c.loop-id.lowest _ _ same p.1.0) (λ p. listed_end c.loop-id.lowest _ _ same (same ∙ p.1.0)) c.in-None.ensures.steps)
