-- A sample of the code that is one of the definitions stands for that one draw, since every draw takes a step; and that of no draw for
-- none. Assumes nothing.
use Prim.Native.Nat.{ℕ, ◌≤◌}
use mathlib.Core.Path.{ap}
use mathlib.Core.List.{[], ◌∷◌}
use native.Mathlib.Omega.{arith}
use borrow.Author.Tests.{ne_eqb}
use Rattle.definitions.specs.Sample.{Sample}
use Rattle.definitions.specs.Draw.{draw}
use Rattle.definitions.proofs.Sample.{sample_sampled}
use Rattle.generator.specs.declared.Generator.{Generator}
use Rattle.draw.specs.declared.Sample.{Sample as Given}
use Rattle.draw.specs.Samples.{SameSample, draws_told, StandsFor, Undrawn}

pub drawn_stands : (r : Given) {s : Sample} → SameSample r s → 1 ≤ s.steps → StandsFor r (s ∷ [])
drawn_stands r {s} same some = record {
  told =
      rw (ne_eqb r.steps 0 (λ e. omega (arith, same.steps, e, some)))
      (λ i. record { target = same.target i; sum = same.sum i; generator = same.generator i; steps = same.steps i } ∷ []);
  sum = same.sum;
}

pub undrawn-stands : {g : Generator} {r : Given} → Undrawn g r → StandsFor r []
undrawn-stands none = record { told = ap draws_told none; sum = ap (λ (x : Given). x.sum) none }

pub draw_steps : (generator : ℕ) (weight : ℕ → ℕ) → 1 ≤ (draw generator weight).sample.steps
unfolding draw
draw_steps generator weight = (sample_sampled _ generator).steps_low
