-- It is the definitions' draw, with the total as the sum of the weights.
use Rattle.std.proofs.Common.{ℕ, refl, ap, subst, ◌∙◌}
use Rattle.definitions.specs.Sample.{Sample, sample}
use Rattle.definitions.specs.Draw.{drawn_at, draw}
use Rattle.draw.specs.Samples.{SameSample}
use Rattle.slot.proofs.draw_among.Goals as goal

pub returns : goal.returns
unfolding draw
returns c =
    let given = c.sample_below-sample.ensures in
    let same = ap (λ (sum : ℕ). sample sum c.args.generator.value) c.requires in
    record {
      rule = refl;
      id = c.pick-id.ensures ∙ ap (drawn_at _) (given.target ∙ ap (λ (s : Sample). s.target) same);
      sample = subst (SameSample _) same given;
    }
