-- The rates held are those of both kinds, so where nobody is indifferent they are those of the private clients.
use Rattle.std.proofs.Common.{ℕ, ap, ◌∙◌, arith}
use Rattle.definitions.specs.Sizes.{ids}
use Rattle.definitions.specs.Draw.{sum_below}
use Rattle.draw.specs.Weights.{weight_at}
use Rattle.draw.proofs.EqualWeights.{weightless}
use Rattle.slot.proofs.private_total.Goals as goal

pub returns-then-control-eq0 : goal.returns-then-control-eq0
returns-then-control-eq0 c =
    let terms = c.args.terms.now in
    let none = ap (λ (word : ℕ). sum_below ids (weight_at word terms)) c.if-control-eq0.true ∙ weightless terms in
    omega (arith, none)
