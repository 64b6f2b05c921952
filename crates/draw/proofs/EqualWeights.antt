-- Weights that agree draw the same id: the running sums agree, and so does the first id at which they exceed the target. A word
-- without a mark weighs nothing.
-- Assumes nothing.
use Prim.Native.Nat.{ℕ, suc, ◌<◌}
use mathlib.Core.Path.{◌≡◌, ap, ◌∙◌}
use mathlib.Core.List.{List}
use native.Mathlib.Omega.{arith}
use lib.Dec.{ltb}
use Rattle.definitions.specs.Sizes.{ids}
use Rattle.definitions.specs.Sample.{sample}
use Rattle.definitions.specs.Draw.{sum_below, drawn_at, drawn_by, draw}
use Rattle.definitions.proofs.Laws.Sums.{sum_below_same, sum_below-zero}
use Rattle.marks.specs.Marks.{marked_number}
use Rattle.marks.proofs.Bits.{marked-none}
use Rattle.marks.proofs.IdSearch.{first_from_cong}
use Rattle.draw.specs.Weights.{weight_at}

pub drawn_at_cong : (f g : ℕ → ℕ) (target : ℕ) → ((j : ℕ) → j < ids → f j ≡ g j) → drawn_at f target ≡ drawn_at g target
unfolding drawn_at
drawn_at_cong f g target same =
    first_from_cong ids (λ id. ltb target (sum_below (suc id) f)) (λ id. ltb target (sum_below (suc id) g))
    (λ j l. ap (ltb target) (sum_below_same (suc j) f g (λ i h. same i (omega arith))))

-- and so the whole draw: the sums agree, and with them the sample
pub draw_cong : (generator : ℕ) (f g : ℕ → ℕ) → ((j : ℕ) → j < ids → f j ≡ g j) → draw generator f ≡ draw generator g
unfolding draw
draw_cong generator f g same =
    let taken = sample (sum_below ids g) generator in
    ap (λ (sum : ℕ). drawn_by f (sample sum generator)) (sum_below_same ids f g same)
    ∙ ap (λ (id : ℕ). record { sample = taken; id = id }) (drawn_at_cong f g taken.target same)

-- a word without a mark weighs nothing
pub weightless : (terms : List ℕ) → sum_below ids (weight_at 0 terms) ≡ 0
unfolding weight_at marked_number
weightless terms = sum_below-zero ids (weight_at 0 terms) (λ id below. rw (marked-none id))
