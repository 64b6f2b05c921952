-- `arguments::numbers` meets its contract: what is read next joins the numbers before it. Assumes nothing.
use Rattle.std.proofs.Common.{ℕ, ◌+◌, ◌<◌, ◌≡◌, List, Option, Some, get_or, set, length, length-set, arith, inl, inr, ◌∙◌, subst}
use Rattle.std.proofs.lemmas.Bool.{cases_lt}
use Rattle.std.proofs.lemmas.List.{get_or-set_other}
use Rattle.std.proofs.lemmas.Grind.{get_or-set_at}
use Rattle.arguments.proofs.numbers.Goals as goal

set_more : (gives : ℕ → Option ℕ → Type 0) (numbers : List ℕ) (k x : ℕ)
    → k < length numbers
    → ((i : ℕ) → i < k → gives i (Some (get_or numbers i 0)))
    → gives k (Some x)
    → (i : ℕ) → i < k + 1 → gives i (Some (get_or (set numbers k x) i 0))
set_more gives numbers k x inside before here i low =
    elim (cases_lt i k) [
      | inl less ↦ rw (get_or-set_other numbers k i x 0 (λ same. absurd (omega arith))) (before i less)
      | inr past ↦
          let same : i ≡ k = omega arith in
          rw (get_or-set_at numbers k i x 0 same inside, same) here
    ]

pub loop-i-preserved : goal.loop-i-preserved
loop-i-preserved g c =
    let before = c.loop-i.invariant in (
      length-set c.loop-i.numbers c.loop-i.i _ ∙ before.0,
      set_more (λ i n. g.F.Fn.post c.args.number (i + 1, tt) n) _ _ _ (omega (arith, before.0)) before.1
          (subst (λ n. g.F.Fn.post c.args.number (c.loop-i.i + 1, tt) n) c.in_ok-numbers.was c.number.ensures),
    )
