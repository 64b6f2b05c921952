-- Even odds hold: of every run of `sum` numbers one gives the target, and the span is made of whole runs.
-- By induction on the numbers of a run, and on the runs. Assumes nothing.
use Prim.Native.Nat.{ℕ, zero, suc, ◌+◌, ◌*◌, ◌/◌, ◌^◌, ◌≤◌, ◌<◌}
use mathlib.Core.Path.{◌≡◌, ap, ◌∙◌}
use mathlib.Core.Bool.{cond}
use native.Mathlib.Nat.{add-zero, add-suc, zero-mul, suc-mul, mod-eq_of_lt, mul-add-mod_self_right}
use native.Mathlib.Omega.{arith}
use lib.Dec.{eqb, ltb}
use borrow.Author.Tests.{lt-ltb, le-ltb}
use Rattle.definitions.specs.Sample.{even_span}
use Rattle.definitions.specs.Draw.{sum_below}
use Rattle.definitions.specs.Evenness.{giving, EvenOdds}
use Rattle.definitions.proofs.Laws.Tests.{lt_cases, eqb-cases}

-- a number at which the target may have been passed
passing : (target n : ℕ) → cond (ltb target n) 1 0 + cond (eqb n target) 1 0 ≡ cond (ltb target (suc n)) 1 0
passing target n =
    eqb-cases (λ same. cond (ltb target n) 1 0 + cond same 1 0 ≡ cond (ltb target (suc n)) 1 0) n target
    (λ e. rw (le-ltb target n (omega (arith, e)), lt-ltb target (suc n) (omega (arith, e))))
    (λ ne. lt_cases target n (λ past. rw (lt-ltb target n past, lt-ltb target (suc n) (omega arith)))
    (λ before. lt_cases n target (λ early. rw (le-ltb target n before, le-ltb target (suc n) early))
    (λ late. absurd (ne (omega arith)))))

module _ (sum target : ℕ) where
  -- the next number of a run
  next : (run n : ℕ) → n < sum
      → giving sum target (suc (run * sum + n)) ≡ giving sum target (run * sum + n) + cond (eqb n target) 1 0
  unfolding giving sum_below
  next run n below =
      ap (λ (r : ℕ). giving sum target (run * sum + n) + cond (eqb r target) 1 0)
      (mul-add-mod_self_right run sum n ∙ mod-eq_of_lt below)

  -- the first numbers of a run: the target is among them, or not yet
  part : (run n : ℕ) → n ≤ sum
      → giving sum target (run * sum + n) ≡ giving sum target (run * sum) + cond (ltb target n) 1 0
  part run zero low = rw (add-zero (run * sum), le-ltb target 0 (omega arith), add-zero)
  part run (suc n) low =
      rw (add-suc (run * sum) n)
      (omega (arith, next run n (omega arith), part run n (omega arith), passing target n))

  -- whole runs: each has the target once
  runs : target < sum → (n : ℕ) → giving sum target (n * sum) ≡ n
  unfolding giving sum_below
  runs within zero = rw zero-mul
  runs within (suc n) =
      rw (suc-mul n sum, part n sum (omega arith), lt-ltb target sum within) (omega (arith, runs within n))

pub even_odds : EvenOdds
unfolding even_span
even_odds sum target within = runs sum target within (2 ^ 32 / sum)
