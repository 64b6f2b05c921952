-- The rates that the active clients hold together, after one client is put in place. Assumes nothing.
use Prim.Native.Nat.{ℕ, ◌+◌, ◌≤◌, ◌<◌}
use mathlib.Core.Path.{◌≡◌, ap, ◌∙◌}
use mathlib.Core.Bool.{true, cond}
use native.Mathlib.Omega.{arith}
use Rattle.definitions.specs.Sizes.{ids}
use Rattle.definitions.specs.Client.{Client, is_active}
use Rattle.definitions.specs.State.{put}
use Rattle.definitions.specs.Checks.{active_rate, rates}
use Rattle.definitions.proofs.Laws.Tests.{cond_both}
use Rattle.definitions.proofs.Laws.Clients.{put_same, put_other}
use Rattle.definitions.proofs.Laws.Sums.{sum_below_other}

-- the rate that a client holds of the threshold
unfoldable pub held : Client → ℕ
held c = cond (is_active c.kind) c.rate 0

pub held_high : (c : Client) → held c ≤ c.rate
unfolding held
held_high c = cond_both (λ (n : ℕ). n ≤ c.rate) (is_active c.kind) (omega arith) (omega arith)

pub held_active : (c : Client) → is_active c.kind ≡ true → held c ≡ c.rate
unfolding held
held_active c e = rw e

-- putting a client in place trades the rate that its id held for its own
pub rates-put : (clients : ℕ → Client) (id : ℕ) (c : Client)
    → id < ids
    → rates (put clients id c) + held (clients id) ≡ rates clients + held c
unfolding rates active_rate held
rates-put clients id c below =
    sum_below_other ids id (active_rate (put clients id c)) (active_rate clients) below
    (λ j other. ap held (put_other clients id c j other))
    ∙ ap (λ (d : Client). rates clients + held d) (put_same clients id c)
