-- The rates held together when an id's rate is traded for another: what an id holds of them is its rate, and an absent id's
-- is 0 within the limits. Assumes nothing.
use Prim.Native.Nat.{ℕ, ◌-◌, ◌≤◌, ◌<◌}
use mathlib.Core.Path.{◌≡◌, refl, sym, ap, ap₂, subst, ◌∙◌}
use mathlib.Core.Bool.{cond}
use native.Mathlib.Omega.{arith}
use Rattle.definitions.specs.Sizes.{ids}
use Rattle.definitions.specs.Client.{Kind, absent, indifferent, private, is_active, Client}
use Rattle.definitions.specs.State.{put}
use Rattle.definitions.specs.Checks.{active_rate, rates}
use Rattle.definitions.specs.Limits.{LimitsBy, ClientLimits}
use Rattle.definitions.proofs.Laws.Sums.{sum_below_part}
use Rattle.definitions.proofs.Laws.Rates.{held, rates-put}
use Rattle.tables.specs.declared.Control.{Control}
use Rattle.tables.specs.declared.Tables.{Tables}
use Rattle.tables.specs.Tables.{rate_at}
use Rattle.tables.specs.Meaning.{client_at, clients_of, state_of}
use Rattle.tables.specs.Invariant.{Shape, SoundCore}
use Rattle.tables.proofs.Touch.{client_own}
use Rattle.settings.specs.Writes.{rates_after}

held-limits : (x : Client) → ClientLimits x → held x ≡ x.rate
unfolding held
held-limits x = go x.kind
  where
    go : (k : Kind) → LimitsBy k x → cond (is_active k) x.rate 0 ≡ x.rate
    go absent l = sym (ap (λ (y : Client). y.rate) l)
    go indifferent l = refl
    go private l = refl

pub limits_own : (c : Control) (t : Tables) → SoundCore c t → (id : ℕ) → id < ids → ClientLimits (client_at c t id)
unfolding state_of
limits_own c t sound id below =
    subst ClientLimits (client_own c t sound.shape id below) (sound.limits.client_limits id)

-- what all others hold of them
pub others-held : (c : Control) (t : Tables) → Shape c t → (id : ℕ) → id < ids
    → c.rates - rate_at t.terms id ≡ rates (clients_of c t) - (clients_of c t id).rate
unfolding client_at
others-held c t shape id below =
    ap₂ (λ (m n : ℕ). m - n) shape.rates_held (ap (λ (x : Client). x.rate) (sym (client_own c t shape id below)))

module _ (c : Control) (t : Tables) (shape : Shape c t) (id : ℕ) (below : id < ids)
    (limits : ClientLimits (client_at c t id)) where
  held_rate : held (clients_of c t id) ≡ rate_at t.terms id
  unfolding client_at
  held_rate = ap held (client_own c t shape id below) ∙ held-limits (client_at c t id) limits

  -- no rate is more than all together
  pub rate_held : rate_at t.terms id ≤ c.rates
  unfolding rates active_rate held
  rate_held = omega (arith, shape.rates_held, held_rate, sum_below_part ids id (active_rate (clients_of c t)) below)

  pub rates_traded : (rate : ℕ) (x : Client) → held x ≡ rate → rates_after c t.terms id rate ≡ rates (put (clients_of c t) id x)
  rates_traded rate x e =
      omega (arith, shape.rates_held, held_rate, rate_held, rates-put (clients_of c t) id x below)
