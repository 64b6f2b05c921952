-- What the limits say of the numbers that are read and written for one id, so that no index is out of range and no sum wraps.
-- By the limits of each kind. Assumes nothing.
use Prim.Native.Nat.{ℕ, ◌≤◌, ◌<◌}
use mathlib.Core.Path.{◌≡◌, sym, subst}
use mathlib.Core.Bool.{true}
use native.Mathlib.Omega.{arith}
use Rattle.definitions.specs.Sizes.{ids, shares, burst_limit}
use Rattle.definitions.specs.Client.{kind_of, is_active, joining}
use Rattle.definitions.specs.Checks.{term_checks}
use Rattle.definitions.proofs.Laws.Checked.{Passed}
use Rattle.definitions.proofs.Laws.Rates.{held, held_active}
use Rattle.definitions.proofs.Limits.Client.{rate_high_lem, burst_high_lem, terms_passed}
use Rattle.tables.specs.declared.Control.{Control}
use Rattle.tables.specs.declared.Tables.{Tables}
use Rattle.tables.specs.Controls.{with_waiting}
use Rattle.tables.specs.Meaning.{state_of}
use Rattle.tables.specs.Invariant.{SoundCore}
use Rattle.tables.proofs.Touch.{count_high}
use Rattle.settings.specs.Writes.{Room, Ready}
use Rattle.settings.proofs.HeldRates.{limits_own, rate_held}

-- the terms of a client that passed their checks
pub record Fitting (kind rate burst : ℕ) : Type 0 where
  pub active : is_active (kind_of kind) ≡ true
  pub rate_high : rate ≤ shares
  pub burst_high : burst ≤ burst_limit

pub terms_fit : (threshold others kind rate burst : ℕ)
    → Passed (term_checks threshold others kind rate burst)
    → Fitting kind rate burst
unfolding term_checks
terms_fit threshold others kind rate burst p =
    let terms = terms_passed threshold others kind rate burst p in
    record {
      active = p.0;
      rate_high = rate_high_lem (kind_of kind) rate terms.rates;
      burst_high = burst_high_lem (kind_of kind) burst terms.bursts;
    }

-- such a client holds its rate of the threshold
pub fitting_holds : (kind rate burst : ℕ) → Fitting kind rate burst → held (joining kind rate burst) ≡ rate
unfolding joining
fitting_holds kind rate burst f = held_active (joining kind rate burst) f.active

module _ (c : Control) (t : Tables) (sound : SoundCore c t) (id : ℕ) (below : id < ids) where
  rates_high_lem : c.rates ≤ shares
  unfolding state_of
  rates_high_lem = omega (arith, sound.shape.rates_held, sound.limits.rates_high, sound.limits.threshold_high)

  -- before and after what the id had to send is emptied
  pub room : (b : Control) → b ≡ with_waiting c b.waiting → (rate : ℕ) → rate ≤ shares → Room b t.terms id rate
  unfolding shares
  room b rest rate h =
      subst (λ (x : Control). Room x t.terms id rate) (sym rest)
      (below, rate_held c t sound.shape id below (limits_own c t sound id below), omega (arith, rates_high_lem))

  pub ready : Ready t.stocks t.links id
  ready = (sound.shape.sound, below, sound.shape.heads id below, count_high c t sound id below)
