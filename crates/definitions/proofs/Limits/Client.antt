-- A client is within its limits after each thing that is done to it, whatever its kind.
-- The limits are taken apart by field, each field's by kind: so what changes one field leaves the proofs of the others alone.
use Prim.Native.Nat.{ℕ, ◌*◌, ◌≤◌}
use mathlib.Core.Path.{◌≡◌, refl, sym, ap, subst}
use mathlib.Core.Bool.{Bool, true, false, cond, false≢true}
use native.Mathlib.Omega.{arith}
use lib.Dec.{T, eqb}
use borrow.Author.Tests.{eqb-true}
use Rattle.definitions.specs.Sizes.{shares, burst_limit, indifferent_kind, private_kind}
use Rattle.definitions.specs.Client.{Kind, absent, indifferent, private, kind_of, is_active, is_indifferent, Client, nobody, with_level, joining, retuned, charged, refilled}
use Rattle.definitions.specs.State.{Core, unopened, running}
use Rattle.definitions.specs.Checks.{within, burst_fits, term_checks}
use Rattle.definitions.specs.History.{client_of}
use Rattle.definitions.specs.Limits.{IndifferentLimits, LimitsBy, ClientLimits, CoreLimits}
use Rattle.definitions.proofs.Laws.Tests.{cond_both, within-true}
use Rattle.definitions.proofs.Laws.Checked.{Passed}

-- what each field is bound to, by kind

abbrev pub RateBy : Kind → ℕ → Type 0
RateBy absent rate = rate ≡ 0
RateBy indifferent rate = (1 ≤ rate) × (rate ≤ shares)
RateBy private rate = (1 ≤ rate) × (rate ≤ shares)

abbrev pub BurstBy : Kind → ℕ → Type 0
BurstBy absent burst = burst ≡ 0
BurstBy indifferent burst = (1 ≤ burst) × (burst ≤ burst_limit)
BurstBy private burst = burst ≡ 0

-- whatever the kind

pub rate_high_lem : (k : Kind) (rate : ℕ) → RateBy k rate → rate ≤ shares
rate_high_lem absent rate e = omega arith
rate_high_lem indifferent rate e = e.1
rate_high_lem private rate e = e.1

pub burst_high_lem : (k : Kind) (burst : ℕ) → BurstBy k burst → burst ≤ burst_limit
burst_high_lem absent burst e = omega arith
burst_high_lem indifferent burst e = e.1
burst_high_lem private burst e = omega arith

pub record Parts (c : Client) : Type 0 where
  pub rates : RateBy c.kind c.rate
  pub bursts : BurstBy c.kind c.burst
  -- a private client's burst of 0 leaves it no level
  pub levels : c.level ≤ c.burst * shares

-- The limits are the limits of the parts.

nobody_parts : Parts nobody
nobody_parts = record { rates = refl; bursts = refl; levels = omega arith }

pub limits_parts : (c : Client) → ClientLimits c → Parts c
limits_parts c limits = go c.kind refl limits
  where
    go : (k : Kind) → c.kind ≡ k → LimitsBy k c → Parts c
    go absent e l = subst Parts (sym l) nobody_parts
    go indifferent e l = record {
      rates = rw e (l.active.rate_low, l.active.rate_high);
      bursts = rw e (l.burst_low, l.burst_high);
      levels = l.level_high;
    }
    go private e l = record {
      rates = rw e (l.active.rate_low, l.active.rate_high);
      bursts = rw e l.burst_none;
      levels = omega (arith, l.level_none);
    }

pub parts_limits : (c : Client) → Parts c → ClientLimits c
parts_limits c p = go c.kind refl p.rates p.bursts
  where
    go : (k : Kind) → c.kind ≡ k → RateBy k c.rate → BurstBy k c.burst → LimitsBy k c
    go absent e r b =
        let none : c.level ≡ 0 = omega (arith, p.levels, ap (λ (n : ℕ). n * shares) b) in
        λ i. record { kind = e i; rate = r i; burst = b i; level = none i }
    go indifferent e r b = record {
      active = record { rate_low = r.0; rate_high = r.1 };
      burst_low = b.0;
      burst_high = b.1;
      level_high = p.levels;
    }
    go private e r b = record {
      active = record { rate_low = r.0; rate_high = r.1 };
      burst_none = b;
      level_none = omega (arith, p.levels, ap (λ (n : ℕ). n * shares) b);
    }

-- What the checks on the terms of a join or a change leave.

pub record Terms (kind : Kind) (rate burst : ℕ) : Type 0 where
  pub rates : RateBy kind rate
  pub bursts : BurstBy kind burst

rate_passed : (k : Kind) (rate : ℕ) → is_active k ≡ true → (1 ≤ rate) × (rate ≤ shares) → RateBy k rate
rate_passed absent rate e fits = absurd (false≢true e)
rate_passed indifferent rate e fits = fits
rate_passed private rate e fits = fits

burst_passed : (burst : ℕ) (a b : Bool)
    → is_active (cond a indifferent (cond b private absent)) ≡ true
    → cond a (within 1 burst_limit burst) (eqb burst 0) ≡ true
    → BurstBy (cond a indifferent (cond b private absent)) burst
burst_passed burst true b e f = within-true 1 burst_limit burst f
burst_passed burst false true e f = eqb-true burst 0 f
burst_passed burst false false e f = absurd (false≢true e)

pub terms_passed : (threshold others kind rate burst : ℕ)
    → Passed (term_checks threshold others kind rate burst)
    → Terms (kind_of kind) rate burst
unfolding term_checks kind_of burst_fits
terms_passed threshold others kind rate burst h = record {
  rates = rate_passed (kind_of kind) rate h.0 (within-true 1 shares rate h.1.0);
  bursts = burst_passed burst (eqb kind indifferent_kind) (eqb kind private_kind) h.0 h.1.1.0;
}

-- The parts after each thing that is done to a client.

pub joining_parts : (kind rate burst : ℕ) → Terms (kind_of kind) rate burst → Parts (joining kind rate burst)
unfolding joining
joining_parts kind rate burst terms = record { rates = terms.rates; bursts = terms.bursts; levels = omega arith }

module _ (c : Client) (parts : Parts c) where
  pub retuned_parts : (rate burst : ℕ) → Terms c.kind rate burst → Parts (retuned c rate burst)
  unfolding retuned
  retuned_parts rate burst terms = record { rates = terms.rates; bursts = terms.bursts; levels = omega arith }

  -- a level that stays within the burst
  with_level_lem : (level : ℕ) → level ≤ c.burst * shares → Parts (with_level c level)
  with_level_lem level high = record { rates = parts.rates; bursts = parts.bursts; levels = high }

  pub charged_parts : Parts (charged c)
  unfolding charged
  charged_parts =
      with_level_lem _ (cond_both (λ (n : ℕ). n ≤ c.burst * shares) (is_indifferent c.kind)
      (omega (arith, parts.levels)) parts.levels)

  pub refilled_parts : Parts (refilled c)
  unfolding refilled
  refilled_parts =
      with_level_lem _ (cond_both (λ (n : ℕ). n ≤ c.burst * shares) (is_indifferent c.kind) (omega arith) parts.levels)

-- an indifferent client of a core within the limits has the limits of its kind
pub indifferent_limits : (core : Core) (id : ℕ)
    → CoreLimits core
    → T (is_indifferent (client_of core id).kind)
    → IndifferentLimits (client_of core id)
unfolding client_of
indifferent_limits unopened id known indifferently = absurd indifferently
indifferent_limits (running s) id known indifferently = go (s.clients id).kind (known.client_limits id) indifferently
  where
    go : (k : Kind) → LimitsBy k (s.clients id) → T (is_indifferent k) → IndifferentLimits (s.clients id)
    go absent l t = absurd t
    go indifferent l t = l
    go private l t = absurd t
