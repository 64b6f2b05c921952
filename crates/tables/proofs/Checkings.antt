-- Which checks each call goes through, and what it makes of a state where they are passed: the definitions, read off.
-- Assumes nothing.
use Prim.Native.Nat.{ℕ}
use mathlib.Core.Path.{refl}
use Rattle.definitions.specs.declared.Packet.{Packet}
use Rattle.definitions.specs.Event.{Join, Change, Leave, Load, Arrive}
use Rattle.definitions.specs.Client.{nobody, joining, changed, charged}
use Rattle.definitions.specs.Stock.{bare, loaded}
use Rattle.definitions.specs.State.{updated, put, stocked, emptied}
use Rattle.definitions.specs.Checks.{term_checks, join_checks, active_checks, change_checks, leave_checks, load_checks, arrive_checks}
use Rattle.definitions.specs.Calls.{on_join, side_after_change, on_change, on_leave, on_load, side_after_arrival, on_arrive}
use Rattle.definitions.specs.Core.{step}
use Rattle.tables.proofs.Promises.{Checking}

module _ (id : ℕ) where
  unfoldable pub joins : (kind rate burst : ℕ) → Checking (Join id kind rate burst)
  unfolding step on_join join_checks term_checks
  joins kind rate burst = record {
    checks = λ s. join_checks s id kind rate burst;
    made = λ s. updated s (put s.clients id (joining kind rate burst)) (stocked s.side id bare);
    shut = refl;
    runs = λ s. refl;
    counted = λ s. tt;
  }

  unfoldable pub changes : (kind rate burst : ℕ) → Checking (Change id kind rate burst)
  unfolding step on_change change_checks active_checks term_checks
  changes kind rate burst = record {
    checks = λ s. change_checks s id kind rate burst;
    made = λ s. updated s (put s.clients id (changed (s.clients id) kind rate burst)) (side_after_change s id kind);
    shut = refl;
    runs = λ s. refl;
    counted = λ s. tt;
  }

  unfoldable pub leaves : Checking (Leave id)
  unfolding step on_leave leave_checks active_checks
  leaves = record {
    checks = λ s. leave_checks s id;
    made = λ s. updated s (put s.clients id nobody) (emptied s.side id);
    shut = refl;
    runs = λ s. refl;
    counted = λ s. tt;
  }

  unfoldable pub loads : (dummies : ℕ) → Checking (Load id dummies)
  unfolding step on_load load_checks active_checks
  loads dummies = record {
    checks = λ s. load_checks s id dummies;
    made = λ s. updated s s.clients (stocked s.side id (loaded (s.side.stocks id) dummies));
    shut = refl;
    runs = λ s. refl;
    counted = λ s. tt;
  }

  unfoldable pub arrives : (p : Packet) → Checking (Arrive id p)
  unfolding step on_arrive arrive_checks active_checks
  arrives p = record {
    checks = λ s. arrive_checks s id p;
    made = λ s. updated s (put s.clients id (charged (s.clients id))) (side_after_arrival s id p);
    shut = refl;
    runs = λ s. refl;
    counted = λ s. tt;
  }
