-- How a run goes on, whatever it is that one call does to it: so many calls one after the other, and what the code keeps of them.
-- P is the code's progress and R what progress and tables stand for.
use Rattle.std.specs.Prelude.{◌≡◌, ℕ, zero, suc}
use Rattle.tables.specs.declared.Control.{Control}
use Rattle.tables.specs.declared.Tables.{Tables}
use Rattle.tables.specs.Invariant.{Valid}

-- one call more, so often
unfoldable pub repeated : {R : Type 0} → (R → R) → ℕ → R → R
repeated next zero run = run
repeated next (suc n) run = next (repeated next n run)

module _ {P R : Type 0} (control : P → Control) (meaning : P → Tables → R) where
  -- before the first call of a run, whatever the tables hold
  pub record BeginsAs (first : R) (p : P) : Type 0 where
    pub run : (t : Tables) → meaning p t ≡ first
    pub valid : (t : Tables) → Valid (control p) t

  -- so many calls on progress p and tables t leave q and u
  pub record Advances (next : R → R) (calls : ℕ) (p : P) (t : Tables) (q : P) (u : Tables) : Type 0 where
    pub run : meaning q u ≡ repeated next calls (meaning p t)
    pub valid : Valid (control q) u
