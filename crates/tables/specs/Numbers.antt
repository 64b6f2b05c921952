-- The number that a call is refused with: that of the first check that fails, 0 where none does (paper 01, "Numbers").
use Rattle.std.specs.Prelude.{ℕ, cond, List}
use Rattle.definitions.specs.State.{State}
use Rattle.definitions.specs.Checks.{Check}
use Rattle.tables.specs.declared.Control.{Control}
use Rattle.tables.specs.declared.Tables.{Tables}
use Rattle.tables.specs.Meaning.{state_of}
unfoldable pub use Rattle.definitions.specs.Checks.{first_failed}

-- for any call but open: 19 where the core is unopened, else by the checks on its state
unfoldable pub refusal : Control → Tables → (State → List Check) → ℕ
refusal c t checks = cond c.opened (first_failed (checks (state_of c t))) 19
