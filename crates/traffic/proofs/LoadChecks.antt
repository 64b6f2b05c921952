-- What a load is refused for, over control and tables: once its client is known to be active, by its kind and its pool. Assumes nothing.
use Rattle.std.proofs.Common.{◌≡◌, ℕ, ◌+◌, ◌<◌, cond, not, [], refl}
use lib.Dec.{leb}
use mathlib.Core.Path.{◌∙◌}
use borrow.Author.Tests.{lt-ltb}
use Rattle.definitions.specs.Sizes.{ids, pool_limit}
use Rattle.definitions.specs.Checks.{active_checks, load_checks}
use Rattle.marks.specs.Marks.{marked}
use Rattle.tables.specs.declared.Control.{Control}
use Rattle.tables.specs.declared.Tables.{Tables}
use Rattle.tables.specs.Tables.{pool_at}
use Rattle.tables.specs.Meaning.{state_of, clients_of, client_at, side_of, stocks_of, stock_at}
use Rattle.tables.specs.Numbers.{first_failed, refusal}
use Rattle.tables.proofs.MarkedKinds.{kind_indifferent}
use Rattle.tables.proofs.ActiveChecks.{active_below, active_rest}

module _ (c : Control) (id dummies : ℕ) (active : (t : Tables) → 0 ≡ refusal c t (λ s. active_checks s id [])) where
  pub load_id : id < ids
  load_id = active_below c id 0 active refl

  pub load_rest : (t : Tables) → refusal c t (λ s. load_checks s id dummies)
      ≡ cond (not (marked c.indifferent id)) (cond (leb (pool_at t.stocks id + dummies) pool_limit) 0 12) 11
  unfolding load_checks first_failed state_of clients_of client_at side_of stocks_of stock_at
  load_rest t = active_rest c id 0 active refl t _ ∙ rw (lt-ltb id ids load_id, kind_indifferent c id)
