-- The terms after an id's are written, and the stocks after an id's is made bare. Each store is seen by itself. Assumes nothing.
use Prim.Native.Nat.{ℕ, ◌*◌, ◌<◌}
use mathlib.Core.Path.{◌≡◌, refl, ap, ◌∙◌}
use mathlib.Core.Bool.{cond}
use mathlib.Core.List.{List}
use native.Mathlib.Omega.{arith}
use lib.Dec.{eqb}
use lib.ListN.{length, length-set}
use Rattle.definitions.specs.Sizes.{ids}
use Rattle.tables.specs.Tables.{rate_column, burst_column, level_column, term_columns}
use Rattle.tables.specs.Tables.{pool_column, count_column, stock_columns, field, written}
use Rattle.tables.proofs.Fields.{OnlyAt, only_set, store_own}
use Rattle.settings.specs.Writes.{with_terms, with_bare}

module _ (xs : List ℕ) (size : length xs ≡ term_columns * ids) (id rate burst level : ℕ) (below : id < ids) where
  pub terms_length : length (with_terms xs id rate burst level) ≡ term_columns * ids
  terms_length = simp length-set size

  -- with m written out, the tests compute
  pub terms_own : (m : ℕ)
      → field m (with_terms xs id rate burst level) id
      ≡ cond (eqb m level_column) level (cond (eqb m burst_column) burst (cond (eqb m rate_column) rate (field m xs id)))
  terms_own m =
      store_own (written (written xs rate_column id rate) burst_column id burst) term_columns level_column m id level
      (simp length-set size) (omega arith) below
      ∙ ap (cond (eqb m level_column) level)
      (store_own (written xs rate_column id rate) term_columns burst_column m id burst (simp length-set size) (omega arith) below
      ∙ ap (cond (eqb m burst_column) burst) (store_own xs term_columns rate_column m id rate size (omega arith) below))

  pub terms_only : OnlyAt id xs (with_terms xs id rate burst level)
  terms_only =
      only_set xs _ level_column id level below
      (only_set xs _ burst_column id burst below (only_set xs xs rate_column id rate below (λ m j l other. refl)))

module _ (xs : List ℕ) (size : length xs ≡ stock_columns * ids) (id : ℕ) (below : id < ids) where
  pub bare-length : length (with_bare xs id) ≡ stock_columns * ids
  bare-length = simp length-set size

  pub bare_own : (m : ℕ)
      → field m (with_bare xs id) id ≡ cond (eqb m count_column) 0 (cond (eqb m pool_column) 0 (field m xs id))
  bare_own m =
      store_own (written xs pool_column id 0) stock_columns count_column m id 0 (simp length-set size) (omega arith) below
      ∙ ap (cond (eqb m count_column) 0) (store_own xs stock_columns pool_column m id 0 size (omega arith) below)

  pub bare_only : OnlyAt id xs (with_bare xs id)
  bare_only = only_set xs _ count_column id 0 below (only_set xs xs pool_column id 0 below (λ m j l other. refl))
