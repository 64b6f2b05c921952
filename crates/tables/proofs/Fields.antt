-- The fields of the ids in a table of columns: what a store changes, and what it leaves. Two entries are one only if they are
-- the same column of the same id. Assumes nothing.
use Prim.Native.Nat.{ℕ, zero, suc, ◌+◌, ◌*◌, ◌/◌, ◌%◌, ◌<◌}
use mathlib.Core.Path.{◌≡◌, refl, sym, ap, ◌∙◌}
use mathlib.Core.Logic.{◌≢◌}
use mathlib.Core.Bool.{cond}
use mathlib.Core.List.{List}
use native.Mathlib.Nat.{mod-lt}
use native.Mathlib.Omega.{arith}
use lib.Arith.{digits_div, digits_mod}
use lib.Dec.{eqb, lit<}
use lib.ListN.{length, set}
use lib.Seq.{get_or-set_same, get_or-set_other}
use Rattle.definitions.specs.Sizes.{ids, places}
use Rattle.definitions.proofs.Laws.Tests.{eqb-cases}
use Rattle.order.specs.Owner.{owner}
use Rattle.tables.specs.Tables.{field, ring}

-- column k of an id stands at one entry alone
entry-field : (k m id j : ℕ) → id < ids → j < ids → k * ids + id ≡ m * ids + j → k ≡ m
entry-field k m id j h l e = sym (digits_div k h) ∙ ap (λ (n : ℕ). n / ids) e ∙ digits_div m l

entry_id : (k m id j : ℕ) → id < ids → j < ids → k * ids + id ≡ m * ids + j → id ≡ j
entry_id k m id j h l e = sym (digits_mod k h) ∙ ap (λ (n : ℕ). n % ids) e ∙ digits_mod m l

module _ (table : List ℕ) (k id v : ℕ) where
  -- the number that was stored
  pub field-set_same : k * ids + id < length table → field k (set table (k * ids + id) v) id ≡ v
  unfolding field
  field-set_same h = get_or-set_same table (k * ids + id) v 0 h

  module _ (h : id < ids) (m j : ℕ) (l : j < ids) where
    -- another column of any id
    pub field-set-field : m ≢ k → field m (set table (k * ids + id) v) j ≡ field m table j
    unfolding field
    field-set-field other =
        get_or-set_other table (k * ids + id) (m * ids + j) v 0 (λ e. other (entry-field m k j id l h e))

    -- any column of another id
    pub field-set_id : j ≢ id → field m (set table (k * ids + id) v) j ≡ field m table j
    unfolding field
    field-set_id other =
        get_or-set_other table (k * ids + id) (m * ids + j) v 0 (λ e. other (entry_id m k j id l h e))

-- every column of the id after a store: with k and m written out, the test computes
pub field_own : (table : List ℕ) (k m id v : ℕ) → id < ids → k * ids + id < length table
    → field m (set table (k * ids + id) v) id ≡ cond (eqb m k) v (field m table id)
field_own table k m id v below room =
    eqb-cases (λ b. field m (set table (k * ids + id) v) id ≡ cond b v (field m table id)) m k
    (λ e. rw e (field-set_same table k id v room))
    (field-set-field table k id v below m id below)

-- the same in a table of so many columns, which has room for every id in each
pub store_own : (table : List ℕ) (columns k m id v : ℕ) → length table ≡ columns * ids → k < columns → id < ids
    → field m (set table (k * ids + id) v) id ≡ cond (eqb m k) v (field m table id)
unfolding ids
store_own table columns k m id v size column below = field_own table k m id v below (omega arith)

-- two tables that differ at one id alone
abbrev pub OnlyAt : ℕ → List ℕ → List ℕ → Type 0
OnlyAt id xs ys = (m j : ℕ) → j < ids → j ≢ id → field m ys j ≡ field m xs j

pub only_set : (xs ys : List ℕ) (k id v : ℕ) → id < ids → OnlyAt id xs ys → OnlyAt id xs (set ys (k * ids + id) v)
only_set xs ys k id v h only m j l other = field-set_id ys k id v h m j l other ∙ only m j l other

pub places_positive : 0 < places
unfolding places
places_positive = lit< tt

-- the places of an id are its own
pub place_owner : (id h : ℕ) → owner (id * places + h % places) ≡ id
unfolding owner
place_owner id h = digits_div id (mod-lt h places_positive)

pub ring-length : (id head n : ℕ) → length (ring id head n) ≡ n
unfolding ring
ring-length id head zero = refl
ring-length id head (suc n) = ap suc (ring-length id (suc head) n)
