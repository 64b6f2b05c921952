-- What the number of the first check that fails says of a sheet: it is given where there is none, and then from the id's part of the
-- table. Assumes nothing.
use Prim.Native.Nat.{ℕ, zero, suc, ◌<◌}
use mathlib.Core.Path.{◌≡◌, refl, sym, ap, ◌∙◌}
use mathlib.Core.Logic.{◌≢◌}
use mathlib.Core.Bool.{Bool, true, false, cond}
use mathlib.Core.List.{[]}
use native.Mathlib.Omega.{arith}
use Rattle.std.specs.Prelude.{Ok, Err}
use borrow.Author.Tests.{lt-ltb}
use Rattle.definitions.specs.Sizes.{ids}
use Rattle.definitions.specs.State.{unopened, running}
use Rattle.definitions.specs.Checks.{first_failed, active_checks}
use Rattle.definitions.specs.Counts.{Tally, sheet_of, unless_unavailable, count_sheet}
use Rattle.counts.specs.CountTable.{count_in}
use Rattle.tables.specs.declared.Control.{Control}
use Rattle.tables.specs.declared.Tables.{Tables}
use Rattle.tables.specs.Meaning.{state_of, core_of, counts_of}
use Rattle.tables.specs.Numbers.{refusal}
use Rattle.tables.proofs.ActiveChecks.{active_past}

unless_some : (n : ℕ) (tally : Tally) → n ≢ 0 → Err n ≡ unless_unavailable n tally
unless_some zero tally some = absurd (some refl)
unless_some (suc n) tally some = refl

module _ (c : Control) (t : Tables) (id n : ℕ) (number : n ≡ refusal c t (λ s. active_checks s id [])) where
  pub sheet-refused : n ≢ 0 → Err n ≡ count_sheet (core_of c t) (counts_of c t) id
  unfolding refusal core_of count_sheet
  sheet-refused some = go c.opened number
    where
      go : (o : Bool) → n ≡ cond o (first_failed (active_checks (state_of c t) id [])) 19
          → Err n ≡ count_sheet (cond o (running (state_of c t)) unopened) (counts_of c t) id
      go true e = unless_some n (counts_of c t id) some ∙ ap (λ (m : ℕ). unless_unavailable m (counts_of c t id)) e
      go false e = ap (λ (m : ℕ). Err m) e

  module _ (none : n ≡ 0) where
    past : (c.opened ≡ true) × (id < ids)
    past = active_past c t id n (λ s. []) number (λ e. omega arith) (λ e. omega arith)

    pub sheet_below : id < ids
    sheet_below = past.1

    pub sheet-given : Ok (sheet_of (count_in t.counts id)) ≡ count_sheet (core_of c t) (counts_of c t) id
    unfolding refusal core_of counts_of count_sheet
    sheet-given =
        rw (past.0, lt-ltb id ids past.1)
        (ap (λ (m : ℕ). unless_unavailable m (count_in t.counts id)) (sym none ∙ rw past.0 at number))
