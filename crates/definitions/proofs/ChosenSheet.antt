-- What billing gets for the chosen client is the same: whether it is active is not erased, and its counts are those of its calls, which
-- are alike. Assumes nothing.
use Prim.Native.Nat.{ℕ}
use mathlib.Core.Path.{◌≡◌, refl, sym, ap, ◌∙◌, fun_ext}
use mathlib.Core.List.{[]}
use Rattle.definitions.specs.State.{Core, unopened, running}
use Rattle.definitions.specs.Checks.{first_failed, active_checks}
use Rattle.definitions.specs.History.{History, scheduler, after}
use Rattle.definitions.specs.Counts.{Tally, unless_unavailable, wrapped, count_sheet}
use Rattle.definitions.specs.Counted.{counts_behind, SheetSame}
use Rattle.definitions.specs.Sameness.{kept}
use Rattle.definitions.proofs.Sameness.Erase.{erase, erase_core}
use Rattle.definitions.proofs.Sameness.Kinds.{trace}
use Rattle.definitions.proofs.Sameness.Histories.{alike_through}
use Rattle.definitions.proofs.Sameness.CountsAlike.{tally_same}
use Rattle.definitions.proofs.Sameness.Theorem.{kept-behind}
use Rattle.definitions.proofs.Counts.{counted}

sheet_erased : (chosen id : ℕ) (core : Core) (counts : ℕ → Tally)
    → count_sheet core counts id ≡ count_sheet (erase_core chosen core) counts id
unfolding count_sheet erase_core erase active_checks
sheet_erased chosen id unopened counts = refl
sheet_erased chosen id (running s) counts = refl

-- it goes by the client's own counts
sheet_own : (core : Core) (id : ℕ) (one other : ℕ → Tally) → one id ≡ other id → count_sheet core one id ≡ count_sheet core other id
unfolding count_sheet
sheet_own unopened id one other e = refl
sheet_own (running s) id one other e = ap (unless_unavailable (first_failed (active_checks s id []))) e

module _ (chosen : ℕ) (h k : History) (e : kept chosen (trace h) ≡ kept chosen (trace k)) where
  counts_same : counts_behind h chosen ≡ counts_behind k chosen
  counts_same =
      fun_ext (λ count.
      counted.keeps h chosen count
      ∙ ap (λ tally. wrapped (tally count)) (tally_same chosen h k e)
      ∙ sym (counted.keeps k chosen count))

  pub sheet_same : count_sheet (after scheduler h) (counts_behind h) chosen ≡ count_sheet (after scheduler k) (counts_behind k) chosen
  sheet_same =
      sheet_erased chosen chosen (after scheduler h) (counts_behind h)
      ∙ ap (λ (core : Core). count_sheet core (counts_behind h) chosen) (alike_through chosen h k e).cores
      ∙ sym (sheet_erased chosen chosen (after scheduler k) (counts_behind h))
      ∙ sheet_own (after scheduler k) chosen (counts_behind h) (counts_behind k) counts_same

pub chosen_sheet : SheetSame
unfolding SheetSame
chosen_sheet chosen H K e h k p q n = sheet_same chosen h k (kept-behind chosen e p q n)
