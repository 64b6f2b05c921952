-- A client that is watched at a place: the chosen one, or one that is indifferent there. A struck-out call names another.
-- Assumes nothing.
use Prim.Native.Nat.{ℕ}
use mathlib.Core.Path.{◌≡◌, refl}
use mathlib.Core.Bool.{Bool, true, false, not, ◌&&◌}
use lib.Dec.{eqb}
use borrow.Author.Tests.{eqb-true}
use Rattle.definitions.specs.History.{History}
use Rattle.definitions.specs.Traces.{indifferent_at}
use Rattle.definitions.proofs.Laws.Tests.{true-false}
use Rattle.definitions.proofs.Sameness.Kinds.{trace}

module _ (chosen id : ℕ) where
  abbrev pub Watched : History → Type 0
  Watched h = not (eqb id chosen) && not (indifferent_at id (trace h)) ≡ false

  pub watched_apart : (h : History) (j : ℕ) → Watched h → not (eqb j chosen) && not (indifferent_at j (trace h)) ≡ true
      → eqb j id ≡ false
  watched_apart h j w e = go (eqb j id) refl
    where
      go : (b : Bool) → eqb j id ≡ b → b ≡ false
      go true q = true-false (rw (eqb-true j id q) at e) w
      go false q = refl
