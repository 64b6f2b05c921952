-- Whether an option is the one that is meant is what `==` answers of their bytes. By induction over the bytes. Assumes nothing.
use Prim.Native.Nat.{ℕ}
use mathlib.Core.Path.{◌≡◌, refl, ap}
use mathlib.Core.Bool.{◌&&◌}
use mathlib.Core.List.{List, [], ◌∷◌}
use lib.Dec.{eqb}
use lib.Pointwise.{pointwise}
use Rattle.slots.specs.Requests.{same_bytes}

pub same_bytes_lem : (a b : List ℕ) → same_bytes a b ≡ pointwise eqb a b
unfolding same_bytes
same_bytes_lem [] [] = refl
same_bytes_lem [] (b ∷ bs) = refl
same_bytes_lem (a ∷ more) [] = refl
same_bytes_lem (a ∷ more) (b ∷ bs) = ap (λ rest. eqb a b && rest) (same_bytes_lem more bs)
