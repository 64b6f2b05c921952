-- The reason that is read off the core behind a slot is the one by which the slot went: within the limits the rates in a draw are some,
-- so that a sum of 0 tells that there was none, and the core holds the value that gave the target. Assumes nothing.
use Prim.Native.Nat.{ℕ}
use mathlib.Core.Path.{◌≡◌, refl, sym, ap}
use mathlib.Core.List.{List, [], ◌∷◌}
use native.Mathlib.Omega.{arith}
use borrow.Author.Tests.{ne_eqb}
use Rattle.definitions.specs.Sample.{Sample}
use Rattle.definitions.specs.State.{State, unopened, running, updated}
use Rattle.definitions.specs.Tick.{turn, side_after, slotted, on_tick}
use Rattle.definitions.specs.Core.{step}
use Rattle.definitions.specs.Notes.{drawn_reason, reason_of}
use Rattle.definitions.proofs.Limits.Turns.{Counted, turn-counted}
use Rattle.draw.specs.Samples.{sum_of}
use Rattle.notes.specs.ReasonLeft.{reason_left, ReasonIsLeft}

-- behind any state whose generator gave the targets of these draws
left_by : (s : State) (draws : List Sample) → Counted draws s.side.generator
    → reason_left (sum_of draws) (running s) ≡ reason_of draws
unfolding reason_left reason_of
left_by s [] none = refl
left_by s (d ∷ draws) counted =
    rw (ne_eqb d.sum 0 (λ e. omega (arith, counted.0, e))) (ap (λ (target : ℕ). drawn_reason target d.sum) (sym counted.1))

pub reason_left_lem : ReasonIsLeft
unfolding ReasonIsLeft step on_tick
reason_left_lem unopened known = unfold reason_left reason_of in refl
reason_left_lem (running s) known =
    unfold slotted updated side_after in left_by (slotted s (turn s)) (turn s).draws (turn-counted s known)
