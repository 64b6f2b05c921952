-- `opening::control_of` meets its contract: the generator holds the seed. Assumes nothing.
use Prim.Native.Nat.{ℕ}
use mathlib.Core.Path.{ap}
use Rattle.tables.specs.declared.Control.{Control}
use Rattle.opening.proofs.control_of.Goals as goal

pub returns : goal.returns
returns c =
    let start = c.args in
    let holding : ℕ → Control = λ (seed : ℕ). record {
      opened = start.opened;
      threshold = start.threshold;
      discipline = start.discipline;
      generator = record { value = seed };
      rates = 0;
      indifferent = 0;
      private = 0;
      waiting = 0;
    } in
    ap holding c.new.ensures
