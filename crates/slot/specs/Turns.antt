-- Whose slot it is, as the code says it.
-- "A slot goes by the first of the tick's rules 1 to 3 that applies" (paper 01).
use Rattle.std.specs.Prelude.{ℕ, ◌+◌, ◌≡◌, List}
use Rattle.definitions.specs.Sizes.{ids}
use Rattle.definitions.specs.Draw.{sum_below, draw}
use Rattle.definitions.specs.Tick.{Rule, rule1, rule2, rule3, Turn}
use Rattle.draw.specs.Weights.{weight_at}
use Rattle.draw.specs.Samples.{SameSample, StandsFor}
use Rattle.tables.specs.declared.Control.{Control}
use Rattle.tables.specs.Tables.{tables}
use Rattle.tables.specs.Invariant.{SoundCore}
use Rattle.slot.specs.declared.Choice.{Choice}
use Rattle.slot.specs.declared.Rule.{Rule as Named}
use Rattle.slot.specs.declared.Rule.TheVariants.{IndifferentFirst, PrivateDraw, Nobody}

-- how the code names the paper's rules
abbrev pub name_of : Rule → Named
name_of rule1 = IndifferentFirst
name_of rule2 = PrivateDraw
name_of rule3 = Nobody

-- a choice of the code is a turn of the definitions
pub record Chosen (r : Choice) (t : Turn) : Type 0 where
  pub rule : r.rule ≡ name_of t.rule
  pub id : r.id ≡ t.id
  pub draws : StandsFor r.sample t.draws
  pub generator : r.sample.generator.value ≡ t.generator

-- a choice by a draw among the marked ids
pub record DrawnAmong (by : Named) (word value : ℕ) (terms : List ℕ) (r : Choice) : Type 0 where
  pub rule : r.rule ≡ by
  pub id : r.id ≡ (draw value (weight_at word terms)).id
  pub sample : SameSample r.sample (draw value (weight_at word terms)).sample

-- the rates held are those of the private clients and those of the indifferent
abbrev pub HeldByBoth : Control → List ℕ → Type 0
HeldByBoth c terms =
    c.rates ≡ sum_below ids (weight_at c.private terms) + sum_below ids (weight_at c.indifferent terms)

-- with some stocks, handles, lengths and counts the core is sound: a choice looks at none of them
abbrev pub SoundWith : Control → List ℕ → List ℕ → Type 0
SoundWith c terms links =
    (k : List ℕ) × (h : List ℕ) × (l : List ℕ) × (n : List ℕ) × SoundCore c (tables terms k h l links n)
