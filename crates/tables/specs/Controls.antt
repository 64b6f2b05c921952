-- A control with some of its parts anew, and all others as they were.
use Rattle.std.specs.Prelude.{ℕ}
use Rattle.generator.specs.declared.Generator.{Generator}
use Rattle.tables.specs.declared.Control.{Control}

abbrev pub with_rates : Control → ℕ → Control
with_rates c rates = record {
  opened = c.opened;
  threshold = c.threshold;
  discipline = c.discipline;
  generator = c.generator;
  rates = rates;
  indifferent = c.indifferent;
  private = c.private;
  waiting = c.waiting;
}

-- the marks of those who are indifferent, of those who are private, and of those who have packets waiting
abbrev pub with_marks : Control → ℕ → ℕ → ℕ → Control
with_marks c indifferent private waiting = record {
  opened = c.opened;
  threshold = c.threshold;
  discipline = c.discipline;
  generator = c.generator;
  rates = c.rates;
  indifferent = indifferent;
  private = private;
  waiting = waiting;
}

abbrev pub with_waiting : Control → ℕ → Control
with_waiting c waiting = with_marks c c.indifferent c.private waiting

abbrev pub with_generator : Control → Generator → Control
with_generator c generator = record {
  opened = c.opened;
  threshold = c.threshold;
  discipline = c.discipline;
  generator = generator;
  rates = c.rates;
  indifferent = c.indifferent;
  private = c.private;
  waiting = c.waiting;
}
