-- What is told behind a script: the line of `forecast_behind`, at the start of a buffer that has room for a line.
use Rattle.std.specs.Prelude.{ℕ, ◌≤◌, ◌<◌, ◌≡◌, List, length, take}
use Rattle.grammar.specs.Forecast.{forecast_behind}
use Rattle.printer.specs.Printed.{line_room}
use Rattle.tables.specs.declared.Tables.{Tables}

-- the bytes and the tables before and after, and how many bytes were written
pub record Told (text : List ℕ) (ticks : ℕ) (before : List ℕ) (t : Tables) (after : List ℕ) (r : ℕ) (u : Tables) : Type 0 where
  pub told : line_room ≤ length before → take r after ≡ forecast_behind text ticks
  pub fits : r ≤ length after
  -- without room for a line nothing is done
  pub bare : length before < line_room → (r ≡ 0) × (after ≡ before) × (u ≡ t)
