-- What an id may take of the next n slots, as its numbers stand in the tables: the packets that wait, and what it buys (paper
-- 02, S-14: "the indifferent packets waiting" and "(level at the start + n × rate) / 1024 rounded down").
use Rattle.std.specs.Prelude.{ℕ, ◌+◌, List}
use Rattle.definitions.specs.Stretch.{tokens}
use Rattle.tables.specs.Tables.{rate_at, level_at, count_at}

unfoldable pub demand_at : List ℕ → List ℕ → ℕ → ℕ → ℕ
demand_at terms stocks n id = count_at stocks id + tokens (level_at terms id) (rate_at terms id) n
