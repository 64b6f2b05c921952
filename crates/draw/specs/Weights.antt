-- What an id weighs in a draw among the marked ids, for "the sum of the rates in the draw" (paper 01): its rate, which stands
-- at its place in the table of terms, and nothing if it has no mark, so that it is never drawn.
use Rattle.std.specs.Prelude.{ℕ, List, get_or}
use Rattle.marks.specs.Marks.{marked_number}

abbrev pub own_rate : List ℕ → ℕ → ℕ
own_rate terms id = get_or terms id 0

unfoldable pub weight_at : ℕ → List ℕ → ℕ → ℕ
weight_at word terms = marked_number word (own_rate terms)
