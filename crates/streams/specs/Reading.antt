-- What reading gave, beside the room that was lent for it: bytes are counted from the room's start. Of a failed read nothing is
-- said.
use Rattle.std.specs.Prelude.{List, ℕ, Result, IfOk}
use Rattle.std.specs.declared.io.Error.{Error}
use Rattle.io.specs.Counts.{IsPrefixLen}

abbrev pub Within : Result ℕ Error → List ℕ → Type 0
Within read room = IfOk read (λ n. IsPrefixLen n room)
