-- What writing gave, beside the bytes that were to be written: the count that is returned is their length. Of a failed write
-- nothing is said.
use Rattle.std.specs.Prelude.{ℕ, ◌≡◌, List, length, Result, IfOk}
use Rattle.std.specs.declared.io.Error.{Error}

abbrev pub HandedOn : Result ℕ Error → List ℕ → Type 0
HandedOn written bytes = IfOk written (λ n. n ≡ length bytes)
