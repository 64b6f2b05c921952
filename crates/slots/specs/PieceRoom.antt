-- The bytes of the buffer that pieces are written in.
use Rattle.std.specs.Prelude.{ℕ}

abbrev pub piece_room : ℕ
piece_room = 4096
