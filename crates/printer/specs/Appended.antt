-- A text that is written into bytes from a place on, and the place behind it, where the next text goes on.
-- The text stands within the bytes, and `sets` of the library stores it there and leaves all other bytes as they were.
use Rattle.std.specs.Prelude.{ℕ, ◌+◌, ◌≤◌, ◌≡◌, List, length}
use Rattle.std.proofs.lemmas.List.Edits.{sets}

pub record Appended (text before : List ℕ) (at : ℕ) (after : List ℕ) (end : ℕ) : Type 0 where
  pub place : end ≡ at + length text
  pub room : end ≤ length before
  pub bytes : after ≡ sets before at text
