-- A word of marks (paper 01: "The ids that have packets waiting are one word of 64 marks").
-- The mark of an id is the bit of the word at that place.
use Rattle.std.specs.Prelude.{ℕ, ◌/◌, ◌%◌, ◌^◌, Bool, cond, eqb, List}
use Rattle.std.specs.List.{filter, range_with_len}
use Rattle.definitions.specs.Sizes.{ids}

unfoldable pub marked : ℕ → ℕ → Bool
marked word id = eqb (word / 2 ^ id % 2) 1

-- a number of an id, where the id has a mark: without one it adds nothing to a sum over all ids
unfoldable pub marked_number : ℕ → (ℕ → ℕ) → ℕ → ℕ
marked_number word number id = cond (marked word id) (number id) 0

-- the ids that have a mark, by rising id
unfoldable pub marked_ids : ℕ → List ℕ
marked_ids word = filter (marked word) (range_with_len 0 ids)
