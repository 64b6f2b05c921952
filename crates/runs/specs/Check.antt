-- The check of the answers (docs/LONG_RUNS.md, "The check"): a number of 32 bits into which each answer mixes its words.
use Rattle.std.specs.Prelude.{ℕ, ◌+◌, ◌/◌, ◌%◌, ◌^◌, List, [], ◌∷◌}
use Rattle.definitions.specs.declared.Outcome.{Outcome}
use Rattle.definitions.specs.declared.Outcome.TheVariants.{Real, Dummy, Idle, None}
use Rattle.definitions.specs.declared.Answer.{Answer}
use Rattle.definitions.specs.declared.Answer.TheVariants.{Accepted, Refused, Slot}
use Rattle.definitions.specs.Generator.{stepped}

-- "h becomes xorshift32 of (h + w) mod 2^32"
unfoldable pub mix : ℕ → ℕ → ℕ
mix h w = stepped ((h + w) % 2 ^ 32)

unfoldable pub mixed : ℕ → List ℕ → ℕ
mixed h [] = h
mixed h (w ∷ ws) = mixed (mix h w) ws

-- the words of a slot, "handle mod 4294967296, handle / 4294967296" among them
unfoldable pub slot_words : Outcome → List ℕ
slot_words (Real id p padding) = 3 ∷ id ∷ p.handle % 2 ^ 32 ∷ p.handle / 2 ^ 32 ∷ p.length ∷ padding ∷ []
slot_words (Dummy id) = 4 ∷ id ∷ []
slot_words (Idle id) = 5 ∷ id ∷ []
slot_words None = 6 ∷ []

unfoldable pub words : Answer → List ℕ
words Accepted = 1 ∷ []
words (Refused n) = 2 ∷ n ∷ []
words (Slot outcome) = slot_words outcome

-- "An answer mixes in its words, in this order"
unfoldable pub check_with : ℕ → Answer → ℕ
check_with h answer = mixed h (words answer)
