-- Whose packet lies at a place, and the places of one id in the order of acceptance.
-- Under `map owner` an order of places means the order of ids that the definitions speak of.
use Rattle.std.specs.Prelude.{ℕ, ◌/◌, cond, List, [], ◌∷◌, eqb}
use Rattle.definitions.specs.Sizes.{places}

-- whose place it is: each id's stand together, by rising id
unfoldable pub owner : ℕ → ℕ
owner place = place / places

-- the places of one id, in their order
unfoldable pub places_of : ℕ → List ℕ → List ℕ
places_of id [] = []
places_of id (p ∷ order) = cond (eqb (owner p) id) (p ∷ places_of id order) (places_of id order)
