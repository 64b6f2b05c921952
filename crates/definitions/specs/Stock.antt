-- What a client has to send: its queue and its pool (paper 01, "Clients, queues, pools"). They belong together,
-- as each side of a box has its own (paper 02, S-11).
use Rattle.std.specs.Prelude.{ℕ, pred, ◌+◌, Bool, true, false, cond}
use mathlib.Core.List.{List, [], ◌∷◌, ◌++◌, tail}
use Rattle.definitions.specs.declared.Packet.{Packet}

pub record Stock : Type 0 where
  pub queue : List Packet
  pub pool : ℕ

abbrev pub empty : List Packet → Bool
empty [] = true
empty (p ∷ ps) = false

-- "an empty queue, a pool of 0"
abbrev pub bare : Stock
bare = record { queue = []; pool = 0 }

-- "Load adds dummies to a private pool."
unfoldable pub loaded : Stock → ℕ → Stock
loaded k dummies = record { queue = k.queue; pool = k.pool + dummies }

-- "Arrive puts one packet last in its client's queue."
unfoldable pub queued : Stock → Packet → Stock
queued k p = record { queue = k.queue ++ (p ∷ []); pool = k.pool }

-- What a slot takes from the client whose slot it is: "its first packet; without one, a dummy, which lowers its pool by 1".
-- An empty pool stays empty.
unfoldable pub spent : Stock → Stock
spent k = record { queue = tail k.queue; pool = cond (empty k.queue) (pred k.pool) k.pool }
