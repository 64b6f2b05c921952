-- The state of the core: the clients by id, and the side that they send on, with its generator and its order of acceptance
-- (paper 01, "The calls").
use Rattle.std.specs.Prelude.{ℕ, cond, List, [], ◌∷◌, eqb}
use Rattle.definitions.specs.Client.{Client, nobody}
use Rattle.definitions.specs.Stock.{Stock, bare}

pub record Side : Type 0 where
  pub generator : ℕ
  -- the ids of the indifferent packets that wait, in the order in which the packets were accepted, under either discipline
  pub order : List ℕ
  -- what every number has to send
  pub stocks : ℕ → Stock

pub record State : Type 0 where
  pub threshold : ℕ
  pub discipline : ℕ
  -- every number has a client; in a reached state those above 63 are not active
  pub clients : ℕ → Client
  pub side : Side

-- "before any accepted open the core is unopened"
pub data Core : Type 0 where
  unopened : Core
  running : State → Core

-- "It gives a core without clients."
unfoldable pub fresh : ℕ → ℕ → ℕ → State
fresh threshold discipline seed = record {
  threshold = threshold;
  discipline = discipline;
  clients = λ id. nobody;
  side = record { generator = seed; order = []; stocks = λ id. bare };
}

-- a state with clients and side anew
unfoldable pub updated : State → (ℕ → Client) → Side → State
updated s clients side = record { threshold = s.threshold; discipline = s.discipline; clients = clients; side = side }

-- something in the place of what an id had
unfoldable pub put : {A : Type 0} → (ℕ → A) → ℕ → A → ℕ → A
put all id one other = cond (eqb other id) one (all other)

-- a side with one stock anew
unfoldable pub stocked : Side → ℕ → Stock → Side
stocked side id k = record { generator = side.generator; order = side.order; stocks = put side.stocks id k }

-- an order without any packet of one id
unfoldable pub without : ℕ → List ℕ → List ℕ
without id [] = []
without id (first ∷ rest) = cond (eqb first id) (without id rest) (first ∷ without id rest)

-- an order without the earliest packet of one id
unfoldable pub without_first : ℕ → List ℕ → List ℕ
without_first id [] = []
without_first id (first ∷ rest) = cond (eqb first id) rest (first ∷ without_first id rest)

-- "queue and pool become empty": what an id had waiting is out of the order, too
unfoldable pub emptied : Side → ℕ → Side
emptied side id = record {
  generator = side.generator;
  order = without id side.order;
  stocks = put side.stocks id bare;
}

-- whose packet was accepted earliest
unfoldable pub earliest : List ℕ → ℕ
earliest [] = 0
earliest (first ∷ rest) = first
