-- What control and tables mean: a state of the definitions. Where a queue begins, what its unused places hold and how the
-- order is linked do not show in it, and neither do the counts: they are what `counts_of` says, beside the state.
use Rattle.std.specs.Prelude.{ℕ, cond, ◌&&◌, List, map, ltb, get_or}
use Rattle.definitions.specs.declared.Packet.{Packet}
use Rattle.definitions.specs.Sizes.{ids}
use Rattle.definitions.specs.Client.{Kind, absent, indifferent, private, Client, nobody}
use Rattle.definitions.specs.Stock.{Stock, bare}
use Rattle.definitions.specs.Counts.{Tally, zeros, Whole}
use Rattle.definitions.specs.State.{Side, State, Core, unopened, running}
use Rattle.counts.specs.CountTable.{count_in}
use Rattle.marks.specs.Marks.{marked}
use Rattle.order.specs.Order.{sentinel, next_of, walked}
use Rattle.order.specs.Owner.{owner}
use Rattle.tables.specs.declared.Control.{Control}
use Rattle.tables.specs.declared.Tables.{Tables}
use Rattle.tables.specs.Tables.{rate_at, burst_at, level_at, pool_at, head_at, count_at, ring}

unfoldable pub kind_at : Control → ℕ → Kind
kind_at c id = cond (marked c.indifferent id) indifferent (cond (marked c.private id) private absent)

unfoldable pub packet_at : Tables → ℕ → Packet
packet_at t place = record { handle = get_or t.handles place 0; length = get_or t.lengths place 0 }

unfoldable pub queue_at : Tables → ℕ → List Packet
queue_at t id = map (packet_at t) (ring id (head_at t.stocks id) (count_at t.stocks id))

unfoldable pub client_at : Control → Tables → ℕ → Client
client_at c t id = record {
  kind = kind_at c id;
  rate = rate_at t.terms id;
  burst = burst_at t.terms id;
  level = level_at t.terms id;
}

unfoldable pub clients_of : Control → Tables → ℕ → Client
clients_of c t id = cond (ltb id ids) (client_at c t id) nobody

unfoldable pub stock_at : Tables → ℕ → Stock
stock_at t id = record { queue = queue_at t id; pool = pool_at t.stocks id }

unfoldable pub stocks_of : Tables → ℕ → Stock
stocks_of t id = cond (ltb id ids) (stock_at t id) bare

unfoldable pub order_of : Tables → List ℕ
order_of t = map owner (walked sentinel t.links (next_of t.links sentinel))

unfoldable pub side_of : Control → Tables → Side
side_of c t = record { generator = c.generator.value; order = order_of t; stocks = stocks_of t }

unfoldable pub state_of : Control → Tables → State
state_of c t = record {
  threshold = c.threshold;
  discipline = c.discipline;
  clients = clients_of c t;
  side = side_of c t;
}

unfoldable pub core_of : Control → Tables → Core
core_of c t = cond c.opened (running (state_of c t)) unopened

-- the sheets of all ids: before any accepted open, and of what is no id, all zeros
unfoldable pub counts_of : Control → Tables → ℕ → Tally
counts_of c t id = cond (c.opened && ltb id ids) (count_in t.counts id) zeros

-- all that a call may change: the core, and the counts beside it
abbrev pub whole_of : Control → Tables → Whole
whole_of c t = record { core = core_of c t; counts = counts_of c t }
