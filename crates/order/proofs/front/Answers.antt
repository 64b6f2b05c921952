-- `order::front` meets its contract: the sentinel's next node is the first place of the order, or the sentinel again.
-- Assumes nothing.
use Rattle.definitions.specs.Sizes.{ids, places}
use Rattle.order.specs.Order.{sentinel, next_of}
use Rattle.order.proofs.OrderedLinks.{ordered_front}
use Rattle.order.proofs.front.Goals as goal

pub returns : goal.returns
unfolding next_of sentinel ids places
returns c = record { upper_bound = c.requires.nodes _; by_index = ordered_front _ }
