use Rattle.std.proofs.Common.{◌≡◌, List, ℕ, ◌+◌, ◌-◌}
use Rattle.order.specs.Order.{Sound, Ordered}
use Rattle.order.specs.Owner.{places_of}
use Rattle.tables.specs.Tables.{ring}
use Rattle.settings.proofs.Withdrawing.{Withdrawing}
use Rattle.settings.proofs.unlink_ring.Given as goal

-- what is left of the ring is what the id has in the order
abbrev pub invariant-loop-i : goal.invariant-loop-i
invariant-loop-i l =
    record {
      sound : Sound l.links;
      left : (order : List ℕ) → Ordered l.initial.links order → places_of l.id order ≡ ring l.id l.head l.count
          → Withdrawing l.links l.id (l.head + l.i) (l.count - l.i) order;
    }
