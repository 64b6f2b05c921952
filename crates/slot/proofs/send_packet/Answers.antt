-- It is the law of PacketSent, at what its callees give.
use Rattle.std.proofs.Common.{arith, refl}
use Rattle.definitions.specs.Sizes.{ids, places}
use Rattle.tables.specs.Tables.{field}
use Rattle.slot.proofs.PacketSent.{place_inside, first_length, packet_sent}
use Rattle.slot.proofs.send_packet.Goals as goal

pub overflow_add-place-2 : goal.overflow_add-place-2
unfolding ids places field
overflow_add-place-2 c =
    let p = c.requires.0.2 in
    omega (arith, p.below, p.core.shape.heads c.args.id p.below)

pub packet_at-packet-requires : goal.packet_at-packet-requires
unfolding ids places field
packet_at-packet-requires c = place_inside _ _ _ c.requires.0.2 c.requires.1

pub padding-added-requires : goal.padding-added-requires
unfolding ids places field
padding-added-requires c =
    rw (c.packet_at-packet.ensures c.requires.0.0 c.args.stocks.now c.args.links.now c.requires.0.1)
    (first_length _ _ _ c.requires.0.2 c.requires.1)

pub returns : goal.returns
unfolding ids places field
returns c terms counts sender =
    packet_sent _ _ _ sender c.requires.1 _ _ _ c.settle-after.result c.packet_at-packet.result c.padding-added.result
    c.pop.ensures c.leave_order.ensures refl c.settle-after.ensures (c.packet_at-packet.ensures terms _ _ counts)
    c.padding-added.ensures
