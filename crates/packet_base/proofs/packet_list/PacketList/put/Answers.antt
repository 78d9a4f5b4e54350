-- One more item is written.
use Rattle.std.proofs.Common.{arith}
use Rattle.packet_base.proofs.ListsWritten.{room_more, written_more, written_all}
use Rattle.packet_base.proofs.packet_list.PacketList.put.Goals as goal

pub put-requires : goal.put-requires
put-requires g c =
    let room = room_more g.T.ListItem.spelled c.as_slice-item-items.result.now c.loop-item.item-index
    c.item-item.result c.loop-item-test.true c.item-item.is in
    omega (arith, c.loop-item.invariant.room, room)

pub loop-item-preserved : goal.loop-item-preserved
loop-item-preserved g c =
    let items = c.as_slice-item-items.result.now in
    let i = c.loop-item.item-index in
    let room = room_more g.T.ListItem.spelled items i c.item-item.result c.loop-item-test.true c.item-item.is in
    record {
      written = written_more g.T.ListItem.spelled items i c.item-item.result _ c.loop-item.out.items c.put.new.out.items
          c.loop-item-test.true c.item-item.is c.loop-item.invariant.written c.put.ensures.items;
      room = omega (arith, c.loop-item.invariant.room, c.put.ensures.len, c.put.ensures.capacity, room);
    }

pub returns : goal.returns
returns g c =
    written_all g.T.ListItem.spelled c.as_slice-item-items.result.now c.args.self.now c.loop-item.item-index
    c.args.out.now.items c.loop-item.out.items c.loop-item-test.false c.as_slice-item-items.ensures
    c.loop-item.invariant.written
