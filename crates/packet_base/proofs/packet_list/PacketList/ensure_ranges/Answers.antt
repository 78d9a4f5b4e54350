-- One more item is in its range.
use Rattle.packet_base.proofs.ListsWritten.{seen_more, seen_all}
use Rattle.packet_base.proofs.packet_list.PacketList.ensure_ranges.Goals as goal

pub loop-item-preserved : goal.loop-item-preserved
loop-item-preserved g c =
    seen_more g.T.ListItem.Fits c.as_slice-item-items.result.now c.loop-item.item-index c.item-item.result
    c.loop-item-test.true c.item-item.is c.loop-item.invariant c.ensure_ranges.ensures

pub returns : goal.returns
returns g c =
    seen_all g.T.ListItem.Fits c.as_slice-item-items.result.now c.args.self.now c.loop-item.item-index
    c.loop-item-test.false c.as_slice-item-items.ensures c.loop-item.invariant
