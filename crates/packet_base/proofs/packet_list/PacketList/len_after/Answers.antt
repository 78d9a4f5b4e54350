-- One more item is counted.
use Rattle.std.proofs.Common.{◌-◌, ◌^◌}
use Rattle.packet_base.proofs.ListsWritten.{counted_more, counted_all}
use Rattle.packet_base.proofs.packet_list.PacketList.len_after.Goals as goal

pub loop-item-preserved : goal.loop-item-preserved
loop-item-preserved g c =
    counted_more g.T.ListItem.spelled c.as_slice-item-items.result.now c.loop-item.item-index c.item-item.result
    c.args.before c.loop-item.len c.spelled_len.result (2 ^ 64 - 1) c.saturating_add-len.result
    c.loop-item-test.true c.item-item.is c.spelled_len.ensures c.loop-item.invariant c.saturating_add-len.ensures

pub returns : goal.returns
returns g c =
    counted_all g.T.ListItem.spelled c.as_slice-item-items.result.now c.args.self.now c.loop-item.item-index
    c.args.before c.loop-item.len (2 ^ 64 - 1) c.loop-item-test.false c.as_slice-item-items.ensures
    c.loop-item.invariant
