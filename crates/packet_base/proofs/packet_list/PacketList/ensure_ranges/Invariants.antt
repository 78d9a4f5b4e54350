-- The items so far are in their ranges.
use Rattle.std.proofs.Common.{take}
use Rattle.std.specs.List.{All}
use Rattle.packet_base.proofs.packet_list.PacketList.ensure_ranges.Given as goal

abbrev pub invariant-loop-item : goal.invariant-loop-item
invariant-loop-item g l = All g.T.ListItem.Fits (take l.item-index l.item-items)
