-- The items so far are counted.
use Rattle.std.proofs.Common.{◌≡◌, ◌+◌, ◌-◌, ◌^◌, min, length, take}
use Rattle.std.specs.List.{flat_map}
use Rattle.packet_base.proofs.packet_list.PacketList.len_after.Given as goal

abbrev pub invariant-loop-item : goal.invariant-loop-item
invariant-loop-item g l =
    l.len ≡ min (l.fn.before + length (flat_map g.T.ListItem.spelled (take l.item-index l.item-items))) (2 ^ 64 - 1)
