-- The items so far are written, and there is room for the others.
use Rattle.std.proofs.Common.{◌≡◌, ◌+◌, ◌≤◌, ◌++◌, length, take, drop, vec_len, vec_capacity}
use Rattle.std.specs.List.{flat_map}
use Rattle.packet_base.proofs.packet_list.PacketList.put.Given as goal

abbrev pub invariant-loop-item : goal.invariant-loop-item
invariant-loop-item g l = record {
  written : l.out.items ≡ l.fn.out.items ++ flat_map g.T.ListItem.spelled (take l.item-index l.item-items);
  room : vec_len l.out + length (flat_map g.T.ListItem.spelled (drop l.item-index l.item-items)) ≤ vec_capacity l.out;
}
