use Rattle.std.proofs.Common.{map, take}
use Rattle.packet.specs.declared.packet.Packet.TheVariants as packets
use Rattle.client.specs.Core.{AppendsAll}
use Rattle.client.proofs.output.write_pubrels.Given as goal

abbrev pub invariant-loop-id : goal.invariant-loop-id
invariant-loop-id l = AppendsAll l.initial.out.items l.out.items (map packets.Pubrel (take l.id-index l.ids))
