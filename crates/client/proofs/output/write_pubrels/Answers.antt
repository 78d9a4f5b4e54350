use Rattle.packet.specs.declared.packet.Packet.TheVariants as packets
use Rattle.client.proofs.Spelled.{appends_next}
use Rattle.client.proofs.output.write_pubrels.Goals as goal

pub loop-id-preserved : goal.loop-id-preserved
loop-id-preserved c =
    appends_next packets.Pubrel c.args.ids.now c.loop-id.id-index c.id-item.result c.args.out.now.items c.loop-id.out.items
    c.write_pubrel.new.out.items c.loop-id-test.true c.id-item.is c.loop-id.invariant c.in_ok-write_pubrel.ensures.ok
