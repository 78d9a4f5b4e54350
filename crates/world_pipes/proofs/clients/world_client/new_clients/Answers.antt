use Rattle.std.proofs.Common.{arith}
use Rattle.world_pipes.proofs.of_clients.ClientsMade.{made_more}
use Rattle.world_pipes.proofs.clients.world_client.new_clients.Goals as goal

pub loop-client-preserved : goal.loop-client-preserved
loop-client-preserved c =
    made_more c.loop-client.made.items c.push.new.self.items c.args.clients.now c.loop-client.client-index c.in_ok-new_one.field-0 c.client-item.result
    (omega arith) c.client-item.is c.in_ok-new_one.ensures.stands c.in_ok-new_one.ensures.named c.in_ok-new_one.ensures.new c.in_ok-push.ensures.items c.loop-client.invariant
