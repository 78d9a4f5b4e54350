use Rattle.world_nodes.proofs.Welcomes.{welcomed_in}
use Rattle.world_nodes.proofs.nodes.Nodes.welcomes_back.Goals as goal

pub returns-clause-known : goal.returns-clause-known
returns-clause-known c core there =
    welcomed_in _ c.args.self.now _ _ c.self.invariant c.self.view_is c.args.node c.in-Some.core.now c.in-Some.ensures.some c.args.client.now c.snapshot-base.result.0 c.snapshot-base.result.1.now
    c.in_ok-machine.machine c.apply_all.new.machine c.rest.result.now c.welcomes.result c.snapshot-base.ensures.base c.snapshot-base.ensures.bytes c.in_ok-machine.ensures.fresh
    c.in_ok-machine.ensures.thawed c.rest.ensures.rest c.in_ok-apply_all.ensures c.welcomes.ensures
