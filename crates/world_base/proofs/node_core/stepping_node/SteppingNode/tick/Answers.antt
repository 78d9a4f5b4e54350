use Rattle.std.proofs.Common.{◌∙◌}
use Rattle.ballot_base.specs.Protocol.Input.{Ticks}
use Rattle.world_base.proofs.of_node_core.Answering.{drives_all}
use Rattle.world_base.proofs.of_node_core.Proposes.{turns_driven}
use Rattle.world_base.proofs.node_core.stepping_node.SteppingNode.tick.Goals as goal

pub returns-clause-exact : goal.returns-clause-exact
returns-clause-exact c = turns_driven _ _ _ Ticks _ _ _ c.tick_replica.ensures.hears c.handle_all.ensures.exact

pub returns-clause-lossy : goal.returns-clause-lossy
returns-clause-lossy c = drives_all Ticks _ _ _ _ _ _ c.tick_replica.ensures.acts c.handle_all.ensures.lossy

pub returns-clause-quiet : goal.returns-clause-quiet
returns-clause-quiet c = λ ignored.
    let still = c.tick_replica.ensures.quiet ignored in
    c.handle_all.ensures.nothing still.1 ∙ still.0
