use Rattle.ballot_base.specs.Protocol.Input.{Receives}
use Rattle.world_base.proofs.of_node_core.Answering.{drives_all}
use Rattle.world_base.proofs.of_node_core.Hearing.{delivers_calmly}
use Rattle.world_base.proofs.of_node_core.Proposes.{turns_driven}
use Rattle.world_base.proofs.node_core.stepping_node.SteppingNode.receive.Goals as goal

pub returns-clause-exact : goal.returns-clause-exact
returns-clause-exact c = turns_driven _ _ _ (Receives c.args.message) _ _ _ c.give_message.ensures.hears c.handle_all.ensures.exact

pub returns-clause-lossy : goal.returns-clause-lossy
returns-clause-lossy c = drives_all (Receives c.args.message) _ _ _ _ _ _ c.give_message.ensures.acts c.handle_all.ensures.lossy

pub returns-clause-quiet : goal.returns-clause-quiet
returns-clause-quiet c = λ quiet reads. delivers_calmly _ _ _ _ (c.give_message.ensures.quiet quiet reads) c.handle_all.ensures.nothing
