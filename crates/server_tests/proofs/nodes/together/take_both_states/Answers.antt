use denote.Param.Send.{sendable}
use Rattle.node.proofs.Crossing.{state_send}
use Rattle.server_tests.proofs.nodes.together.take_both_states.Goals as goal

pub take_both-requires-send-S : goal.take_both-requires-send-S
take_both-requires-send-S g c κs within = search (state_send, sendable) depth 10
