use denote.Param.Send.{sendable}
use Rattle.node.proofs.Crossing.{state_send}
use Rattle.server.proofs.serving.serve_states.Goals as goal

pub serve_by-requires-send-S : goal.serve_by-requires-send-S
serve_by-requires-send-S g c κs within = search (state_send, sendable) depth 10
