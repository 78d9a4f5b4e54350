use Rattle.std.proofs.Common.{refl, inl}
use Rattle.world_pipes.proofs.of_clients.NodesGoOn.{call_goes}
use Rattle.world_pipes.proofs.of_clients.TakesPart.{less_leads}
use Rattle.world_pipes.proofs.of_clients.NodesGoOn.{nodes_rest}
use Rattle.world_pipes.proofs.of_clients.Turned.{there}
use Rattle.world_pipes.proofs.clients.transport.carry_to_node.Goals as goal

pub returns-then-not-is_part-clause-nodes : goal.returns-then-not-is_part-clause-nodes
returns-then-not-is_part-clause-nodes c = nodes_rest _ _ refl

pub returns-in_default-clause-nodes : goal.returns-in_default-clause-nodes
returns-in_default-clause-nodes c = nodes_rest _ _ refl

pub returns-in_err-give_bytes-clause-nodes : goal.returns-in_err-give_bytes-clause-nodes
returns-in_err-give_bytes-clause-nodes c = call_goes c.give_bytes.result c.args.nodes.now c.give_bytes.new.self _ _ c.give_bytes.ensures.rises c.give_bytes.ensures.acts c.give_bytes.ensures.same

pub returns-clause-nodes : goal.returns-clause-nodes
returns-clause-nodes c = call_goes c.give_bytes.result c.args.nodes.now c.give_bytes.new.self _ _ c.give_bytes.ensures.rises c.give_bytes.ensures.acts c.give_bytes.ensures.same

pub returns-clause-leads : goal.returns-clause-leads
returns-clause-leads c =
    let pair = there c.args.piped.now.pairs c.args.slot.at c.requires in
    less_leads c.args.piped.now c.take_up.new.self c.args.slot.at c.args.count pair.0 pair.1 c.take_up.ensures.taken

pub returns-then-not-is_running-clause-nodes : goal.returns-then-not-is_running-clause-nodes
returns-then-not-is_running-clause-nodes c = nodes_rest _ _ refl

pub returns-then-not-is_running-clause-idle : goal.returns-then-not-is_running-clause-idle
returns-then-not-is_running-clause-idle c = λ pair found. inl (c.is_running.ensures.stopped.0 c.if-not-is_running.true)
