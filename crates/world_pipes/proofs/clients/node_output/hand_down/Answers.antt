use Rattle.world_pipes.proofs.of_clients.PutsDown.{may_put, puts, same_leads}
use Rattle.world_pipes.proofs.of_clients.Turned.{there}
use Rattle.world_pipes.proofs.clients.node_output.hand_down.Goals as goal

pub returns-clause-puts : goal.returns-clause-puts
returns-clause-puts c =
    puts c.args.node c.args.port c.args.nodes.now c.hand_over-is_open.new.nodes c.args.piped.now c.swap_down.new.self c.swap_down-2.new.self c.args.at
    c.new-bytes.result.items c.swap_down.new.bytes.items c.hand_over-is_open.new.bytes.items c.hand_over-is_open.result c.swap_down.ensures.left c.swap_down.ensures.given
    c.swap_down-2.ensures.left c.hand_over-is_open.ensures.hands

pub returns-clause-may : goal.returns-clause-may
returns-clause-may c =
    may_put c.args.node c.args.port c.args.nodes.now c.hand_over-is_open.new.nodes c.args.piped.now c.swap_down.new.self c.swap_down-2.new.self c.args.at
    c.new-bytes.result.items c.swap_down.new.bytes.items c.hand_over-is_open.new.bytes.items c.swap_down.ensures.left c.swap_down.ensures.given c.swap_down-2.ensures.left
    c.hand_over-is_open.ensures.may

pub returns-clause-leads : goal.returns-clause-leads
returns-clause-leads c =
    let pair = there c.args.piped.now.pairs c.args.at c.requires in
    same_leads c.args.piped.now c.swap_down.new.self c.swap_down-2.new.self c.args.at c.new-bytes.result.items c.hand_over-is_open.new.bytes.items pair.0 pair.1
    c.swap_down.ensures.left c.swap_down-2.ensures.left
