use Rattle.world_pipes.proofs.of_clients.PutsDown.{handed_down, handing_goes, may_hand_down}
use Rattle.world_pipes.proofs.of_clients.HandsQuietly.{handing_quiet}
use Rattle.world_pipes.proofs.clients.node_output.hand_over.Goals as goal

pub returns-clause-may : goal.returns-clause-may
returns-clause-may c =
    may_hand_down c.hand_over.result c.args.node c.args.port c.args.nodes.now c.hand_over.new.self c.args.bytes.now.items c.hand_over.new.out.items c.hand_over.ensures.lossy c.hand_over.ensures.same

pub returns-clause-nodes : goal.returns-clause-nodes
returns-clause-nodes c =
    handing_goes c.args.node c.args.port c.args.nodes.now c.hand_over.new.self c.args.bytes.now.items c.hand_over.new.out.items c.hand_over.ensures.rises
    (may_hand_down c.hand_over.result c.args.node c.args.port c.args.nodes.now c.hand_over.new.self c.args.bytes.now.items c.hand_over.new.out.items c.hand_over.ensures.lossy c.hand_over.ensures.same)

pub returns-clause-hands : goal.returns-clause-hands
returns-clause-hands c =
    handed_down c.hand_over.result c.tells_open.result c.args.node c.args.port c.args.nodes.now c.hand_over.new.self c.args.bytes.now.items c.hand_over.new.out.items c.tells_open.ensures
    c.hand_over.ensures.idle c.hand_over.ensures.lossy c.hand_over.ensures.same

pub returns-clause-quiet : goal.returns-clause-quiet
returns-clause-quiet c =
    handing_quiet c.hand_over.result _ c.args.node c.args.port c.args.nodes.now c.hand_over.new.self c.hand_over.ensures.quiet c.hand_over.ensures.same
