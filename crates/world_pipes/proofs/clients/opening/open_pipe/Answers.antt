use Rattle.std.proofs.Common.{inl, refl}
use Rattle.world_pipes.proofs.of_clients.NodesGoOn.{nodes_rest}
use Rattle.world_pipes.proofs.of_clients.Offered.{back_leads, reaches}
use Rattle.world_pipes.proofs.clients.opening.open_pipe.Goals as goal

pub returns-in-Ok-clause-reaches : goal.returns-in-Ok-clause-reaches
returns-in-Ok-clause-reaches c =
    reaches c.keep_if_taken.result c.args.node c.args.port c.args.nodes.now c.keep_if_taken.new.nodes c.args.piped.now c.open.new.self c.keep_if_taken.new.piped
    c.in-Ok.ensures.opens c.in-Ok.ensures.goes c.keep_if_taken.ensures.takes c.keep_if_taken.ensures.piped

pub returns-in-Ok-clause-leads : goal.returns-in-Ok-clause-leads
returns-in-Ok-clause-leads c =
    back_leads c.keep_if_taken.result c.args.node c.args.port c.args.piped.now c.open.new.self c.keep_if_taken.new.piped c.in-Ok.ensures.opens c.keep_if_taken.ensures.piped

pub returns-in-Err-clause-nodes : goal.returns-in-Err-clause-nodes
returns-in-Err-clause-nodes c = nodes_rest _ _ refl

pub returns-in-Err-clause-reaches : goal.returns-in-Err-clause-reaches
returns-in-Err-clause-reaches c = (c.in-Err.ensures.goes, inl refl, inl (_, c.in-Err.ensures.opens, refl))
