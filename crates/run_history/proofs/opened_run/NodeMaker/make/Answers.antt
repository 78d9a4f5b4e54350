use Rattle.run_history.proofs.Openings.{opening_node}
use Rattle.run_history.proofs.opened_run.NodeMaker.make.Goals as goal

pub new-requires-clause-node : goal.new-requires-clause-node
new-requires-clause-node g c =
    rw (c.again.ensures, c.requires.log, c.requires.core) (opening_node g.H.RunNaming.nodes c.args.index g.H.RunNaming.config g.H.RunNaming.linked c.requires.below)
