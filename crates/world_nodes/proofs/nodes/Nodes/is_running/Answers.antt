use Rattle.std.proofs.Common.{refl, ap}
use Rattle.ballot_base.specs.declared.status.Status.{Status}
use Rattle.world_nodes.proofs.Stopped.{runs_exactly, runs_none}
use Rattle.world_nodes.proofs.nodes.Nodes.is_running.Goals as goal

pub returns-in-Some-clause-stopped : goal.returns-in-Some-clause-stopped
returns-in-Some-clause-stopped c =
    runs_exactly c.args.self.now.nodes c.args.node c.in-Some.core.now c.in-Some.ensures.some c.status.result.stopped (ap (λ (s : Status). s.stopped) c.status.ensures)

pub returns-in-None-clause-stopped : goal.returns-in-None-clause-stopped
returns-in-None-clause-stopped c = runs_none c.args.self.now.nodes c.args.node (c.in-None.ensures.none refl)
