use Rattle.world_base.specs.node_core.LossyStep.{ReportsAllFailed, DoesItem}
use Rattle.world_base.proofs.of_node_core.Accounts.{ran_then}
use Rattle.world_base.proofs.of_node_core.Idle.{calm_then}
use Rattle.world_base.proofs.node_core.stepping_node.SteppingNode.act_on.Goals as goal

pub returns-clause-lossy : goal.returns-clause-lossy
returns-clause-lossy c =
    ran_then (DoesItem c.args.item) ReportsAllFailed _ _ _ _ _ _ c.do_item.ensures.lossy c.report_failed.ensures.lossy

pub returns-clause-quiet : goal.returns-clause-quiet
returns-clause-quiet c = λ takes failed. calm_then _ _ _ (c.do_item.ensures.quiet takes) c.report_failed.ensures.none failed
