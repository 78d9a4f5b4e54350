use Rattle.std.proofs.Common.{sym, ◌∙◌}
use Rattle.world_base.proofs.of_node_core.EndsRun.{ran_tells, ran_tells_not}
use Rattle.world_base.proofs.of_node_core.StepsJoin.{turns_idle}
use Rattle.world_base.proofs.node_core.stepping_node.SteppingNode.report_lost.Goals as goal

pub returns-then-is_proposed-clause-exact : goal.returns-then-is_proposed-clause-exact
returns-then-is_proposed-clause-exact c = rw (sym c.is_proposed.ensures ∙ c.if-is_proposed.true) c.propose.ensures.exact

pub returns-then-is_proposed-clause-lossy : goal.returns-then-is_proposed-clause-lossy
returns-then-is_proposed-clause-lossy c =
    ran_tells _ c.propose.result c.args.name _ _ _ _ (sym c.is_proposed.ensures ∙ c.if-is_proposed.true) c.propose.ensures.lossy

pub returns-else-is_proposed-clause-exact : goal.returns-else-is_proposed-clause-exact
returns-else-is_proposed-clause-exact c = rw (sym c.is_proposed.ensures ∙ c.if-is_proposed.false) (turns_idle _ _)

pub returns-else-is_proposed-clause-lossy : goal.returns-else-is_proposed-clause-lossy
returns-else-is_proposed-clause-lossy c =
    ran_tells_not _ c.args.name _ _ (sym c.is_proposed.ensures ∙ c.if-is_proposed.false)
