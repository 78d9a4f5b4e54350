use Rattle.std.proofs.Common.{sym, ◌∙◌}
use Rattle.world_base.specs.node_connections.Connections.{has_failed}
use Rattle.world_base.specs.node_connections.ConnectionChanges.{closed_connection}
use Rattle.world_base.proofs.of_node_core.Changes.{there, core_there}
use Rattle.world_base.proofs.of_node_core.EndsRun.{idle_failed, ran_failed, ran_none_failed}
use Rattle.world_base.proofs.of_node_core.Failures.{failed_none, failed_next, failed_one, none_some}
use Rattle.world_base.proofs.of_node_core.Indices.{none_found, found_there}
use Rattle.world_base.proofs.node_core.stepping_node.SteppingNode.report_one_failed.Goals as goal

pub returns-in_default-clause-exact : goal.returns-in_default-clause-exact
returns-in_default-clause-exact c =
    failed_none c.args.self.now c.args.effects.now.items
    (none_found has_failed c.args.self.now.core.connections (sym c.in_default.is ∙ c.index_failed.ensures))

pub returns-in_default-clause-done : goal.returns-in_default-clause-done
returns-in_default-clause-done c = λ _.
    failed_next c.args.self.now.core
    (none_found has_failed c.args.self.now.core.connections (sym c.in_default.is ∙ c.index_failed.ensures))

pub returns-clause-exact : goal.returns-clause-exact
returns-clause-exact c =
    failed_one c.index_mut-connection.result.now _ _ _ _ _
    (rw (← c.self.view_is) (found_there has_failed _ c.index_failed.result c.in-Some.index _
    (rw (← c.self.view_is) at c.index_failed.ensures) c.in-Some.is c.index_mut-connection.ensures.value))
    (rw (← c.self.view_is) (there has_failed closed_connection _ c.index_failed.result c.in-Some.index
    c.index_mut-connection.result.now c.close.new.self (rw (← c.self.view_is) at c.index_failed.ensures) c.in-Some.is
    c.index_mut-connection.ensures.value c.close.ensures))
    c.propose.ensures.exact

pub returns-in_default-clause-lossy : goal.returns-in_default-clause-lossy
returns-in_default-clause-lossy c =
    ran_none_failed c.args.self.now.core c.args.effects.now.items
    (none_found has_failed c.args.self.now.core.connections (sym c.in_default.is ∙ c.index_failed.ensures))

pub returns-in_default-clause-idle : goal.returns-in_default-clause-idle
returns-in_default-clause-idle c = λ _.
    idle_failed c.args.self.now.core
    (none_found has_failed c.args.self.now.core.connections (sym c.in_default.is ∙ c.index_failed.ensures))

pub returns-clause-lossy : goal.returns-clause-lossy
returns-clause-lossy c =
    ran_failed c.index_mut-connection.result.now _ _ _ c.propose.result _ _
    (rw (← c.self.view_is) (found_there has_failed _ c.index_failed.result c.in-Some.index _
    (rw (← c.self.view_is) at c.index_failed.ensures) c.in-Some.is c.index_mut-connection.ensures.value))
    (rw (← c.self.view_is) (core_there has_failed closed_connection _ c.index_failed.result c.in-Some.index
    c.index_mut-connection.result.now c.close.new.self (rw (← c.self.view_is) at c.index_failed.ensures) c.in-Some.is
    c.index_mut-connection.ensures.value c.close.ensures))
    c.propose.ensures.lossy

pub returns-clause-none : goal.returns-clause-none
returns-clause-none c =
    none_some c.index_mut-connection.result.now _ _
    (rw (← c.self.view_is) (found_there has_failed _ c.index_failed.result c.in-Some.index _
    (rw (← c.self.view_is) at c.index_failed.ensures) c.in-Some.is c.index_mut-connection.ensures.value))
