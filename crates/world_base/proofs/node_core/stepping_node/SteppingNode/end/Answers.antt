use Rattle.std.proofs.Common.{sym, ◌∙◌}
use Rattle.world_base.specs.node_connections.Connections.{is_open_at}
use Rattle.world_base.proofs.of_node_core.Indices.{none_found, found_there}
use Rattle.world_base.proofs.of_node_core.Closes.{ends_none, ends_proposed, ends_other}
use Rattle.world_base.proofs.of_node_core.EndsRun.{core_of, ran_none_open, ran_proposed, ran_unproposed}
use Rattle.world_base.proofs.of_node_core.Idle.{closes_nothing, proposed_then}
use Rattle.world_base.proofs.node_core.stepping_node.SteppingNode.end.Goals as goal

pub returns-in_default-clause-exact : goal.returns-in_default-clause-exact
returns-in_default-clause-exact c =
    ends_none c.args.port _ _ (none_found (is_open_at c.args.port) _ (sym c.in_default.is ∙ c.index_at.ensures))

pub returns-in_default-clause-lossy : goal.returns-in_default-clause-lossy
returns-in_default-clause-lossy c =
    ran_none_open c.args.port _ _ (none_found (is_open_at c.args.port) _ (sym c.in_default.is ∙ c.index_at.ensures))

pub returns-then-proposed-clause-exact : goal.returns-then-proposed-clause-exact
returns-then-proposed-clause-exact c =
    ends_proposed c.args.port c.index-connection.result.now _ c.close.new.self _ _ _
    (rw (← c.self.view_is) (found_there (is_open_at c.args.port) _ c.index_at.result c.in-Some.index _
    (rw (← c.self.view_is) at c.index_at.ensures) c.in-Some.is c.index-connection.ensures))
    (sym c.is_proposed-proposed.ensures ∙ c.if-proposed.true) c.close.ensures c.propose.ensures.exact

pub returns-then-proposed-clause-lossy : goal.returns-then-proposed-clause-lossy
returns-then-proposed-clause-lossy c =
    ran_proposed c.args.port c.index-connection.result.now _ c.close.new.self.core _ c.propose.result _ _
    (rw (← c.self.view_is) (found_there (is_open_at c.args.port) _ c.index_at.result c.in-Some.index _
    (rw (← c.self.view_is) at c.index_at.ensures) c.in-Some.is c.index-connection.ensures))
    (sym c.is_proposed-proposed.ensures ∙ c.if-proposed.true) (core_of _ _ c.close.ensures) c.propose.ensures.lossy

pub returns-else-proposed-clause-exact : goal.returns-else-proposed-clause-exact
returns-else-proposed-clause-exact c =
    ends_other c.args.port c.index-connection.result.now _ c.close.new.self _
    (rw (← c.self.view_is) (found_there (is_open_at c.args.port) _ c.index_at.result c.in-Some.index _
    (rw (← c.self.view_is) at c.index_at.ensures) c.in-Some.is c.index-connection.ensures))
    (sym c.is_proposed-proposed.ensures ∙ c.if-proposed.false) c.close.ensures

pub returns-else-proposed-clause-lossy : goal.returns-else-proposed-clause-lossy
returns-else-proposed-clause-lossy c =
    ran_unproposed c.args.port c.index-connection.result.now _ c.close.new.self.core _
    (rw (← c.self.view_is) (found_there (is_open_at c.args.port) _ c.index_at.result c.in-Some.index _
    (rw (← c.self.view_is) at c.index_at.ensures) c.in-Some.is c.index-connection.ensures))
    (sym c.is_proposed-proposed.ensures ∙ c.if-proposed.false) (core_of _ _ c.close.ensures)

pub returns-in_default-clause-unproposed : goal.returns-in_default-clause-unproposed
returns-in_default-clause-unproposed c = λ _.
    closes_nothing c.args.port _ (none_found (is_open_at c.args.port) _ (sym c.in_default.is ∙ c.index_at.ensures))

pub returns-then-proposed-clause-unproposed : goal.returns-then-proposed-clause-unproposed
returns-then-proposed-clause-unproposed c =
    proposed_then _ c.index-connection.result.now
    (rw (← c.self.view_is) (found_there (is_open_at c.args.port) _ c.index_at.result c.in-Some.index _
    (rw (← c.self.view_is) at c.index_at.ensures) c.in-Some.is c.index-connection.ensures))
    (sym c.is_proposed-proposed.ensures ∙ c.if-proposed.true)

pub returns-else-proposed-clause-unproposed : goal.returns-else-proposed-clause-unproposed
returns-else-proposed-clause-unproposed c = λ _. c.close.ensures
