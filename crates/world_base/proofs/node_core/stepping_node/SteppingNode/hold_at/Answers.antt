use Rattle.std.proofs.Common.{refl, sym, ◌∙◌}
use Rattle.world_base.specs.node_connections.Connections.{is_open_at}
use Rattle.world_base.specs.node_connections.ConnectionChanges.{with_unread}
use Rattle.world_base.proofs.of_node_core.Changes.{ok_holds, changed_there, changed_nowhere}
use Rattle.world_base.proofs.of_node_core.Indices.{found_there}
use Rattle.world_base.proofs.of_node_core.Idle.{found_not_none}
use Rattle.world_base.proofs.node_core.stepping_node.SteppingNode.hold_at.Goals as goal

pub returns-in-Some-clause-ok : goal.returns-in-Some-clause-ok
returns-in-Some-clause-ok c = λ whole.
    rw (← c.self.view_is) (changed_there c.args.port (with_unread c.args.piece.now) _ c.index_at.result c.in-Some.index
    c.index_mut.result.now _ (rw (← c.self.view_is) at c.index_at.ensures) c.in-Some.is c.index_mut.ensures.value
    (ok_holds c.hold.result (sym c.is_ok.ensures.value ∙ whole) c.hold.ensures.ok))

pub returns-in-None-clause-ok : goal.returns-in-None-clause-ok
returns-in-None-clause-ok c = λ _.
    changed_nowhere c.args.port (with_unread c.args.piece.now) _ c.index_at.result c.index_at.ensures c.in-None.is

pub returns-in-Some-clause-none : goal.returns-in-Some-clause-none
returns-in-Some-clause-none c =
    rw (← c.self.view_is) (found_not_none _ (found_there (is_open_at c.args.port) _ c.index_at.result c.in-Some.index _
    (rw (← c.self.view_is) at c.index_at.ensures) c.in-Some.is c.index_mut.ensures.value))
