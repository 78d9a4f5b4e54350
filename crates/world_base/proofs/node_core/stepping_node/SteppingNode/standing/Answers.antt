use Rattle.std.proofs.Common.{sym, ap, ◌∙◌}
use Rattle.world_base.specs.node_connections.Connections.{is_at}
use Rattle.world_base.specs.node_connections.Stands.{standing_of}
use Rattle.world_base.proofs.of_node_core.Indices.{none_found, found_there}
use Rattle.world_base.proofs.node_core.stepping_node.SteppingNode.standing.Goals as goal

pub returns-in_default : goal.returns-in_default
returns-in_default c =
    sym (ap standing_of (none_found (is_at c.args.port) c.args.self.now.core.connections
    (sym c.in_default.is ∙ c.index_listed.ensures)))

pub returns : goal.returns
returns c =
    let at = rw (← c.self.view_is) at c.index_listed.ensures in
    c.standing.ensures
    ∙ rw (← c.self.view_is) (ap standing_of (sym
    (found_there (is_at c.args.port) _ c.index_listed.result c.in-Some.index _ at c.in-Some.is
    c.index-connection.ensures)))
