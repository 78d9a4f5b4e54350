use Rattle.std.proofs.Common.{◌≡◌, Some, sym, ap, ◌∙◌}
use Rattle.world_base.specs.node_connections.Connections.{is_open_at}
use Rattle.world_base.specs.node_core.PacketInput.{open_at, unread_of}
use Rattle.world_base.proofs.of_node_core.Indices.{none_found, found_there}
use Rattle.world_base.proofs.node_core.stepping_node.SteppingNode.unread_len.Goals as goal

pub returns-in-Some : goal.returns-in-Some
returns-in-Some c =
    let found : open_at c.args.port c.args.self.now.core ≡ Some c.index.result.now =
    rw (← c.self.view_is) (found_there (is_open_at c.args.port) _ c.index_at.result c.in-Some.index _
    (rw (← c.self.view_is) at c.index_at.ensures) c.in-Some.is c.index.ensures) in
    c.len.ensures ∙ sym (ap unread_of found)

pub returns-in-None : goal.returns-in-None
returns-in-None c =
    sym (ap unread_of (none_found (is_open_at c.args.port) _ (sym c.in-None.is ∙ c.index_at.ensures)))
