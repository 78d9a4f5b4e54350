use Rattle.std.proofs.Common.{◌∙◌, ap}
use Rattle.std.specs.Option.{is_some}
use Rattle.world_base.specs.node_connections.Connections.{is_at}
use Rattle.world_base.specs.declared.node_core.node_core.NodeCore.TheInside.{Inside}
use Rattle.world_base.specs.node_core.Core.{CountedCore}
use Rattle.world_base.specs.node_core.PortOutput.{listed_at}
use Rattle.world_base.proofs.of_node_core.FoundWhere.{any_is_found}
use Rattle.world_base.proofs.node_core.node_core.NodeCore.has_port.Goals as goal

pub returns : goal.returns
returns c =
    (rw c.deref.ensures.value at c.has_port.ensures) ∙ any_is_found (is_at c.args.port) c.self-inside.inside.0.0.connections.items
    ∙ ap (λ (n : Inside). is_some (listed_at c.args.port n.stepping.core)) c.self-inside.view_is
    ∙ ap (λ (n : CountedCore). is_some (listed_at c.args.port n.core)) c.self.view_is
