-- What takes no memory at nodes: no loss is counted for it.
use Rattle.std.specs.Prelude.{◌≡◌, ◌<◌, ℕ, zero, suc, [], Option, Some, None}
use Rattle.ballot_base.specs.Losses.{greatest_count}
use Rattle.std.specs.List.{find}
use Rattle.ballot_base.specs.declared.message.Body.{Body}
use Rattle.ballot_base.specs.declared.message.Body.TheVariants.{Activate}
use Rattle.ballot_base.specs.declared.message.Message.{Message}
use Rattle.broker_spec.specs.declared.command.Command.{Command}
use Rattle.world_base.specs.node_connections.Connections.{has_failed}
use Rattle.world_base.specs.declared.node_core.item.Item.{Item}
use Rattle.world_base.specs.declared.node_core.item.Item.TheVariants.{Peer}
use Rattle.world_base.specs.declared.node_connections.port.Port.{Port}
use Rattle.world_base.specs.node_core.Core.{CountedCore}
use Rattle.world_base.specs.node_connections.PendingOutput.{pending_bytes}
use Rattle.world_base.specs.node_core.PortOutput.{listed_at}
use Rattle.world_base.specs.node_core.Losses.{ItemTakesNoMemory}
use Rattle.world_nodes.specs.RunningNodes.{numbered_node, running}
use Rattle.world_nodes.specs.Nodes.{NodesState}

-- The node of this number runs, and the item takes no memory there. It has no failed connection
-- that is still to be reported to its broker, and its count of losses is below its greatest number.
pub record RestsAt (node : ℕ) (item : Item) (state : NodesState) : Type 0 where
  pub core : CountedCore
  pub runs : running state.nodes node ≡ Some core
  pub takes : ItemTakesNoMemory item core.core
  pub none_failed : find has_failed core.core.connections ≡ None
  pub low : core.losses < greatest_count

-- the master answers an Activate, and ignores every other message
abbrev pub IsUnheeded : Body Command → Type 0
IsUnheeded (Activate ballot) = ⊥
IsUnheeded _ = Unit {0}

-- a message that was sent reaches the master, which ignores it, or a node that does
abbrev pub ComesUnheeded : Option (ℕ × Message Command) → NodesState → Type 0
ComesUnheeded None state = ⊥
ComesUnheeded (Some (zero, message)) state = IsUnheeded message.body
ComesUnheeded (Some (suc at, message)) state = RestsAt (suc at) (Peer message) state

-- nothing waits at a node to be handed over for a port
abbrev pub WaitsAtNone : ℕ → Port → NodesState → Type 0
WaitsAtNone node port state =
    (core : CountedCore) → numbered_node state.nodes node ≡ Some core →
    pending_bytes (listed_at port core.core) ≡ []
