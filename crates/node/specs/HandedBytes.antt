-- What a node handed over for a port, by a log of the run.
use Rattle.std.specs.Prelude.{ℕ, ◌==◌, if◌then◌else◌, List, [], ◌∷◌, ◌++◌, Option, Some, slice_get}
use Rattle.ballot_base.specs.declared.config.Config.{Config}
use Rattle.world_base.specs.declared.node_connections.port.Port.{Port}
use Rattle.world_base.specs.node_connections.PendingOutput.{pending_bytes}
use Rattle.world_base.specs.node_core.Core.{CoreState}
use Rattle.world_base.specs.node_core.PortOutput.{listed_at}
use Rattle.run_history.specs.declared.event.NodeAct.{NodeAct}
use Rattle.run_history.specs.declared.event.NodeAct.TheVariants.{HandsOver}
use Rattle.run_history.specs.declared.event.RunEvent.{RunEvent}
use Rattle.run_history.specs.declared.event.RunEvent.TheVariants.{ByNode}
use Rattle.run_history.specs.Log.{nodes_after, nodes_in}

-- the bytes that an act of a node in this state hands over for a port: all that is pending there
abbrev pub bytes_of_act : NodeAct → Port → Option CoreState → List ℕ
bytes_of_act (HandsOver other) port (Some core) =
    if other.0 == port.0 then pending_bytes (listed_at other core) else []
bytes_of_act act port core = []

-- the bytes that an event hands over for a port of the node at this index
abbrev pub bytes_of : ℕ → Port → List CoreState → RunEvent → List ℕ
bytes_of index port nodes (ByNode event) =
    if event.node == index then bytes_of_act event.act port (slice_get nodes index) else []
bytes_of index port nodes event = []

-- the bytes that these events hand over for the port, where the nodes are these at first
abbrev pub handed_from : ℕ → Port → List CoreState → List RunEvent → List ℕ
handed_from index port nodes (event ∷ events) =
    bytes_of index port nodes event
    ++ handed_from index port (nodes_after nodes (event ∷ [])) events
handed_from index port nodes [] = []

-- all bytes that the node at this index handed over for a port by a log of a group that opens like
-- this, in order
abbrev pub handed_at : ℕ → Config → ℕ → Port → List RunEvent → List ℕ
handed_at nodes config index port log = handed_from index port (nodes_in nodes config []) log
