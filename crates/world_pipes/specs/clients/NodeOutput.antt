-- A node's pending output goes into the pipe of its connection.
use Rattle.std.specs.Prelude.{◌≡◌, ◌⊎◌, ℕ, ◌-◌, Bool, true, false, List, [], ◌++◌, Option, Some, None, set, slice_get, Result, Ok, Err}
use Rattle.headline.specs.node_moves.Moves.NodeCall.{hands_out}
use Rattle.world_base.specs.node_core.Core.{CountedCore}
use Rattle.world_base.specs.node_connections.PendingOutput.{handed_after, pending_bytes}
use Rattle.world_base.specs.node_core.PortOutput.{listed_at}
use Rattle.world_base.specs.declared.node_connections.handed.Handed.{Handed}
use Rattle.world_base.specs.declared.node_connections.handed.Handed.TheVariants as answers
use Rattle.world_base.specs.declared.node_connections.port.Port.{Port}
use Rattle.world_nodes.specs.ExactSteps.{after_node_call, NodeDoesCall, HandsOver}
use Rattle.world_nodes.specs.RunningNodes.{numbered_node}
use Rattle.world_nodes.specs.Nodes.{NodesState}
use Rattle.world_nodes.specs.Steps.{nodes_with_loss}
use Rattle.world_base.specs.node_core.Losses.{WaitsNothing}
use Rattle.world_pipes.specs.declared.pair.PipePair.{PipePair}
use Rattle.world_pipes.specs.Piped.{Piped}
use Rattle.master.specs.declared.event.Idle.{Idle}
use Rattle.world_pipes.specs.clients.NodesGoOn.{NodesStay}

-- the pending output of the node's port
abbrev pub bytes_put_out : Port → Option CountedCore → List ℕ
bytes_put_out port None = []
bytes_put_out port (Some node) = pending_bytes (listed_at port node.core)

-- whether the node's end of a connection stays open after it handed over bytes
abbrev pub is_more : Handed → Bool
is_more answers.Open = true
is_more answers.Closed = false

-- whether the node's end of the connection is open
abbrev pub is_reported_open : Port → Option CountedCore → Bool
is_reported_open port None = false
is_reported_open port (Some node) = is_more (handed_after (listed_at port node.core))

-- the node hands over the bytes of the port
abbrev pub HandsOverBytes : Option CountedCore → ℕ → Port → NodesState → NodesState → Type 0
HandsOverBytes None node port old new = new ≡ old
HandsOverBytes (Some core) node port old new =
    new ≡ after_node_call (node - 1) core (hands_out port) old

-- a node has no pending output
abbrev pub HasNothingToHandOver : ℕ → NodesState → Type 0
HasNothingToHandOver node state =
    (core : CountedCore) → numbered_node state.nodes node ≡ Some core → WaitsNothing core.core

-- these bytes are in transit down on the client's connection at this index
abbrev pub with_down : ℕ → PipePair → List ℕ → Piped → Piped
with_down at pair bytes client =
    record client { pairs = set client.pairs at (record pair { down = bytes }) }

-- whether a node's answer says that an end is open
abbrev pub tells_open : Result Handed Idle → Bool
tells_open (Ok handed) = is_more handed
tells_open (Err idle) = false

-- A node hands over what it queued for a port, after these bytes, and says whether its end is open.
-- Or it runs out of memory, and counts that: it hands nothing over, and its end is open.
abbrev pub BytesDownOrLost : ℕ → Port → NodesState → List ℕ → NodesState → List ℕ → Bool → Type 0
BytesDownOrLost node port old before new after is_open =
    (HandsOverBytes (numbered_node old.nodes node) node port old new
    × (after ≡ before ++ bytes_put_out port (numbered_node old.nodes node))
    × (is_open ≡ is_reported_open port (numbered_node old.nodes node)))
    ⊎ ((new ≡ nodes_with_loss old) × (after ≡ before) × (is_open ≡ true))

-- a node hands down what it queued, or counts a loss, after what is in transit on the connection at
-- this index
abbrev pub PipeBytesDownOrLost : ℕ → ℕ → Port → NodesState → Piped → NodesState → Piped → Bool →
    Type 0
PipeBytesDownOrLost at node port old client new later is_open =
    (pair : PipePair) → slice_get client.pairs at ≡ Some pair →
    (bytes : List ℕ) × BytesDownOrLost node port old pair.down new bytes is_open
    × (later ≡ with_down at pair bytes client)

-- it may have no memory: then it hands over nothing
abbrev pub MayHandDown : ℕ → Port → NodesState → List ℕ → NodesState → List ℕ → Type 0
MayHandDown node port old before new after =
    (NodesStay old new × (after ≡ before))
    ⊎ (NodeDoesCall (node - 1) (hands_out port) old new × HandsOver node port old before after)

-- a node may hand down what it queued, after what is in transit on the connection at this index
abbrev pub MayPutDown : ℕ → ℕ → Port → NodesState → Piped → NodesState → Piped → Type 0
MayPutDown at node port old client new later =
    (pair : PipePair) → slice_get client.pairs at ≡ Some pair →
    (bytes : List ℕ) × MayHandDown node port old pair.down new bytes
    × (later ≡ with_down at pair bytes client)

-- a node that has no pending output then has nothing, and counts no loss
abbrev pub StaysQuiet : ℕ → NodesState → NodesState → Type 0
StaysQuiet node old new =
    HasNothingToHandOver node old → HasNothingToHandOver node new × (new.losses ≡ old.losses)
