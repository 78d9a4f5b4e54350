-- When an event cannot happen: then it is idle.
use Rattle.std.specs.Prelude.{◌≡◌, ◌⊎◌, ℕ, suc, ◌==◌, ◌&&◌, Bool, true, false, List, [], Option, Some, None, length, slice_get}
use Rattle.std.specs.List.{position}
use Rattle.agreement.specs.MasterState.{refusal}
use Rattle.client.specs.Core.{Core}
use Rattle.client_base.specs.State.{is_open}
use Rattle.client_base.specs.Steps.{Call, keeper_step}
use Rattle.world_base.specs.node_core.Core.{CountedCore, serves}
use Rattle.world_nodes.specs.ExactSteps.{ComesToNobody}
use Rattle.world_nodes.specs.RunningNodes.{cutting, numbered_node, proposing, running}
use Rattle.world_pipes.specs.declared.pair.PipePair.{PipePair}
use Rattle.world_pipes.specs.Piped.{is_holding}
use Rattle.world_pipes.specs.declared.events.event.Event.{Event}
use Rattle.world_pipes.specs.declared.events.event.Event.TheVariants as events
use Rattle.world_pipes.specs.declared.clients.connection_slot.ConnectionSlot.{ConnectionSlot}
use Rattle.world_pipes.specs.declared.clients.world_client.WorldClient.{WorldClient}
use Rattle.world.specs.Found.{core_named, slot_numbered, pair_of}
use Rattle.world_pipes.specs.clients.Clients.{is_named}
use Rattle.world.specs.World.{WorldState}
use Rattle.world_pipes.specs.clients.Transport.{IsNoPart}

-- there is no such client, or it holds no connection
abbrev pub HoldsNone : Option Core → Type 0
HoldsNone None = Unit {0}
HoldsNone (Some core) = is_open core.state.stage ≡ false

-- there is no such client, or it holds a connection
abbrev pub CannotOpen : Option Core → Type 0
CannotOpen None = Unit {0}
CannotOpen (Some core) = is_open core.state.stage ≡ true

-- there is no such client, or it refuses the call
abbrev pub RefusesCall : Call → Option Core → Type 0
RefusesCall call None = Unit {0}
RefusesCall call (Some core) = (keeper_step call core.state).refusal ≡ None → ⊥

-- whether a node exists, runs, and is the primary of an active ballot
abbrev pub is_serving : Option CountedCore → Bool
is_serving None = false
is_serving (Some node) = serves node.core

-- the connection was never opened, its end at the node is closed, or the node has stopped
abbrev pub IsClosed : Option ConnectionSlot → List CountedCore → Type 0
IsClosed None nodes = Unit {0}
IsClosed (Some slot) nodes = (slot.is_open ≡ false) ⊎ (running nodes slot.node ≡ None)

-- whether a client holds this connection: its newest one
abbrev pub is_held_by : Option WorldClient → ℕ → Bool
is_held_by None at = false
is_held_by (Some client) at = is_holding client.piped && (suc at == length client.piped.pairs)

-- whether the client of this slot holds the connection
abbrev pub is_held : Option ConnectionSlot → List WorldClient → Bool
is_held None clients = false
is_held (Some slot) clients = is_held_by (slice_get clients slot.client) slot.at

-- the bytes in transit to the node: none if there is no connection
abbrev pub up_of : Option PipePair → List ℕ
up_of None = []
up_of (Some pair) = pair.up

-- the bytes in transit to the client: none if there is no connection
abbrev pub down_of : Option PipePair → List ℕ
down_of None = []
down_of (Some pair) = pair.down

-- why an event cannot happen in a world, kind by kind
abbrev pub CannotHappen : Event → WorldState → Type 0
CannotHappen (events.Assign config) world = refusal world.nodes.master config ≡ None → ⊥
CannotHappen (events.Deliver number) world =
    ComesToNobody (slice_get world.nodes.sent number) world.nodes
CannotHappen (events.Tick node) world = running world.nodes.nodes node ≡ None
CannotHappen (events.Cut node) world = cutting world.nodes.nodes node ≡ None
CannotHappen (events.Expel name node) world =
    (position (is_named name) world.clients ≡ None) ⊎ (proposing world.nodes.nodes node ≡ None)
CannotHappen (events.Crash node) world = running world.nodes.nodes node ≡ None
CannotHappen (events.Open name node) world =
    CannotOpen (core_named name world.clients)
    ⊎ (is_serving (numbered_node world.nodes.nodes node) ≡ false)
CannotHappen (events.CarryUp number count) world =
    IsClosed (slot_numbered number world.connections) world.nodes.nodes
    ⊎ IsNoPart count (up_of (pair_of number world))
CannotHappen (events.CarryDown number count) world =
    (is_held (slot_numbered number world.connections) world.clients ≡ false)
    ⊎ IsNoPart count (down_of (pair_of number world))
CannotHappen (events.Abandon name) world = HoldsNone (core_named name world.clients)
CannotHappen (events.Disconnect name) world = HoldsNone (core_named name world.clients)
CannotHappen (events.Notice number) world =
    IsClosed (slot_numbered number world.connections) world.nodes.nodes
CannotHappen (events.Publish name publication) world =
    RefusesCall (Call.Publishes publication) (core_named name world.clients)
CannotHappen (events.Subscribe name filter qos) world =
    RefusesCall (Call.Subscribes filter qos) (core_named name world.clients)
CannotHappen (events.Unsubscribe name filter) world =
    RefusesCall (Call.Unsubscribes filter) (core_named name world.clients)
