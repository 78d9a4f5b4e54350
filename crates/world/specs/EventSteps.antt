-- What an event does: exactly, or, if losses are allowed (`whole` is false), perhaps with losses.
use Rattle.std.specs.Prelude.{◌≡◌, ℕ, Bool, true, false, List, Option, Some, None, Err, slice_get, take}
use Rattle.ballot_base.specs.declared.config.Config.{Config}
use Rattle.ballot_base.specs.declared.message.Message.{Message}
use Rattle.broker_spec.specs.declared.command.Command.{Command}
use Rattle.client_base.specs.Steps.{Call}
use Rattle.client_base.specs.declared.error.ClientError.TheVariants as errors
use Rattle.world_base.specs.declared.node_core.item.Item.TheVariants as items
use Rattle.world_nodes.specs.ExactSteps.{MessageArrives, CutsExactly, TakesExactly, after_giving}
use Rattle.world_nodes.specs.Nodes.{NodesState}
use Rattle.world_nodes.specs.Steps.{DeliveryOrLost, NewBallotOrLost, NodeCutOrLost, NodeExpelOrLost}
use Rattle.world_pipes.specs.Piped.{CarriesDown, Piped}
use Rattle.world_pipes.specs.declared.events.event.Event.{Event}
use Rattle.world_pipes.specs.declared.events.event.Event.TheVariants as events
use Rattle.world.specs.Found.{Connected, port_at_node, with_piped}
use Rattle.world_pipes.specs.clients.Transport.{with_less}
use Rattle.world.specs.NodeOutput.{Gathers, TakesItem}
use Rattle.world.specs.World.{WorldState}
use Rattle.world.specs.ClientCalls.{ClientDoes, SendsCall, LosesAsking, SendsDisconnect, LosesLeaving}
use Rattle.world_pipes.specs.clients.ClientCalls.{LosesConnection}
use Rattle.world_pipes.specs.clients.Transport.{CarriesDownWhere}
use Rattle.world.specs.Opening.{OpensNone, OpensWhere}

-- the master assigns a ballot, exactly or perhaps with losses
abbrev pub Assigns : Bool → Config → NodesState → NodesState → Type 0
Assigns true config old new = new ≡ after_giving config old
Assigns false config old new = NewBallotOrLost config old new

-- a message comes to its receiver, a node or the master, exactly or perhaps with losses
abbrev pub DeliversMessage : Bool → Option (ℕ × Message Command) → NodesState → NodesState → Type 0
DeliversMessage true message old new = MessageArrives message old new
DeliversMessage false message old new = DeliveryOrLost message old new

-- a node cuts its log, exactly or perhaps with losses
abbrev pub CutsLog : Bool → ℕ → NodesState → NodesState → Type 0
CutsLog true node old new = CutsExactly node old new
CutsLog false node old new = NodeCutOrLost node old new

-- a node proposes to end the session of a client
abbrev pub ProposesExpel : Bool → List ℕ → ℕ → NodesState → NodesState → Type 0
ProposesExpel true name node old new = TakesExactly node (items.Expel name) old new
ProposesExpel false name node old new = NodeExpelOrLost name node old new

-- the receiver of a message that was sent; 0, the master, if there is none
abbrev pub receiver_of : Option (ℕ × Message Command) → ℕ
receiver_of None = 0
receiver_of (Some (receiver, message)) = receiver

-- what an event does to a world, kind by kind
abbrev pub DoesEvent : Bool → Event → WorldState → WorldState → Type 0
DoesEvent whole (events.Assign config) old new =
    (between : NodesState) × Assigns whole config old.nodes between
    × (new ≡ record old { nodes = between })
DoesEvent whole (events.Deliver number) old new =
    (between : NodesState)
    × DeliversMessage whole (slice_get old.nodes.sent number) old.nodes between
    × Gathers whole (receiver_of (slice_get old.nodes.sent number))
    (record old { nodes = between }) new
DoesEvent whole (events.Tick node) old new = TakesItem whole node (items.Tick 0) old new
DoesEvent whole (events.Cut node) old new =
    (between : NodesState) × CutsLog whole node old.nodes between
    × Gathers whole node (record old { nodes = between }) new
DoesEvent whole (events.Expel name node) old new =
    (between : NodesState) × ProposesExpel whole name node old.nodes between
    × Gathers whole node (record old { nodes = between }) new
DoesEvent whole (events.Crash node) old new = TakesItem whole node items.Crash old new
DoesEvent whole (events.Open name node) old new = OpensWhere whole name node old new
DoesEvent whole (events.CarryUp number count) old new =
    (connection : Connected number old)
    × TakesItem whole connection.slot.node
    (items.Bytes (port_at_node number) (take count connection.pair.up) 0)
    (with_piped connection.slot.client connection.client
    (with_less connection.slot.at count connection.pair connection.client.piped) old) new
DoesEvent whole (events.CarryDown number count) old new =
    (connection : Connected number old) × (piped : Piped)
    × CarriesDownWhere whole count connection.client.piped piped
    × (new ≡ with_piped connection.slot.client connection.client piped old)
DoesEvent whole (events.Abandon name) old new = ClientDoes name LosesConnection old new
DoesEvent whole (events.Disconnect name) old new = ClientDoes name (SendsDisconnect whole) old new
DoesEvent whole (events.Notice number) old new =
    (connection : Connected number old) × TakesItem whole connection.slot.node
    (items.Ended (port_at_node number)) old new
DoesEvent whole (events.Publish name publication) old new =
    ClientDoes name (SendsCall (Call.Publishes publication) whole) old new
DoesEvent whole (events.Subscribe name filter qos) old new =
    ClientDoes name (SendsCall (Call.Subscribes filter qos) whole) old new
DoesEvent whole (events.Unsubscribe name filter) old new =
    ClientDoes name (SendsCall (Call.Unsubscribes filter) whole) old new

-- How memory runs out at a client and not at a node. A client makes its call, and its connection is
-- lost; it has no memory for what it receives; or there is no new connection.
abbrev pub LosesAtClient : Event → WorldState → WorldState → Type 0
LosesAtClient (events.Open name node) old new = OpensNone name node old new
LosesAtClient (events.CarryDown number count) old new =
    (connection : Connected number old) × (piped : Piped)
    × CarriesDown count connection.client.piped (Err errors.Memory) piped
    × (new ≡ with_piped connection.slot.client connection.client piped old)
LosesAtClient (events.Disconnect name) old new = ClientDoes name LosesLeaving old new
LosesAtClient (events.Publish name publication) old new =
    ClientDoes name (LosesAsking (Call.Publishes publication)) old new
LosesAtClient (events.Subscribe name filter qos) old new =
    ClientDoes name (LosesAsking (Call.Subscribes filter qos)) old new
LosesAtClient (events.Unsubscribe name filter) old new =
    ClientDoes name (LosesAsking (Call.Unsubscribes filter)) old new
LosesAtClient event old new = ⊥
