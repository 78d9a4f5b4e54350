-- What an Open does: a new connection, at its client and at its node, or none.
use Rattle.std.specs.Prelude.{◌≡◌, ◌⊎◌, ℕ, suc, ◌-◌, Bool, true, false, not, List, [], ◌∷◌, ◌++◌, Option, Some, None, Ok, length}
use Rattle.broker_spec.specs.Connection.{is_connection_name}
use Rattle.client_base.specs.Steps.{Call, keeper_step}
use Rattle.world_base.specs.node_core.Core.{CountedCore}
use Rattle.world_base.specs.node_core.Step.{next_name}
use Rattle.world_base.specs.declared.node_core.item.Item.TheVariants as items
use Rattle.world_nodes.specs.RunningNodes.{numbered_node}
use Rattle.world_nodes.specs.Nodes.{NodesState}
use Rattle.world_pipes.specs.Piped.{SendsConnect, Piped}
use Rattle.world.specs.Found.{Named, port_at_node, with_piped}
use Rattle.world.specs.NodeOutput.{TakesItem}
use Rattle.world.specs.World.{WorldState}
use Rattle.world_pipes.specs.clients.Opening.{NoneOpens}

-- the number of the next connection
abbrev pub next_connection_number : WorldState → ℕ
next_connection_number world = suc (length world.connections)

-- a client has a new connection to a node: its CONNECT is in transit on it, under this number
abbrev pub ConnectsTo : ℕ → ℕ → Piped → Piped → Type 0
ConnectsTo node number old new =
    SendsConnect (node - 1) (port_at_node number) (keeper_step Call.Opens old.core.state) old
    (Ok tt) new

-- the world with that client, and a slot for its new connection, whose end is open
abbrev pub with_connection : {name : List ℕ} {world : WorldState} → Named name world → Piped → ℕ →
    WorldState
with_connection {world = world} named piped node =
    record (with_piped named.at named.client piped world) {
      connections = world.connections
          ++ record {
            client = named.at;
            at = length named.client.piped.pairs;
            node = node;
            is_open = true;
          } ∷ [];
    }

-- the client's node takes the connection, and what the node queued then goes down
abbrev pub OpensOne : Bool → List ℕ → ℕ → WorldState → WorldState → Type 0
OpensOne whole name node old new =
    (named : Named name old) × (piped : Piped)
    × ConnectsTo node (next_connection_number old) named.client.piped piped
    × TakesItem whole node (items.Opened (port_at_node (next_connection_number old)) 0)
    (with_connection named piped node) new

-- a client of a world opens no connection: no slot is added
abbrev pub OpensNone : List ℕ → ℕ → WorldState → WorldState → Type 0
OpensNone name node old new =
    (named : Named name old) × (piped : Piped) × (between : NodesState)
    × NoneOpens node (port_at_node (next_connection_number old)) old.nodes named.client.piped
    between piped
    × (new ≡ record (with_piped named.at named.client piped old) { nodes = between })

-- Whether the names of the node's ballot are used up. Then the connection is closed at once,
-- without a byte: nothing is left of it.
abbrev pub has_no_name_left : Option CountedCore → Bool
has_no_name_left None = false
has_no_name_left (Some node) = not (is_connection_name (next_name node.core))

-- if the node's names are used up nothing changes; otherwise it takes the connection
abbrev pub OpensUnless : Bool → Bool → List ℕ → ℕ → WorldState → WorldState → Type 0
OpensUnless true whole name node old new = new ≡ old
OpensUnless false whole name node old new = OpensOne whole name node old new

-- exactly that, or, if losses are allowed, perhaps no new connection
abbrev pub OpensWhere : Bool → List ℕ → ℕ → WorldState → WorldState → Type 0
OpensWhere true name node old new =
    OpensUnless (has_no_name_left (numbered_node old.nodes.nodes node)) true name node old new
OpensWhere false name node old new =
    OpensUnless (has_no_name_left (numbered_node old.nodes.nodes node)) false name node old new
    ⊎ OpensNone name node old new
