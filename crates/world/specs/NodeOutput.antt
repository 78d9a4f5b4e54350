-- Pending output of a node goes into the pipes, also after the node took an item: exactly, or, if
-- losses are allowed (`whole` is false), perhaps with losses.
use Rattle.std.specs.Prelude.{◌≡◌, ◌⊎◌, ℕ, zero, suc, ◌-◌, ◌==◌, ◌&&◌, Bool, true, false, ◌++◌, Option, Some, None, length, set}
use Rattle.world_base.specs.node_core.Core.{CountedCore}
use Rattle.world_base.specs.declared.node_core.item.Item.{Item}
use Rattle.world_nodes.specs.ExactSteps.{TakesExactly}
use Rattle.world_nodes.specs.RunningNodes.{numbered_node}
use Rattle.world_nodes.specs.Nodes.{NodesState}
use Rattle.world_nodes.specs.Steps.{NodeItemOrLost, nodes_with_loss}
use Rattle.world_pipes.specs.declared.clients.connection_slot.ConnectionSlot.{ConnectionSlot}
use Rattle.world.specs.Found.{Connected, slot_numbered, port_at_node, with_piped}
use Rattle.world_pipes.specs.clients.NodeOutput.{with_down}
use Rattle.world.specs.World.{WorldState}
use Rattle.world_pipes.specs.clients.NodeOutput.{bytes_put_out, is_reported_open, HandsOverBytes}

-- ---- one connection

-- The pending output of a connection's node is in its pipe, after what was there, and its end at
-- the node counts as open exactly if the node says that it is.
pub record IsGathered (number : ℕ) (old new : WorldState) : Type 0 where
  pub connected : Connected number old
  pub node : Option CountedCore
  pub is_node : node ≡ numbered_node old.nodes.nodes connected.slot.node
  pub between : NodesState
  pub gives : HandsOverBytes node connected.slot.node (port_at_node number) old.nodes between
  pub is : new ≡ record (with_piped connected.slot.client connected.client
      (with_down connected.slot.at connected.pair (connected.pair.down
      ++ bytes_put_out (port_at_node number) node) connected.client.piped)
      old) {
        nodes = between;
        connections = set old.connections (number - 1)
            (record connected.slot { is_open = is_reported_open (port_at_node number) node });
      }

-- whether a connection leads to this node, and its end there is open
abbrev pub leads_open_to : ℕ → Option ConnectionSlot → Bool
leads_open_to node None = false
leads_open_to node (Some slot) = (slot.node == node) && slot.is_open

-- the pending output of a connection's node goes into its pipe; if losses are allowed, the node may
-- run out of memory instead: nothing goes down, its end stays as it was, and that is counted
abbrev pub MayBeGathered : Bool → ℕ → WorldState → WorldState → Type 0
MayBeGathered true number old new = IsGathered number old new
MayBeGathered false number old new =
    IsGathered number old new ⊎ (new ≡ record old { nodes = nodes_with_loss old.nodes })

-- the pending output of a connection's node goes into its pipe if the second value is true;
-- otherwise nothing changes
abbrev pub GatheredWhere : Bool → Bool → ℕ → WorldState → WorldState → Type 0
GatheredWhere whole true number old new = MayBeGathered whole number old new
GatheredWhere whole false number old new = new ≡ old

-- ---- the connections of a node

-- among this many connections, from the newest to the oldest, the open ones of the node are
-- gathered
abbrev pub GathersAmong : Bool → ℕ → ℕ → WorldState → WorldState → Type 0
GathersAmong whole zero node old new = new ≡ old
GathersAmong whole (suc before) node old new =
    (between : WorldState)
    × GatheredWhere whole (leads_open_to node (slot_numbered (suc before) old.connections))
    (suc before) old between
    × GathersAmong whole before node between new

-- all connections; the master, node 0, has none
abbrev pub Gathers : Bool → ℕ → WorldState → WorldState → Type 0
Gathers whole zero old new = new ≡ old
Gathers whole (suc at) old new = GathersAmong whole (length old.connections) (suc at) old new

-- a node takes exactly this item; if losses are allowed, perhaps with losses
abbrev pub TakesWhere : Bool → ℕ → Item → NodesState → NodesState → Type 0
TakesWhere true node item old new = TakesExactly node item old new
TakesWhere false node item old new = NodeItemOrLost node item old new

-- a node takes exactly this item, and what it queued then goes down
abbrev pub TakesItem : Bool → ℕ → Item → WorldState → WorldState → Type 0
TakesItem whole node item old new =
    (between : NodesState) × TakesWhere whole node item old.nodes between
    × Gathers whole node (record old { nodes = between }) new
