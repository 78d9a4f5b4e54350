-- Pending output goes into the pipes.
use Rattle.std.specs.Prelude.{◌≡◌, ◌⊎◌, ◌-◌, ℕ, Bool, true, false, ◌++◌, Some, length, set, slice_get, take}
use Rattle.world_nodes.specs.RunningNodes.{numbered_node}
use Rattle.world_nodes.specs.Nodes.{NodesState}
use Rattle.world_nodes.specs.Steps.{nodes_with_loss}
use Rattle.world_pipes.specs.declared.pair.PipePair.{PipePair}
use Rattle.world_pipes.specs.declared.clients.connection_slot.ConnectionSlot.{ConnectionSlot}
use Rattle.world_pipes.specs.declared.clients.world_client.WorldClient.{WorldClient}
use Rattle.world.specs.Found.{slot_numbered, port_at_node, with_piped}
use Rattle.world_pipes.specs.clients.NodeOutput.{with_down, HandsOverBytes, is_reported_open, bytes_put_out}
use Rattle.world.specs.NodeOutput.{GatheredWhere, leads_open_to}
use Rattle.world_pipes.specs.clients.SlotsAreValid.{open_from}
use Rattle.world.specs.World.{WorldState}

-- what a node queued for the connection of this number is in transit down, after what was, and this
-- is said about its end
pub record GathersOn (number : ℕ) (slot : ConnectionSlot) (old : WorldState) (is_open : Bool)
    (new : WorldState) : Type 0 where
  pub client : WorldClient
  pub owned : slice_get old.clients slot.client ≡ Some client
  pub pair : PipePair
  pub stands : slice_get client.piped.pairs slot.at ≡ Some pair
  pub between : NodesState
  pub gives : HandsOverBytes (numbered_node old.nodes.nodes slot.node) slot.node
      (port_at_node number) old.nodes between
  pub reported : is_open
      ≡ is_reported_open (port_at_node number) (numbered_node old.nodes.nodes slot.node)
  pub is : new ≡ record (with_piped slot.client client
      (with_down slot.at pair
      (pair.down ++ bytes_put_out (port_at_node number) (numbered_node old.nodes.nodes slot.node))
      client.piped)
      old)
      { nodes = between }

-- What a node queued is in transit. Or the node ran out of memory: nothing changes, its end is
-- open, and that is counted.
abbrev pub GatheringOrLost : ℕ → ConnectionSlot → WorldState → Bool → WorldState → Type 0
GatheringOrLost number slot old is_open new =
    GathersOn number slot old is_open new
    ⊎ ((is_open ≡ true) × (new ≡ record old { nodes = nodes_with_loss old.nodes }))

-- its end counts as open, or as closed
abbrev pub marked : ℕ → ConnectionSlot → Bool → WorldState → WorldState
marked number slot is_open world =
    record world {
      connections = set world.connections (number - 1) (record slot { is_open = is_open });
    }

-- ---- a walk over the connections whose end is open

-- what was queued for the one at this index among them was gathered, if it leads to the node, and
-- those that were opened before it stay as they were
pub record GathersAt (node at : ℕ) (old new : WorldState) : Type 0 where
  pub number : ℕ
  pub stands : slice_get (open_from 1 old.connections) at ≡ Some number
  pub gathers : GatheredWhere false
      (leads_open_to node (slot_numbered number old.connections)) number old new
  pub others : take (number - 1) new.connections ≡ take (number - 1) old.connections
  pub many : length new.connections ≡ length old.connections
