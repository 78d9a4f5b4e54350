-- Bytes reach a node, or a client.
use Rattle.std.specs.Prelude.{◌≡◌, ℕ, Bool, true, false, Some, slice_get}
use Rattle.world_nodes.specs.Nodes.{NodesState}
use Rattle.world_pipes.specs.Piped.{Piped}
use Rattle.world_pipes.specs.declared.clients.connection_slot.ConnectionSlot.{ConnectionSlot}
use Rattle.world_pipes.specs.declared.clients.world_client.WorldClient.{WorldClient}
use Rattle.world.specs.Found.{port_at_node, with_piped}
use Rattle.world.specs.World.{WorldState}
use Rattle.world_pipes.specs.clients.Transport.{CarriesUp, CanCarryUp, CannotCarryUp}

-- ---- bytes reach a node

-- these bytes of a slot reach its node in a world
pub record CarriesUpOn (number : ℕ) (slot : ConnectionSlot) (count : ℕ)
    (old new : WorldState) : Type 0 where
  pub client : WorldClient
  pub owned : slice_get old.clients slot.client ≡ Some client
  pub between : NodesState
  pub piped : Piped
  pub carries : CarriesUp slot (port_at_node number) count old.nodes client.piped between piped
  pub is : new ≡ record (with_piped slot.client client piped old) { nodes = between }

-- if there is no memory for them, nothing happens
abbrev pub CarriesUpOnWhere : Bool → ℕ → ConnectionSlot → ℕ → WorldState → WorldState → Type 0
CarriesUpOnWhere true number slot count old new = CarriesUpOn number slot count old new
CarriesUpOnWhere false number slot count old new =
    (new ≡ old) × (client : WorldClient) × (slice_get old.clients slot.client ≡ Some client)
    × CanCarryUp slot count old.nodes client.piped

-- these bytes of a slot cannot reach its node: too few wait, or the node has stopped
abbrev pub CannotCarryUpOn : ConnectionSlot → ℕ → WorldState → Type 0
CannotCarryUpOn slot count world =
    (client : WorldClient) → slice_get world.clients slot.client ≡ Some client →
    CannotCarryUp slot count world.nodes client.piped
