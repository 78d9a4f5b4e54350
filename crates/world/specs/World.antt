-- The model of a world.
use Rattle.std.specs.Prelude.{ℕ, List}
use Rattle.world_pipes.specs.declared.clients.connection_slot.ConnectionSlot.{ConnectionSlot}
use Rattle.world_pipes.specs.declared.clients.world_client.WorldClient.{WorldClient}
use Rattle.world_nodes.specs.Nodes.{NodesState}

-- The nodes with their master; the clients, each with its identifier and all its connections; the
-- state of each connection, the first opened first; and the count of steps in which something was
-- lost (saturates at 2^64 - 1).
pub record WorldState : Type 0 where
  pub nodes : NodesState
  pub clients : List WorldClient
  pub connections : List ConnectionSlot
  pub losses : ℕ
