-- What is found in a world: a client by its identifier, and a connection by its number.
use Rattle.std.specs.Prelude.{◌≡◌, ℕ, ◌-◌, ◌==◌, if◌then◌else◌, List, Option, Some, None, set, slice_get}
use Rattle.std.specs.List.{position}
use Rattle.client.specs.Core.{Core}
use Rattle.world_base.specs.declared.node_connections.port.Port.{Port}
use Rattle.world_pipes.specs.declared.pair.PipePair.{PipePair}
use Rattle.world_pipes.specs.Piped.{Piped}
use Rattle.world_pipes.specs.declared.clients.connection_slot.ConnectionSlot.{ConnectionSlot}
use Rattle.world_pipes.specs.declared.clients.world_client.WorldClient.{WorldClient}
use Rattle.world.specs.World.{WorldState}
use Rattle.world_pipes.specs.clients.Clients.{is_named}

-- ---- a client

-- what a client keeps, if there is one
abbrev pub core_of : Option WorldClient → Option Core
core_of None = None
core_of (Some client) = Some client.piped.core

-- what the client at an index keeps, if there is one
abbrev pub core_at : Option ℕ → List WorldClient → Option Core
core_at None clients = None
core_at (Some at) clients = core_of (slice_get clients at)

-- the first client of this identifier
abbrev pub core_named : List ℕ → List WorldClient → Option Core
core_named name clients = core_at (position (is_named name) clients) clients

-- the first client of this identifier is at this index
pub record Named (name : List ℕ) (world : WorldState) : Type 0 where
  pub at : ℕ
  pub first : position (is_named name) world.clients ≡ Some at
  pub client : WorldClient
  pub stands : slice_get world.clients at ≡ Some client

-- the client at this index has become this one, and nothing else changes
abbrev pub with_piped : ℕ → WorldClient → Piped → WorldState → WorldState
with_piped at client piped world =
    record world { clients = set world.clients at (record client { piped = piped }) }

-- ---- a connection

-- the slot of a connection, numbered from 1
abbrev pub slot_numbered : ℕ → List ConnectionSlot → Option ConnectionSlot
slot_numbered number connections = if number == 0 then None else slice_get connections (number - 1)

-- a client's connection at an index, with the bytes in transit
abbrev pub pair_in : Option WorldClient → ℕ → Option PipePair
pair_in None at = None
pair_in (Some client) at = slice_get client.piped.pairs at

-- the connection of a slot, with the bytes in transit
abbrev pub pair_at : Option ConnectionSlot → List WorldClient → Option PipePair
pair_at None clients = None
pair_at (Some slot) clients = pair_in (slice_get clients slot.client) slot.at

-- the connection of this number, if it was opened
abbrev pub pair_of : ℕ → WorldState → Option PipePair
pair_of number world = pair_at (slot_numbered number world.connections) world.clients

-- the node's port for the connection of this number
abbrev pub port_at_node : ℕ → Port
port_at_node number = record { 0 = number }

-- A connection is found: its state, its client, and what is in transit on it.
pub record Connected (number : ℕ) (world : WorldState) : Type 0 where
  pub slot : ConnectionSlot
  pub numbered : slot_numbered number world.connections ≡ Some slot
  pub client : WorldClient
  pub owned : slice_get world.clients slot.client ≡ Some client
  pub pair : PipePair
  pub stands : slice_get client.piped.pairs slot.at ≡ Some pair
