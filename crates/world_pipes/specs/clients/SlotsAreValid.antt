-- The invariant of a `World`.
use Rattle.std.specs.Prelude.{◌≡◌, ◌≤◌, ℕ, suc, List, [], ◌∷◌, Some, if◌then◌else◌, length, map, slice_get}
use Rattle.world_base.specs.declared.node_connections.port.Port.{Port}
use Rattle.world_pipes.specs.declared.pair.PipePair.{PipePair}
use Rattle.world_pipes.specs.declared.clients.connection_slot.ConnectionSlot.{ConnectionSlot}
use Rattle.world_pipes.specs.declared.clients.world_client.WorldClient.{WorldClient}

-- where connections lead: each to the index of its node, by its port, the oldest first
abbrev pub connection_targets : List PipePair → List (ℕ × Port)
connection_targets pairs = map (λ (pair : PipePair). (pair.node, pair.port)) pairs

-- where the connections of each client lead
abbrev pub targets_of_clients : List WorldClient → List (List (ℕ × Port))
targets_of_clients clients = map (λ (client : WorldClient).
    connection_targets client.piped.pairs) clients

-- The connection of this number is at a client's index, and leads to its node, by the port of its
-- number.
pub record LeadsThere (all : List (List (ℕ × Port))) (number : ℕ)
    (slot : ConnectionSlot) : Type 0 where
  pub pairs : List (ℕ × Port)
  pub node : ℕ
  pub client : slice_get all slot.client ≡ Some pairs
  pub pair : slice_get pairs slot.at ≡ Some (node, record { 0 = number })
  pub numbered : suc node ≡ slot.node

-- each slot leads to its client's connection, and each port that was used has a slot
pub record SlotsAreValid (all : List (List (ℕ × Port)))
    (connections : List ConnectionSlot) : Type 0 where
  -- connection 1 is at index 0, and so on
  pub known : (index : ℕ) (slot : ConnectionSlot) → slice_get connections index ≡ Some slot →
      LeadsThere all (suc index) slot
  -- no port above the number of connections was used
  pub used : (index at node : ℕ) (port : Port) (pairs : List (ℕ × Port)) →
      slice_get all index ≡ Some pairs → slice_get pairs at ≡ Some (node, port)
      → port.0 ≤ length connections

-- ---- whose end is open

-- the numbers of those of these connections whose end at their node is open, rising; the first of
-- these connections has this number
abbrev pub open_from : ℕ → List ConnectionSlot → List ℕ
open_from number [] = []
open_from number (slot ∷ slots) =
    if slot.is_open then number ∷ open_from (suc number) slots else open_from (suc number) slots
