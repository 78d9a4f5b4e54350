-- A new connection.
use Rattle.std.specs.Prelude.{◌≡◌, ◌⊎◌, ℕ, true, false, [], ◌∷◌, ◌++◌, Some, length, slice_get}
use Rattle.ballot_base.specs.Losses.{one_more}
use Rattle.world_nodes.specs.Nodes.{NodesState}
use Rattle.world_nodes.specs.Steps.{NodesLoseNothing}
use Rattle.world_pipes.specs.Piped.{Piped}
use Rattle.world_pipes.specs.declared.clients.world_client.WorldClient.{WorldClient}
use Rattle.world.specs.Found.{port_at_node, with_piped}
use Rattle.world.specs.NodeOutput.{Gathers}
use Rattle.world_pipes.specs.clients.Opening.{NoneOpens}
use Rattle.world.specs.Opening.{next_connection_number}
use Rattle.world.specs.World.{WorldState}
use Rattle.world_pipes.specs.clients.Opening.{HasNew}

-- the client at this index has a new connection to the node, under the next number, and the node
-- has taken it
pub record ConnectsAt (index node : ℕ) (old new : WorldState) : Type 0 where
  pub client : WorldClient
  pub found : slice_get old.clients index ≡ Some client
  pub between : NodesState
  pub piped : Piped
  pub reaches : HasNew node (port_at_node (next_connection_number old)) old.nodes client.piped
      between piped
  pub is : new ≡ record (with_piped index client piped old) {
    nodes = between;
    connections = old.connections
        ++ record { client = index; at = length client.piped.pairs; node = node; is_open = true }
        ∷ [];
  }

-- the client at this index has a new connection, and what its node queued then goes down
pub record OpensAt (index node : ℕ) (old new : WorldState) : Type 0 where
  pub between : WorldState
  pub connects : ConnectsAt index node old between
  pub gathers : Gathers false node between new
  pub uncounted : new.losses ≡ old.losses

-- the client at this index has no connection to a node
pub record OpensNoneAt (index node : ℕ) (old new : WorldState) : Type 0 where
  pub client : WorldClient
  pub found : slice_get old.clients index ≡ Some client
  pub between : NodesState
  pub piped : Piped
  pub none : NoneOpens node (port_at_node (next_connection_number old)) old.nodes client.piped
      between piped
  pub is : new ≡ record (with_piped index client piped old) { nodes = between }

-- nothing happened at all, or the client has no connection
abbrev pub MayOpenNone : ℕ → ℕ → WorldState → WorldState → Type 0
MayOpenNone index node old new = (new ≡ old) ⊎ OpensNoneAt index node old new

-- it opens one; or it has none, which the nodes counted, or otherwise the world
abbrev pub OpeningOrLost : ℕ → ℕ → WorldState → WorldState → Type 0
OpeningOrLost index node old new =
    OpensAt index node old new
    ⊎ (MayOpenNone index node old new × (NodesLoseNothing old.nodes new.nodes → ⊥))
    ⊎ ((none : WorldState) × MayOpenNone index node old none
    × (new ≡ record none { losses = one_more old.losses }))
