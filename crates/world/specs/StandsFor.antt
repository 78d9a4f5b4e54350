-- Which worlds of the model correspond to a world in code, and how these move.
use Rattle.std.specs.Prelude.{◌≡◌, ℕ, List, [], ◌++◌, Option, Some, None, slice_get}
use Rattle.ballot_base.specs.declared.config.Config.{Config}
use Rattle.broker_spec.specs.Place.{Client}
use Rattle.headline.specs.packet_world.World.{ClientsAreApart}
use Rattle.session_base.specs.declared.publication.Publication.{Publication}
use Rattle.exactly_once.specs.Sides.{ClientConnection}
use Rattle.headline.specs.Exact.{IsExact}
use Rattle.headline.specs.byte_world.World.{ClientPipes, ByteWorld}
use Rattle.headline.specs.byte_world.Steps.{Reached, ByteWorldStep}
use Rattle.headline.specs.byte_world.Published.{published_in_step, published_on_way}
use Rattle.world_nodes.specs.Nodes.{NodesStandFor}
use Rattle.world.specs.World.{WorldState}
use Rattle.world_pipes.specs.clients.Clients.{ClientsStand}

-- A world in code corresponds to one of the model: its nodes to the group, its clients to the
-- clients. What was written, handled and agreed before is history: no field keeps it.
pub record WorldStandsFor (model : ByteWorld) (world : WorldState) : Type 0 where
  pub nodes : NodesStandFor model.group world.nodes
  pub clients : ClientsStand world.clients model.clients

-- ---- how it moves

-- steps of a world, one after another
pub data WorldSteps (first : ByteWorld) : ByteWorld → Type 0 where
  -- no step
  rests : WorldSteps first first
  -- one more step
  goes_on : {next last : ByteWorld} → WorldSteps first next → ByteWorldStep next last →
      WorldSteps first last

-- what clients publish in these steps, the oldest first
abbrev pub published_along : {first last : ByteWorld} →
    WorldSteps first last → List (ℕ × Publication)
published_along rests = []
published_along (goes_on steps step) = published_along steps ++ published_in_step step

-- A world of the model moves by steps in which its clients publish this, and the world in code
-- corresponds to the one after them.
pub record ModelStepsTo (asked : List (ℕ × Publication)) (model : ByteWorld) (new : WorldState)
    : Type 0 where
  pub after : ByteWorld
  pub steps : WorldSteps model after
  pub asked_is : published_along steps ≡ asked
  pub stands : WorldStandsFor after new

-- each reachable world of the model that corresponded before steps to one that corresponds after
-- (`ModelStepsTo`)
abbrev pub FollowsModelAsking : List (ℕ × Publication) → WorldState → WorldState → Type 0
FollowsModelAsking asked old new =
    (nodes : ℕ) (config : Config) (clients : List Client) (model : ByteWorld) →
    Reached nodes config clients model → WorldStandsFor model old → ModelStepsTo asked model new

-- nothing is published
abbrev pub FollowsModel : WorldState → WorldState → Type 0
FollowsModel old new = FollowsModelAsking [] old new

-- ---- what is promised for it

-- A world in code corresponds to one that can be reached with this many nodes, in this
-- configuration, with these clients, each of which has an identifier of its own. So the headline
-- holds for each client, by the list on which its nodes agree.
pub record IsReached (nodes : ℕ) (config : Config) (clients : List Client)
    (state : WorldState) : Type 0 where
  pub apart : ClientsAreApart clients
  pub world : ByteWorld
  pub trail : Reached nodes config clients world
  pub stands : WorldStandsFor world state
  pub exact : IsExact trail

-- what its clients published until then: each publication with the index of its client
abbrev pub asked_on : {nodes : ℕ} {config : Config} {clients : List Client} {state : WorldState} →
    IsReached nodes config clients state → List (ℕ × Publication)
asked_on reached = published_on_way reached.trail

-- the connections of a client of the model's world, the newest first: history
abbrev pub connections_in : Option ClientPipes → List ClientConnection
connections_in (Some client) = client.connections
connections_in None = []

-- the connections of the client at this index
abbrev pub connections_at : ℕ → ByteWorld → List ClientConnection
connections_at index world = connections_in (slice_get world.clients index)

-- a world that can be reached still can after it, and this was published since
abbrev pub KeepsReached : List (ℕ × Publication) → WorldState → WorldState → Type 0
KeepsReached asked old new =
    (nodes : ℕ) (config : Config) (clients : List Client)
    (before : IsReached nodes config clients old) →
    (after : IsReached nodes config clients new) × (asked_on after ≡ asked_on before ++ asked)
