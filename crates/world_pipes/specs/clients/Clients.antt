-- The clients of a world: how they are found and begin, and those of the model to which they
-- correspond.
use Rattle.std.specs.Prelude.{ℕ, ◌-◌, Bool, List, bytes_eq, [], ◌∷◌, map}
use Rattle.world_pipes.specs.declared.clients.world_client.WorldClient.{WorldClient}
use Rattle.broker_spec.specs.Place.{Client}
use Rattle.world_pipes.specs.Piped.{new_piped}
use Rattle.headline.specs.byte_world.World.{ClientPipes}
use Rattle.world_pipes.specs.StandsFor.{ClientStandsFor}

-- whether a client has this identifier
abbrev pub is_named : List ℕ → WorldClient → Bool
is_named name client = bytes_eq client.name name

-- a client that has no connection yet
abbrev pub new_world_client : List ℕ → WorldClient
new_world_client name = record { name = name; piped = new_piped name }

-- the identifiers of clients, in order
abbrev pub identifiers : List WorldClient → List Client
identifiers clients = map (λ (client : WorldClient). client.name) clients

-- each client corresponds to the model's client at its index
abbrev pub ClientsStand : List WorldClient → List ClientPipes → Type 0
ClientsStand (client ∷ clients) (model ∷ models) =
    ClientStandsFor client.piped model × ClientsStand clients models
ClientsStand [] [] = Unit {0}
ClientsStand _ _ = ⊥
