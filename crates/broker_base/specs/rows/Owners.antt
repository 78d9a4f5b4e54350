-- The map from current connections to clients.
use Rattle.std.specs.Prelude.{if◌then◌else◌, [], ◌∷◌, Option, Some, None, option_map}
use Rattle.broker_spec.specs.Connection.{ConnectionName, same_connection}
use Rattle.broker_spec.specs.Place.{Client}
use Rattle.broker_base.specs.ClientSession.{ClientSession}
use Rattle.broker_base.specs.State.{Sessions, session_in, owner_in}

-- for each connection the client whose current one it is
abbrev pub Owners : Type 0
Owners = ConnectionName → Option Client

-- the map of these sessions
abbrev pub owners_in : Sessions → Owners
owners_in sessions connection =
    option_map (λ (row : Client × ClientSession). row.0) (owner_in connection sessions)

-- the session of a client, if there is one, with the client
abbrev pub row_in : Sessions → Option Client → Option (Client × ClientSession)
row_in sessions (Some client) =
    option_map (λ (kept : ClientSession). (client, kept)) (session_in client sessions)
row_in sessions None = None

-- the connection becomes the client's current one
abbrev pub with_owner : ConnectionName → Client → Owners → Owners
with_owner connection client owners other =
    if same_connection connection other then Some client else owners other

-- removes a connection, if there is one, from the map
abbrev pub without_owner : Option ConnectionName → Owners → Owners
without_owner (Some connection) owners other =
    if same_connection connection other then None else owners other
without_owner None owners other = owners other

-- no connection has a client
abbrev pub no_owners : Owners
no_owners connection = None

-- a connection, if there is one, becomes the client's
abbrev pub owned_by : Option ConnectionName → Client → Owners → Owners
owned_by (Some connection) client owners = with_owner connection client owners
owned_by None client owners = owners

-- the map after the connections of all these sessions are entered
abbrev pub all_owned : Sessions → Owners → Owners
all_owned (row ∷ rows) owners = all_owned rows (owned_by row.1.connection row.0 owners)
all_owned [] owners = owners
