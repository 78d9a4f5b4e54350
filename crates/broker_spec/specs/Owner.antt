-- Which clients have a session, and which client a connection belongs to (MQTT 4.1).
use Rattle.std.specs.Prelude.{◌≡◌, Bool, true, if◌then◌else◌, List, [], ◌∷◌, filter, Option, Some}
use Rattle.std.specs.Prelude.{None, is_some}
use Rattle.std.specs.Ordering.{match_ordering}
use Rattle.broker_spec.specs.Connection.{ConnectionName, same_connection}
use Rattle.broker_spec.specs.Place.{Client, by_bytes, Mark, Past}
use Rattle.broker_spec.specs.Sessions.{any_connection, current_connection, clean_session_of}
use Rattle.broker_spec.specs.declared.command.Command.{Command}
use Rattle.broker_spec.specs.declared.command.Command.TheVariants as commands

-- inserts a client into a list, each client once, ordered by bytes
abbrev pub insert_client : Client → List Client → List Client
insert_client client (first ∷ others) =
    match_ordering (by_bytes client first) (client ∷ first ∷ others) (first ∷ others)
    (first ∷ insert_client client others)
insert_client client [] = client ∷ []

-- adds the client, if the command is its accepted Connect
abbrev pub named_by : Command → Mark → List Client → List Client
named_by (commands.Connect connection client clean) Mark.Accepted others =
    insert_client client others
named_by _ _ others = others

-- the clients of accepted Connects, in the order of their bytes
unfoldable pub named : Past → List Client
named [] = []
named (place ∷ past) = named_by place.command place.mark (named past)

-- the clients with a session, in the order of their bytes
abbrev pub clients : Past → List Client
clients past = filter (λ client. is_some (clean_session_of past client)) (named past)

-- the first client for which the test holds
abbrev pub first_client : (Client → Bool) → List Client → Option Client
first_client test (client ∷ others) = if test client then Some client else first_client test others
first_client test [] = None

-- the client whose current connection this is
abbrev pub owner_of : Past → ConnectionName → Option Client
owner_of past connection =
    first_client
    (λ client. any_connection (same_connection connection) (current_connection past client))
    (clients past)

-- this is some client's current connection, so its packets have an effect
abbrev pub IsLive : Past → ConnectionName → Type 0
IsLive past connection = is_some (owner_of past connection) ≡ true
