-- Connections and sessions of a list of commands (MQTT 3.1.2.4, 3.1.4, 3.14.4, 4.1). Every question
-- is about a past, so the places below a place decide what holds at it.
use Rattle.std.specs.Prelude.{◌≡◌, ℕ, ◌-◌, suc, Bool, true, false, ◌&&◌, ◌||◌, not, if◌then◌else◌}
use Rattle.std.specs.Prelude.{[], ◌∷◌, length, drop, Option, Some, None, is_some}
use Rattle.broker_spec.specs.Connection.{ConnectionName, same_connection}
use Rattle.broker_spec.specs.Place.{Client, same_client, Mark, Place, Past, only_if}
use Rattle.broker_spec.specs.declared.command.Command.{Command}
use Rattle.broker_spec.specs.declared.command.Command.TheVariants as commands

-- ---- connections

-- the connection and the CleanSession flag of an accepted Connect of this client
abbrev pub accepts : Command → Mark → Client → Option (ConnectionName × Bool)
accepts (commands.Connect connection other clean) Mark.Accepted client =
    only_if (same_client other client) (Some (connection, clean))
accepts _ _ client = None

-- whether a packet with this mark ends its connection
abbrev pub is_leaving : Mark → Bool
is_leaving (Mark.Leaves client) = true
is_leaving (Mark.Refused client) = true
is_leaving _ = false

-- Whether a command ends this connection: a DISCONNECT, a violation or a refused PUBLISH on it,
-- a further Connect on it, its loss, or a new ballot.
abbrev pub ends : Command → Mark → ConnectionName → Bool
ends (commands.Packet on packet) mark connection = same_connection on connection && is_leaving mark
ends (commands.Connect on client clean) mark connection = same_connection on connection
ends (commands.Lost on) mark connection = same_connection on connection
ends (commands.Start ballot) mark connection = true
ends (commands.Expel client) mark connection = false

-- whether a command expels the client: its session ends, and its connection with it
abbrev pub expels : Command → Client → Bool
expels (commands.Expel other) client = same_client other client
expels _ client = false

-- whether there is a connection for which the test holds
abbrev pub any_connection : (ConnectionName → Bool) → Option ConnectionName → Bool
any_connection test (Some connection) = test connection
any_connection test None = false

-- whether a place ends this connection of the client, if there is one: an Expel of the client does
abbrev pub ends_any : Place → Client → Option ConnectionName → Bool
ends_any place client connection =
    expels place.command client || any_connection (ends place.command place.mark) connection

-- the new connection, or else the old one unless it has ended
abbrev pub newest_connection : Option (ConnectionName × Bool) → Bool → Option ConnectionName →
    Option ConnectionName
newest_connection (Some opened) over old = Some opened.0
newest_connection None over old = only_if (not over) old

-- a client's current connection: that of its last accepted Connect, unless it has ended since
unfoldable pub current_connection : Past → Client → Option ConnectionName
current_connection [] client = None
current_connection (place ∷ past) client =
    newest_connection (accepts place.command place.mark client)
    (ends_any place client (current_connection past client)) (current_connection past client)

-- ---- sessions

-- The session as its CleanSession flag: after an accepted Connect the flag of that one, after an
-- Expel of the client none; a clean session ends with its connection.
abbrev pub newest_clean_session : Option (ConnectionName × Bool) → Bool → Bool → Option Bool →
    Option Bool
newest_clean_session (Some opened) expelled over old = Some opened.1
newest_clean_session None expelled over (Some clean) =
    only_if (not (expelled || (clean && over))) (Some clean)
newest_clean_session None expelled over None = None

-- the CleanSession flag of a client's session, if it has one (MQTT 3.1.2.4)
unfoldable pub clean_session_of : Past → Client → Option Bool
clean_session_of [] client = None
clean_session_of (place ∷ past) client =
    newest_clean_session (accepts place.command place.mark client) (expels place.command client)
    (ends_any place client (current_connection past client)) (clean_session_of past client)

-- whether an accepted Connect begins a session: there is none, or it or the Connect is clean
abbrev pub begins_session : Bool → Option Bool → Bool
begins_session clean None = true
begins_session clean (Some old) = clean || old

-- whether a Connect, if it was accepted, begins a session in place of this one
abbrev pub is_beginning : Option (ConnectionName × Bool) → Option Bool → Bool
is_beginning (Some opened) old = begins_session opened.1 old
is_beginning None old = false

-- the place begins a session of the client
abbrev pub begins : Place → Past → Client → Bool
begins place past client =
    is_beginning (accepts place.command place.mark client) (clean_session_of past client)

-- the place ends the client's session: another one begins, or none is left
abbrev pub ends_session : Place → Past → Client → Bool
ends_session place past client =
    is_some (clean_session_of past client)
    && (begins place past client || not (is_some (clean_session_of (place ∷ past) client)))

-- The value that a session keeps, from the value below: nothing if there is no session, and the
-- initial value if one begins.
abbrev pub in_session : {A : Type 0} → Option Bool → Bool → A → A → A
in_session (Some clean) false fresh kept = kept
in_session (Some clean) true fresh kept = fresh
in_session None beginning fresh kept = fresh

-- the number of the place at which the client's session began
unfoldable pub session_start : Past → Client → Option ℕ
session_start [] client = None
session_start (place ∷ past) client =
    if begins place past client then Some (length past)
    else only_if (is_some (clean_session_of (place ∷ past) client)) (session_start past client)

-- the places below the one with this number
abbrev pub below : ℕ → Past → Past
below place past = drop (length past - place) past

-- this place is in the client's session that began at `start`; the place that ends it is not
abbrev pub StandsIn : Past → ℕ → Client → ℕ → Type 0
StandsIn past place client start = session_start (below (suc place) past) client ≡ Some start
