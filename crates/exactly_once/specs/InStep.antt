-- A client with several sessions: which place and which connection belongs to which of them, and
-- who is in step.
use Rattle.std.specs.Prelude.{◌≡◌, ℕ, Bool, true, false, ◌&&◌, ◌||◌, ◌+◌, if◌then◌else◌, List, [], ◌∷◌, ◌++◌, length, Option, Some, None, ◌⊎◌}
use Rattle.session_base.specs.declared.publication.Publication.{Publication}
use Rattle.lists.specs.Lists.{Each}
use Rattle.broker_spec.specs.Connection.{ConnectionName, same_connection}
use Rattle.broker_spec.specs.Place.{Client, Past, Limits}
use Rattle.broker_spec.specs.Sessions.{accepts, begins, session_start}
use Rattle.broker_spec.specs.Entries.{Entry}
use Rattle.broker_spec.specs.Times.{entries_of}
use Rattle.exactly_once.specs.Sides.{ClientConnection}
use Rattle.exactly_once.specs.Carried.{is_this}
use Rattle.exactly_once.specs.Story.{Story}

-- ---- sessions of a list of commands

-- how many sessions of the client began
abbrev pub sessions_begun : Past → Client → ℕ
sessions_begun (place ∷ past) client =
    (if begins place past client then 1 else 0) + sessions_begun past client
sessions_begun [] client = 0

-- the places at which the client's sessions began, the oldest first
abbrev pub starts_of : Past → Client → List ℕ
starts_of (place ∷ past) client =
    starts_of past client ++ (if begins place past client then length past ∷ [] else [])
starts_of [] client = []

-- the client has had at most one session, and once it began it lasts
abbrev pub IsFirstSession : Past → Client → Type 0
IsFirstSession past client =
    (starts_of past client ≡ [])
    ⊎ ((start : ℕ)
    × (starts_of past client ≡ start ∷ []) × (session_start past client ≡ Some start))

-- whether a session began
abbrev pub has_begun : Past → Client → Bool
has_begun (place ∷ past) client = begins place past client || has_begun past client
has_begun [] client = false

-- whether this is the connection of an accepted Connect
abbrev pub opens_on : ConnectionName → Option (ConnectionName × Bool) → Bool
opens_on connection (Some opened) = same_connection connection opened.0
opens_on connection None = false

-- whether a Connect on this connection began a session of the client other than its first
abbrev pub began_again : Past → Client → ConnectionName → Bool
began_again (place ∷ past) client connection =
    (opens_on connection (accepts place.command place.mark client)
    && (begins place past client && has_begun past client))
    || began_again past client connection
began_again [] client connection = false

-- the session in which a connection of the client was accepted, by the place at which it began
abbrev pub opened_in : Past → Client → ConnectionName → Option ℕ
opened_in (place ∷ past) client connection =
    if opens_on connection (accepts place.command place.mark client)
    then session_start (place ∷ past) client else opened_in past client connection
opened_in [] client connection = None

-- the entries of the client's session that began at this place: as they are, or as they were at its
-- last place
abbrev pub entries_in : Limits → Past → Client → ℕ → List Entry
entries_in limits (place ∷ past) client start =
    if is_this start (session_start (place ∷ past) client)
    then entries_of limits (place ∷ past) client
    else entries_in limits past client start
entries_in limits [] client start = []

-- what the client accepted at QoS 2 on connections of that session, the oldest first
abbrev pub accepted_in : Past → Client → ℕ → List ClientConnection → List Publication
accepted_in past client start (connection ∷ connections) =
    accepted_in past client start connections
    ++ (if is_this start (opened_in past client connection.name) then connection.accepted else [])
accepted_in past client start [] = []

-- ---- in step

-- if a connection's Connect began a session other than the first, its CONNACK was received
abbrev pub WasWelcome : Past → Client → ClientConnection → Type 0
WasWelcome past client connection =
    began_again past client connection.name ≡ true → connection.confirmed ≡ true

-- on each connection except the newest, the CONNACK of a session other than the first was received
abbrev pub AreWelcome : Past → Client → List ClientConnection → Type 0
AreWelcome past client (connection ∷ connections) = Each (WasWelcome past client) connections
AreWelcome past client [] = Unit {0}

-- For each of its sessions except the first, the client opened no further connection before it
-- handled the CONNACK of the Connect that began it. What it has not handled on a connection by then
-- it never handles.
abbrev pub IsInStep : Story → Type 0
IsInStep story = AreWelcome story.past story.keeper.client story.connections
