-- The state of a broker, and the state that a past leads to (MQTT 4.1).
-- A state is what a snapshot has to hold: the window, one row for each client with a session, and
-- the retained publications. Sessions and topics are ordered by their bytes, so every replica
-- freezes a state to the same bytes. Maps and indexes are not part of it; the code derives them
-- from the rows. The window is state, since what a broker sends depends on it and a broker thawed
-- from form 1 begins with another one. Steps preserve that each client has one row, that no
-- connection belongs to two rows, and that each row is sound (`IsSound` in StateTheorems.antt).
use Rattle.std.specs.Prelude.{ℕ, if◌then◌else◌, List, [], ◌∷◌, Option, Some, None}
use Rattle.std.specs.BTreeMap.{insert_entry, is_at}
use Rattle.std.specs.Map.{lookup}
use Rattle.retained.specs.Retained.{RetainedTopics}
use Rattle.broker_spec.specs.Connection.{ConnectionName, same_connection}
use Rattle.broker_spec.specs.Place.{Client, by_bytes, Past, Limits}
use Rattle.broker_spec.specs.Sessions.{any_connection}
use Rattle.broker_spec.specs.Owner.{named}
use Rattle.broker_spec.specs.Retained.{retained_publications}
use Rattle.broker_spec.specs.Times.{window_at}
use Rattle.broker_base.specs.ClientSession.{ClientSession, client_session}

-- the sessions, ordered by the bytes of their clients, each client once
abbrev pub Sessions : Type 0
Sessions = List (Client × ClientSession)

-- the most entries of a session in flight, the sessions, and the retained publications
pub record State : Type 0 where
  pub window : ℕ
  pub sessions : Sessions
  pub retained : RetainedTopics

-- an empty broker with this window
abbrev pub empty_state : ℕ → State
empty_state window = record { window = window; sessions = []; retained = [] }

-- ---- rows

-- adds one row in front, if the client has a session
abbrev pub keyed : Client → Option ClientSession → Sessions → Sessions
keyed client (Some kept) rows = (client, kept) ∷ rows
keyed client None rows = rows

-- the rows of those clients that have a session
abbrev pub table : (Client → Option ClientSession) → List Client → Sessions
table session (client ∷ others) = keyed client (session client) (table session others)
table session [] = []

-- the session of a client
abbrev pub session_in : Client → Sessions → Option ClientSession
session_in client rows = lookup (is_at (by_bytes client)) rows

-- sets a client's session: it replaces the old one, or is inserted in the order of bytes
abbrev pub put_session : Client → ClientSession → Sessions → Sessions
put_session client kept rows = insert_entry by_bytes rows client kept

-- the session whose current connection this is, with its client
abbrev pub owner_in : ConnectionName → Sessions → Option (Client × ClientSession)
owner_in connection (row ∷ rows) =
    if any_connection (same_connection connection) row.1.connection then Some row
    else owner_in connection rows
owner_in connection [] = None

-- ---- the state after a past

-- the window, the sessions and what is retained
abbrev pub state_of : Limits → Past → State
state_of limits past =
    record {
      window = window_at limits past;
      sessions = table (client_session limits past) (named past);
      retained = retained_publications past;
    }
