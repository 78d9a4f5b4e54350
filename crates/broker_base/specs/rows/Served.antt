-- A client on its current connection, and its session after the connection ended (MQTT 3.1.2.4,
-- 4.1).
use Rattle.std.specs.Prelude.{◌≡◌, if◌then◌else◌, Option, Some, None}
use Rattle.session_base.specs.Session.{SessionState}
use Rattle.broker_spec.specs.Connection.{ConnectionName}
use Rattle.broker_spec.specs.Place.{Client}
use Rattle.broker_base.specs.ClientSession.{ClientSession}
use Rattle.broker_base.specs.State.{State, session_in, owner_in}
use Rattle.broker_base.specs.StateTheorems.{IsSound}
use Rattle.broker_base.specs.rows.Touched.{written}

-- in a sound state this is the client's current connection, and this its session
pub record ServesClient (state : State) (connection : ConnectionName) (client : Client)
    (kept : ClientSession) : Type 0 where
  pub sound : IsSound state
  pub owner : owner_in connection state.sessions ≡ Some (client, kept)

-- the state with this session of the client, or with none
abbrev pub with_session : Client → Option ClientSession → State → State
with_session client session state =
    record {
      window = state.window;
      sessions = written client session state.sessions;
      retained = state.retained;
    }

-- a client's session with this content, and the rest as it was
abbrev pub with_content : SessionState → ClientSession → ClientSession
with_content session kept =
    record { clean = kept.clean; connection = kept.connection; state = session }

-- a session whose connection has ended: a clean one ends with it (MQTT 3.1.2.4)
abbrev pub left_off : ClientSession → Option ClientSession
left_off kept =
    if kept.clean then None
    else Some (record { clean = kept.clean; connection = None; state = kept.state })

-- a served client's session is on the connection, and is the one that is found by the client
abbrev pub IsOnItsConnection : Type 0
IsOnItsConnection =
    (state : State) → (connection : ConnectionName) → (client : Client) → (kept : ClientSession) →
    ServesClient state connection client kept →
    (kept.connection ≡ Some connection) × (session_in client state.sessions ≡ Some kept)
