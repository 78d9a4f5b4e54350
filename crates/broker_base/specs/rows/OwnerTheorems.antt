-- How the map from connections to clients has to change with each step to stay in agreement with
-- the sessions.
use Rattle.std.specs.Prelude.{◌≡◌, ℕ, List, Some, None}
use Rattle.std.specs.BTreeMap.{insert_entry}
use Rattle.packet.specs.declared.delivery.Delivery.{Delivery}
use Rattle.session_base.specs.declared.publication.Publication.{Publication}
use Rattle.subs_base.specs.Granted.{Row}
use Rattle.broker_spec.specs.Connection.{ConnectionName}
use Rattle.broker_spec.specs.Place.{Client, by_bytes}
use Rattle.broker_base.specs.ClientSession.{ClientSession}
use Rattle.broker_base.specs.State.{Sessions, State, session_in, owner_in}
use Rattle.broker_base.specs.StateTheorems.{ConnectionsAreApart, IsSound}
use Rattle.broker_base.specs.StepAnswers.{connection_of}
use Rattle.broker_base.specs.rows.Touched.{written}
use Rattle.broker_base.specs.rows.Served.{ServesClient, left_off}
use Rattle.broker_base.specs.rows.ConnectTheorems.{all_left_off}
use Rattle.broker_base.specs.rows.Published.{session_changed, received_on, all_delivered}
use Rattle.broker_base.specs.rows.Owners.{owners_in, with_owner, without_owner, no_owners, all_owned}

-- writing a session with the connection that it had changes nothing
abbrev pub WritingKeepsOwners : Type 0
WritingKeepsOwners =
    (client : Client) → (old new : ClientSession) → (rows : Sessions) →
    session_in client rows ≡ Some old →
    new.connection ≡ old.connection → (connection : ConnectionName) →
    owners_in (written client (Some new) rows) connection ≡ owners_in rows connection

-- if a client's current connection ends, it is removed from the map
abbrev pub LeavingRemovesTheOwner : Type 0
LeavingRemovesTheOwner =
    (state : State) → (connection : ConnectionName) → (client : Client) → (kept : ClientSession) →
    ServesClient state connection client kept →
    (other : ConnectionName) →
    owners_in (written client (left_off kept) state.sessions) other
    ≡ without_owner (Some connection) (owners_in state.sessions) other

-- if a session is inserted on a connection that is no client's current one, it becomes the
-- client's, and the client's old one is removed
abbrev pub ConnectingSetsTheOwner : Type 0
ConnectingSetsTheOwner =
    (state : State) → (connection : ConnectionName) → (client : Client) → (new : ClientSession) →
    IsSound state →
    owner_in connection state.sessions ≡ None → new.connection ≡ Some connection →
    (other : ConnectionName) →
    owners_in (insert_entry by_bytes state.sessions client new) other
    ≡ with_owner connection client
    (without_owner (connection_of (session_in client state.sessions)) (owners_in state.sessions))
    other

-- if a session is resumed on a connection that is no client's current one, that becomes the
-- client's, and the client's old one is removed
abbrev pub ResumingSetsTheOwner : Type 0
ResumingSetsTheOwner =
    (state : State) → (connection : ConnectionName) → (client : Client) →
    (old new : ClientSession) → IsSound state →
    owner_in connection state.sessions ≡ None → session_in client state.sessions ≡ Some old →
    new.connection ≡ Some connection →
    (other : ConnectionName) →
    owners_in (written client (Some new) state.sessions) other
    ≡ with_owner connection client (without_owner old.connection (owners_in state.sessions)) other

-- after a Start no connection is left
abbrev pub StartRemovesTheOwners : Type 0
StartRemovesTheOwners =
    (rows : Sessions) → (connection : ConnectionName) →
    owners_in (all_left_off rows) connection ≡ None

-- taking and delivering a publication changes nothing
abbrev pub PublishingKeepsOwners : Type 0
PublishingKeepsOwners =
    (window : ℕ) → (publication : Publication) → (granted : List Row) → (publisher : Client) →
    (delivery : Delivery) → (rows : Sessions) → (connection : ConnectionName) →
    owners_in (all_delivered window publication granted
    (session_changed publisher (received_on delivery) rows)) connection
    ≡ owners_in rows connection

-- a map that is rebuilt from the sessions has each session's connection
abbrev pub OwnersMadeAnew : Type 0
OwnersMadeAnew =
    (rows : Sessions) → ConnectionsAreApart rows → (connection : ConnectionName)
    → owners_in rows connection ≡ all_owned rows no_owners connection
