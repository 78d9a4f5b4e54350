-- A command touches one row at most, except a taken publication, an accepted Connect and a Start
-- (MQTT 3.1.4). A map of connections finds that row.
use Rattle.std.specs.Prelude.{◌≡◌, ℕ, false, Some, None}
use Rattle.broker_spec.specs.Connection.{ConnectionName}
use Rattle.broker_spec.specs.Place.{Client, Limits}
use Rattle.broker_base.specs.ClientSession.{ClientSession}
use Rattle.broker_base.specs.State.{Sessions, State, owner_in}
use Rattle.broker_base.specs.StateTheorems.{AreByClient, ConnectionsAreApart}
use Rattle.broker_base.specs.Decisions.{mark_in, place_in}
use Rattle.broker_base.specs.Step.{session_after, window_after, step}
use Rattle.broker_spec.specs.declared.command.Command.{Command}
use Rattle.broker_base.specs.rows.Touched.{written, comes_on, is_taken, is_accepted}
use Rattle.broker_base.specs.rows.Owners.{Owners, owners_in, row_in}

-- a command on a client's current connection, other than a PUBLISH that is taken, changes only that
-- client's row
abbrev pub OneRowIsWritten : Type 0
OneRowIsWritten =
    (limits : Limits) → (later : ℕ) → (state : State) → (command : Command) →
    (connection : ConnectionName) → (owner : Client × ClientSession) →
    AreByClient state.sessions → ConnectionsAreApart state.sessions →
    comes_on command ≡ Some connection →
    owner_in connection state.sessions ≡ Some owner →
    is_taken (mark_in limits state command) ≡ false →
    (step limits later state command).0.sessions
    ≡ written owner.0
    (session_after (window_after later command state.window)
    (place_in limits state command) state.retained owner.0 owner.1)
    state.sessions

-- a command on a connection that is no client's current one, other than an accepted Connect,
-- changes no row
abbrev pub NobodyChangesNothing : Type 0
NobodyChangesNothing =
    (limits : Limits) → (later : ℕ) → (state : State) → (command : Command) →
    (connection : ConnectionName) → comes_on command ≡ Some connection →
    owner_in connection state.sessions ≡ None → is_accepted (mark_in limits state command) ≡ false →
    (step limits later state command).0.sessions ≡ state.sessions

-- a map from connections to clients that agrees with the sessions finds the row that owns a
-- connection
abbrev pub OwnerIsFoundByMap : Type 0
OwnerIsFoundByMap =
    (owners : Owners) → (connection : ConnectionName) → (sessions : Sessions) →
    AreByClient sessions → owners ≡ owners_in sessions →
    owner_in connection sessions ≡ row_in sessions (owners connection)
