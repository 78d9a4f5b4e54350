-- An Expel: the client's session ends, clean or not, and its connection is closed.
use Rattle.std.specs.Prelude.{◌≡◌, ℕ, [], Some, None}
use Rattle.subs_base.specs.Content.{without_client}
use Rattle.broker_spec.specs.Connection.{ConnectionName}
use Rattle.broker_spec.specs.Place.{Client, Limits}
use Rattle.broker_spec.specs.Answers.{close_outputs}
use Rattle.broker_base.specs.ClientSession.{ClientSession}
use Rattle.broker_base.specs.State.{Sessions, State, session_in}
use Rattle.broker_base.specs.StateTheorems.{AreByClient, IsSound}
use Rattle.broker_base.specs.Step.{step}
use Rattle.broker_spec.specs.declared.command.Command.TheVariants as commands
use Rattle.broker_base.specs.rows.Touched.{written}
use Rattle.broker_base.specs.rows.Served.{with_session}
use Rattle.broker_base.specs.rows.Owners.{owners_in, without_owner}
use Rattle.broker_base.specs.rows.Indexed.{content_in}

-- the session is removed with everything in it, and its connection, if it has one, is closed
abbrev pub ExpelStep : Type 0
ExpelStep =
    (limits : Limits) → (later : ℕ) → (state : State) → (client : Client) → (kept : ClientSession) →
    IsSound state → session_in client state.sessions ≡ Some kept →
    step limits later state (commands.Expel client)
    ≡ (with_session client None state, close_outputs kept.connection)

-- without a session nothing changes, and there is no output
abbrev pub NobodysExpelStep : Type 0
NobodysExpelStep =
    (limits : Limits) → (later : ℕ) → (state : State) → (client : Client) →
    session_in client state.sessions ≡ None →
    step limits later state (commands.Expel client) ≡ (state, [])

-- an Expel removes the client's connection, if it has one, from the map of connections
abbrev pub ExpelRemovesTheOwner : Type 0
ExpelRemovesTheOwner =
    (state : State) → (client : Client) → (kept : ClientSession) → IsSound state →
    session_in client state.sessions ≡ Some kept → (connection : ConnectionName) →
    owners_in (written client None state.sessions) connection
    ≡ without_owner kept.connection (owners_in state.sessions) connection

-- the index drops the client
abbrev pub ExpelDropsTheClient : Type 0
ExpelDropsTheClient =
    (client : Client) → (kept : ClientSession) → (rows : Sessions) → AreByClient rows →
    session_in client rows ≡ Some kept →
    content_in (written client None rows) ≡ without_client (content_in rows) client
