-- What ends a client's current connection (MQTT-3.1.0-2, MQTT 3.14.4, 4.8): its session is left
-- without one, and a clean session ends (MQTT 3.1.2.4).
use Rattle.std.specs.Prelude.{◌≡◌, ℕ, true, Bool, [], ◌∷◌, None}
use Rattle.packet.specs.declared.packet.Packet.{Packet}
use Rattle.broker_spec.specs.Connection.{ConnectionName}
use Rattle.broker_spec.specs.Place.{Client, Limits}
use Rattle.broker_spec.specs.Sessions.{is_leaving}
use Rattle.broker_base.specs.ClientSession.{ClientSession}
use Rattle.broker_base.specs.State.{State, owner_in}
use Rattle.broker_base.specs.Decisions.{owned_mark}
use Rattle.broker_base.specs.Step.{step}
use Rattle.broker_spec.specs.declared.command.Command.TheVariants as commands
use Rattle.broker_spec.specs.declared.command.Output.TheVariants.{Close}
use Rattle.broker_base.specs.rows.Served.{ServesClient, with_session, left_off}

-- a DISCONNECT, a violation or a refused PUBLISH closes the connection
abbrev pub LeavingStep : Type 0
LeavingStep =
    (limits : Limits) → (later : ℕ) → (state : State) → (connection : ConnectionName) →
    (client : Client) → (kept : ClientSession) →
    ServesClient state connection client kept → (packet : Packet) →
    is_leaving (owned_mark limits state (client, kept) packet) ≡ true →
    step limits later state (commands.Packet connection packet)
    ≡ (with_session client (left_off kept) state, Close connection ∷ [])

-- a further Connect on a client's current connection closes it, whichever client it names
abbrev pub FurtherConnectStep : Type 0
FurtherConnectStep =
    (limits : Limits) → (later : ℕ) → (state : State) → (connection : ConnectionName) →
    (client : Client) → (kept : ClientSession) →
    ServesClient state connection client kept → (named : Client) → (clean : Bool) →
    step limits later state (commands.Connect connection named clean)
    ≡ (with_session client (left_off kept) state, Close connection ∷ [])

-- the loss of a client's current connection has no answer
abbrev pub LostStep : Type 0
LostStep =
    (limits : Limits) → (later : ℕ) → (state : State) → (connection : ConnectionName) →
    (client : Client) → (kept : ClientSession) →
    ServesClient state connection client kept →
    step limits later state (commands.Lost connection)
    ≡ (with_session client (left_off kept) state, [])

-- the loss of a connection that is no client's current one changes nothing
abbrev pub NobodysLossStep : Type 0
NobodysLossStep =
    (limits : Limits) → (later : ℕ) → (state : State) → (connection : ConnectionName) →
    owner_in connection state.sessions ≡ None →
    step limits later state (commands.Lost connection) ≡ (state, [])
