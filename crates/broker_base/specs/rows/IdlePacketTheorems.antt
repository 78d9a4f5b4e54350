-- Packets that change nothing: PINGREQ, a repeat, and any packet on no client's current connection.
use Rattle.std.specs.Prelude.{◌≡◌, ℕ, true, [], ◌∷◌, None}
use Rattle.packet.specs.declared.publish.Publish.{Publish}
use Rattle.packet.specs.declared.packet.Packet.{Packet}
use Rattle.packet.specs.declared.packet.Packet.TheVariants as packets
use Rattle.broker_spec.specs.Connection.{ConnectionName}
use Rattle.broker_spec.specs.Place.{Client, Limits}
use Rattle.broker_spec.specs.Answers.{acknowledged}
use Rattle.broker_base.specs.ClientSession.{ClientSession}
use Rattle.broker_base.specs.State.{State, owner_in}
use Rattle.broker_base.specs.Decisions.{repeats_taken}
use Rattle.broker_base.specs.Step.{step}
use Rattle.broker_spec.specs.declared.command.Command.TheVariants as commands
use Rattle.broker_spec.specs.declared.command.Output.TheVariants.{Send}
use Rattle.broker_base.specs.rows.Served.{ServesClient}

-- PINGREQ is answered by PINGRESP (MQTT 3.12.4)
abbrev pub PingreqStep : Type 0
PingreqStep =
    (limits : Limits) → (later : ℕ) → (state : State) → (connection : ConnectionName) →
    (client : Client) → (kept : ClientSession) → ServesClient state connection client kept →
    step limits later state (commands.Packet connection packets.Pingreq)
    ≡ (state, Send connection packets.Pingresp ∷ [])

-- a repeat of a taken PUBLISH is acknowledged once more (MQTT 4.3.3)
abbrev pub RepeatStep : Type 0
RepeatStep =
    (limits : Limits) → (later : ℕ) → (state : State) → (connection : ConnectionName) →
    (client : Client) → (kept : ClientSession) → ServesClient state connection client kept →
    (publish : Publish) → repeats_taken kept publish.delivery ≡ true →
    step limits later state (commands.Packet connection (packets.Publish publish))
    ≡ (state, acknowledged connection publish.delivery)

-- a packet on a connection that is no client's current one changes nothing, and has no answer
abbrev pub NobodysPacketStep : Type 0
NobodysPacketStep =
    (limits : Limits) → (later : ℕ) → (state : State) → (connection : ConnectionName) →
    (packet : Packet) → owner_in connection state.sessions ≡ None →
    step limits later state (commands.Packet connection packet) ≡ (state, [])
