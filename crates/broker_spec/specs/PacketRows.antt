-- Worked examples of PINGREQ and UNSUBSCRIBE, and of packets that close their connection.
use Rattle.std.specs.Prelude.{false, [], ◌∷◌}
use Rattle.packet_base.specs.declared.qos.QoS.TheVariants as qos_levels
use Rattle.packet.specs.declared.packet.Packet.{Packet}
use Rattle.packet.specs.declared.packet.Packet.TheVariants as packets
use Rattle.broker_spec.specs.Commands.{usual_limits}
use Rattle.broker_spec.specs.RowWords.{AreAnswered, b, nth, gets, sends, connack, suback, unsubscribe, subscribed_at}
use Rattle.broker_spec.specs.declared.command.Output.TheVariants.{Close}

-- PINGREQ is answered by PINGRESP, and UNSUBSCRIBE by UNSUBACK whether or not there is such a
-- subscription (MQTT 3.10.4, 3.12.4)
abbrev pub PingAndUnsubscribe : Type 0
PingAndUnsubscribe =
    AreAnswered usual_limits (subscribed_at qos_levels.ExactlyOnce)
    (gets 1 packets.Pingreq ∷ gets 1 (unsubscribe 3) ∷ gets 1 (unsubscribe 3) ∷ [])
    ((sends 1 packets.Pingresp ∷ []) ∷ (sends 1 (packets.Unsuback 3) ∷ [])
    ∷ (sends 1 (packets.Unsuback 3) ∷ []) ∷ [])

-- a packet closes b's connection, and what comes after it has no effect
abbrev pub ClosesItsSender : Packet → Type 0
ClosesItsSender packet =
    AreAnswered usual_limits (subscribed_at qos_levels.ExactlyOnce)
    (gets 1 packet ∷ gets 1 packets.Pingreq ∷ [])
    ((Close (nth 1) ∷ []) ∷ [] ∷ [])

-- a second CONNECT, DISCONNECT, and what only a server sends (MQTT-3.1.0-2, MQTT 3.14.4, 4.8)
abbrev pub ViolationsClose : Type 0
ViolationsClose =
    ClosesItsSender (packets.Connect (record { client = b; clean = false; keep_alive = 60 }))
    × ClosesItsSender packets.Disconnect × ClosesItsSender (connack false)
    × ClosesItsSender (suback 1 qos_levels.ExactlyOnce)
    × ClosesItsSender (packets.Unsuback 1) × ClosesItsSender packets.Pingresp
