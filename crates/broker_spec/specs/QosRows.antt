-- Worked examples: the QoS, identifier and DUP flag with which a publication is delivered, and the
-- order of copies (MQTT 3.3.1, 3.3.5, 3.8.4, 4.3, 4.4).
use Rattle.std.specs.Prelude.{true, false, List, [], ◌∷◌, ◌++◌, codes}
use Rattle.packet_base.specs.declared.qos.QoS.{QoS}
use Rattle.packet_base.specs.declared.qos.QoS.TheVariants as qos_levels
use Rattle.packet.specs.declared.delivery.Delivery.{Delivery}
use Rattle.packet.specs.declared.delivery.Delivery.TheVariants as deliveries
use Rattle.packet.specs.declared.packet.Packet.TheVariants as packets
use Rattle.broker_spec.specs.Commands.{usual_limits}
use Rattle.broker_spec.specs.RowWords.{AreAnswered, b, nth, connect, gets, sends, connack, publish}
use Rattle.broker_spec.specs.RowWords.{subscribe, subscribed_at}
use Rattle.broker_spec.specs.declared.command.Output.{Output}
use Rattle.broker_spec.specs.declared.command.Output.TheVariants.{Close}

-- ---- the lower QoS of two (MQTT 3.8.4)

-- b has subscribed at this QoS; a sends x with this delivery, and these are the answers
abbrev pub IsDeliveredAs : QoS → Delivery → List Output → Type 0
IsDeliveredAs granted sent answers =
    AreAnswered usual_limits (subscribed_at granted) (gets 2 (publish sent false (codes "x")) ∷ [])
    (answers ∷ [])

-- b is sent x on connection 1 with this delivery
abbrev pub to_b : Delivery → Output
to_b delivery = sends 1 (publish delivery false (codes "x"))

-- the acknowledgement follows the QoS and identifier of the PUBLISH; the delivery has the lower QoS
-- of the publication and the subscription
abbrev pub LowerQosIsDelivered : Type 0
LowerQosIsDelivered =
    IsDeliveredAs qos_levels.AtMostOnce deliveries.AtMostOnce (to_b deliveries.AtMostOnce ∷ [])
    × IsDeliveredAs qos_levels.AtMostOnce (deliveries.AtLeastOnce false 7)
    (sends 2 (packets.Puback 7) ∷ to_b deliveries.AtMostOnce ∷ [])
    × IsDeliveredAs qos_levels.AtMostOnce (deliveries.ExactlyOnce false 8)
    (sends 2 (packets.Pubrec 8) ∷ to_b deliveries.AtMostOnce ∷ [])
    × IsDeliveredAs qos_levels.AtLeastOnce deliveries.AtMostOnce (to_b deliveries.AtMostOnce ∷ [])
    × IsDeliveredAs qos_levels.AtLeastOnce (deliveries.AtLeastOnce false 7)
    (sends 2 (packets.Puback 7) ∷ to_b (deliveries.AtLeastOnce false 1) ∷ [])
    × IsDeliveredAs qos_levels.AtLeastOnce (deliveries.ExactlyOnce false 8)
    (sends 2 (packets.Pubrec 8) ∷ to_b (deliveries.AtLeastOnce false 1) ∷ [])
    × IsDeliveredAs qos_levels.ExactlyOnce deliveries.AtMostOnce (to_b deliveries.AtMostOnce ∷ [])
    × IsDeliveredAs qos_levels.ExactlyOnce (deliveries.AtLeastOnce false 7)
    (sends 2 (packets.Puback 7) ∷ to_b (deliveries.AtLeastOnce false 1) ∷ [])
    × IsDeliveredAs qos_levels.ExactlyOnce (deliveries.ExactlyOnce false 8)
    (sends 2 (packets.Pubrec 8) ∷ to_b (deliveries.ExactlyOnce false 1) ∷ [])

-- ---- retransmission (MQTT 3.3.1.1, 4.4)

-- b does not acknowledge x at QoS 2 and reconnects, then sends PUBREC and reconnects again: PUBLISH
-- with DUP 1, then PUBREL
abbrev pub ExactlyOnceIsSentAgain : Type 0
ExactlyOnceIsSentAgain =
    AreAnswered usual_limits (subscribed_at qos_levels.ExactlyOnce)
    (gets 2 (publish (deliveries.ExactlyOnce false 9) false (codes "x")) ∷ connect 3 b
    ∷ gets 3 (packets.Pubrec 1)
    ∷ connect 4 b ∷ gets 4 (packets.Pubrec 1) ∷ gets 4 (packets.Pubcomp 1) ∷ connect 5 b ∷ [])
    ((sends 2 (packets.Pubrec 9)
    ∷ sends 1 (publish (deliveries.ExactlyOnce false 1) false (codes "x")) ∷ [])
    ∷ (Close (nth 1) ∷ sends 3 (connack true)
    ∷ sends 3 (publish (deliveries.ExactlyOnce true 1) false (codes "x")) ∷ [])
    ∷ (sends 3 (packets.Pubrel 1) ∷ [])
    ∷ (Close (nth 3) ∷ sends 4 (connack true) ∷ sends 4 (packets.Pubrel 1) ∷ [])
    ∷ (sends 4 (packets.Pubrel 1) ∷ []) ∷ [] ∷ (Close (nth 4) ∷ sends 5 (connack true) ∷ []) ∷ [])

-- ---- the order of the answers

-- a and b have subscribed; a publishes: its PUBACK comes first, then the copies in the order of the
-- clients' bytes
abbrev pub CopiesComeByClient : Type 0
CopiesComeByClient =
    AreAnswered usual_limits
    (subscribed_at qos_levels.AtMostOnce ++ gets 2 (subscribe 4 qos_levels.AtLeastOnce) ∷ [])
    (gets 2 (publish (deliveries.AtLeastOnce false 7) false (codes "x")) ∷ [])
    ((sends 2 (packets.Puback 7)
    ∷ sends 2 (publish (deliveries.AtLeastOnce false 1) false (codes "x"))
    ∷ to_b deliveries.AtMostOnce ∷ []) ∷ [])
