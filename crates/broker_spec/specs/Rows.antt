-- Worked examples: lists of commands, and the answers that the standard and this broker's limits
-- give.
use Rattle.std.specs.Prelude.{true, false, List, [], ◌∷◌, ◌++◌, codes}
use Rattle.packet_base.specs.declared.qos.QoS.TheVariants as qos_levels
use Rattle.packet.specs.declared.delivery.Delivery.TheVariants as deliveries
use Rattle.packet.specs.declared.suback.SubackCode.TheVariants as return_codes
use Rattle.packet.specs.declared.packet.Packet.TheVariants as packets
use Rattle.broker_spec.specs.Commands.{usual_limits}
use Rattle.broker_spec.specs.RowWords.{AreAnswered, a, b, nth, connect, gets, sends, connack, publish}
use Rattle.broker_spec.specs.RowWords.{subscribe, suback, subscribed_at}
use Rattle.broker_spec.specs.declared.command.Command.{Command}
use Rattle.broker_spec.specs.declared.command.Output.TheVariants.{Close}

-- a first CONNECT: CONNACK 0, no session present (MQTT 3.2.2.2)
abbrev pub ConnectIsAnswered : Type 0
ConnectIsAnswered =
    AreAnswered usual_limits [] (connect 1 a ∷ []) ((sends 1 (connack false) ∷ []) ∷ [])

-- a client on a second connection: its first is closed, and its session is present (MQTT 3.1.4)
abbrev pub SecondConnectionTakesOver : Type 0
SecondConnectionTakesOver =
    AreAnswered usual_limits (connect 1 a ∷ []) (connect 2 a ∷ [])
    ((Close (nth 1) ∷ sends 2 (connack true) ∷ []) ∷ [])

-- once a client has a newer connection, packets on the older one have no effect
abbrev pub OlderConnectionIsSilent : Type 0
OlderConnectionIsSilent =
    AreAnswered usual_limits (connect 1 a ∷ connect 2 a ∷ [])
    (gets 1 packets.Pingreq ∷ gets 2 packets.Pingreq ∷ [])
    ([] ∷ (sends 2 packets.Pingresp ∷ []) ∷ [])

-- SUBACK has the requested QoS (MQTT 3.9.3)
abbrev pub SubscribeIsGranted : Type 0
SubscribeIsGranted =
    AreAnswered usual_limits (connect 1 b ∷ []) (gets 1 (subscribe 1 qos_levels.ExactlyOnce) ∷ [])
    ((sends 1 (suback 1 qos_levels.ExactlyOnce) ∷ []) ∷ [])

-- b has subscribed to t/# at QoS 2, and a has sent the publication x with identifier 1
abbrev pub published_x : List Command
published_x =
    subscribed_at qos_levels.ExactlyOnce
    ++ gets 2 (publish (deliveries.ExactlyOnce false 1) false (codes "x")) ∷ []

-- a publication at QoS 2: PUBREC to its publisher, PUBLISH to the subscriber (MQTT 4.3.3)
abbrev pub PublishReachesTheSubscriber : Type 0
PublishReachesTheSubscriber =
    AreAnswered usual_limits (subscribed_at qos_levels.ExactlyOnce)
    (gets 2 (publish (deliveries.ExactlyOnce false 1) false (codes "x")) ∷ [])
    ((sends 2 (packets.Pubrec 1)
    ∷ sends 1 (publish (deliveries.ExactlyOnce false 1) false (codes "x")) ∷ []) ∷ [])

-- a retransmission of a PUBLISH at QoS 2 before PUBREL: PUBREC again, and nothing to the subscriber
-- (MQTT 4.3.3)
abbrev pub RepeatBeforePubrel : Type 0
RepeatBeforePubrel =
    AreAnswered usual_limits published_x
    (gets 2 (publish (deliveries.ExactlyOnce true 1) false (codes "x")) ∷ [])
    ((sends 2 (packets.Pubrec 1) ∷ []) ∷ [])

-- a PUBLISH with DUP 1 after PUBREL is a new publication (MQTT 3.3.1.1, 4.3.3)
abbrev pub DupAfterPubrel : Type 0
DupAfterPubrel =
    AreAnswered usual_limits (published_x ++ gets 2 (packets.Pubrel 1) ∷ [])
    (gets 2 (publish (deliveries.ExactlyOnce true 1) false (codes "y")) ∷ [])
    ((sends 2 (packets.Pubrec 1)
    ∷ sends 1 (publish (deliveries.ExactlyOnce false 2) false (codes "y")) ∷ []) ∷ [])

-- PUBREL is answered by PUBCOMP each time (MQTT 4.3.3)
abbrev pub PubrelTwice : Type 0
PubrelTwice =
    AreAnswered usual_limits published_x
    (gets 2 (packets.Pubrel 1) ∷ gets 2 (packets.Pubrel 1) ∷ [])
    ((sends 2 (packets.Pubcomp 1) ∷ []) ∷ (sends 2 (packets.Pubcomp 1) ∷ []) ∷ [])

-- a publication with RETAIN 1 is sent with RETAIN 0 to clients that subscribed before, and with
-- RETAIN 1 to those that subscribe later (MQTT 3.3.1.3)
abbrev pub RetainedAtSubscribe : Type 0
RetainedAtSubscribe =
    AreAnswered usual_limits (subscribed_at qos_levels.ExactlyOnce)
    (gets 2 (publish (deliveries.ExactlyOnce false 1) true (codes "x")) ∷ gets 1 (packets.Pubrec 1)
    ∷ gets 1 (packets.Pubcomp 1) ∷ gets 1 (subscribe 2 qos_levels.ExactlyOnce) ∷ [])
    ((sends 2 (packets.Pubrec 1)
    ∷ sends 1 (publish (deliveries.ExactlyOnce false 1) false (codes "x")) ∷ [])
    ∷ (sends 1 (packets.Pubrel 1) ∷ []) ∷ []
    ∷ (sends 1 (suback 2 qos_levels.ExactlyOnce)
    ∷ sends 1 (publish (deliveries.ExactlyOnce false 1) true (codes "x")) ∷ []) ∷ [])

-- two filters of one client match: one PUBLISH, at the greater QoS (MQTT 3.3.5)
abbrev pub TwoFiltersOnePublication : Type 0
TwoFiltersOnePublication =
    AreAnswered usual_limits (subscribed_at qos_levels.ExactlyOnce)
    (gets 1
    (packets.Subscribe
    (record {
      id = 1;
      filters =
          record { filter = codes "t/#"; qos = qos_levels.AtMostOnce }
          ∷ record { filter = codes "t/1"; qos = qos_levels.ExactlyOnce } ∷ [];
    }))
    ∷ gets 2 (publish (deliveries.ExactlyOnce false 1) false (codes "x")) ∷ [])
    ((sends 1
    (packets.Suback (record {
      id = 1;
      codes =
          return_codes.Granted qos_levels.AtMostOnce
          ∷ return_codes.Granted qos_levels.ExactlyOnce ∷ [];
    })) ∷ [])
    ∷ (sends 2 (packets.Pubrec 1)
    ∷ sends 1 (publish (deliveries.ExactlyOnce false 1) false (codes "x")) ∷ []) ∷ [])
