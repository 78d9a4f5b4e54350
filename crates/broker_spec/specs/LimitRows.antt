-- Worked examples: the limits of a broker, the answers when one is reached, and a Connect on a
-- client's current connection (MQTT 3.1.4, 3.2.2.3, 3.9.3, 4.8).
use Rattle.std.specs.Prelude.{◌≡◌, ℕ, true, false, List, [], ◌∷◌, codes}
use Rattle.packet_base.specs.declared.refusal_code.RefusalCode.TheVariants as refusals
use Rattle.packet.specs.declared.connack.Connack.TheVariants as connacks
use Rattle.packet_base.specs.declared.qos.QoS.TheVariants as qos_levels
use Rattle.packet.specs.declared.delivery.Delivery.TheVariants as deliveries
use Rattle.packet.specs.declared.suback.SubackCode.TheVariants as return_codes
use Rattle.packet.specs.declared.packet.Packet.TheVariants as packets
use Rattle.broker_spec.specs.Place.{Past}
use Rattle.broker_spec.specs.Commands.{limits_with, usual_limits}
use Rattle.broker_spec.specs.Connection.{is_connection_name}
use Rattle.broker_spec.specs.RowWords.{AreAnswered, a, b, nth, connect, gets, sends, connack, small}
use Rattle.broker_spec.specs.TopicRowWords.{publish_on, subscribe_row, filters_at, publish_row}
use Rattle.broker_spec.specs.declared.command.Command.{Command}
use Rattle.broker_spec.specs.declared.command.Command.TheVariants as commands
use Rattle.broker_spec.specs.declared.command.Output.TheVariants.{Close}

-- 4,096 sessions, 64 subscriptions and 4,096 unfinished entries of each, 16,384 retained topics,
-- for any window; the window is 64 in a new broker
abbrev pub LimitsAre : Type 0
LimitsAre =
    ((window : Past → ℕ) → (limits_with window).sessions ≡ 4096)
    × ((window : Past → ℕ) → (limits_with window).subscriptions ≡ 64)
    × ((window : Past → ℕ) → (limits_with window).entries ≡ 4096)
    × ((window : Past → ℕ) → (limits_with window).retained ≡ 16384)
    × ((past : Past) → usual_limits.window past ≡ 64)

-- ballots are 1 to 4,294,967,296, and the connections of a ballot 1 to 1,099,511,627,776
abbrev pub NamesAre : Type 0
NamesAre =
    (is_connection_name (record { ballot = 1; count = 1 }) ≡ true)
    × (is_connection_name (record { ballot = 4294967296; count = 1099511627776 }) ≡ true)
    × (is_connection_name (record { ballot = 0; count = 1 }) ≡ false)
    × (is_connection_name (record { ballot = 4294967297; count = 1 }) ≡ false)
    × (is_connection_name (record { ballot = 1; count = 0 }) ≡ false)
    × (is_connection_name (record { ballot = 1; count = 1099511627777 }) ≡ false)

-- ---- with four sessions, four subscriptions of each and four retained topics

-- four clients have a session; that of the fourth is clean
abbrev pub four_sessions : List Command
four_sessions =
    connect 1 a ∷ connect 2 b ∷ connect 3 (codes "c")
    ∷ commands.Connect (nth 4) (codes "d") true ∷ []

-- a fifth client gets CONNACK 3 and is closed; a client with a session is accepted; and a fifth is,
-- once the clean session has ended
abbrev pub FifthSessionIsRefused : Type 0
FifthSessionIsRefused =
    AreAnswered (small 3 16) four_sessions
    (connect 5 (codes "e") ∷ gets 5 packets.Pingreq ∷ connect 6 a ∷ commands.Lost (nth 4)
    ∷ connect 7 (codes "e") ∷ [])
    ((sends 5 (packets.Connack (connacks.Refused refusals.ServerUnavailable)) ∷ Close (nth 5) ∷ [])
    ∷ []
    ∷ (Close (nth 1) ∷ sends 6 (connack true) ∷ []) ∷ [] ∷ (sends 7 (connack false) ∷ []) ∷ [])

-- b has subscribed to f/1 to f/4 at QoS 1
abbrev pub four_filters : List Command
four_filters =
    connect 1 b
    ∷ gets 1 (subscribe_row 1 (filters_at qos_levels.AtLeastOnce
    (codes "f/1" ∷ codes "f/2" ∷ codes "f/3" ∷ codes "f/4" ∷ []))) ∷ connect 2 a ∷ []

-- a fifth filter gets 0x80 and is not set; an identical one is replaced and granted with the rest
abbrev pub FifthFilterIsRefused : Type 0
FifthFilterIsRefused =
    AreAnswered (small 3 16) four_filters
    (gets 1 (subscribe_row 2 (filters_at qos_levels.AtMostOnce (codes "f/5" ∷ codes "f/2" ∷ [])))
    ∷ gets 2 (publish_on (codes "f/5") (deliveries.AtLeastOnce false 1) false (codes "x"))
    ∷ gets 2 (publish_on (codes "f/2") (deliveries.AtLeastOnce false 2) false (codes "x")) ∷ [])
    ((sends 1
    (packets.Suback (record {
      id = 2;
      codes = return_codes.Failure ∷ return_codes.Granted qos_levels.AtMostOnce ∷ [];
    })) ∷ [])
    ∷ (sends 2 (packets.Puback 1) ∷ [])
    ∷ (sends 2 (packets.Puback 2)
    ∷ sends 1 (publish_on (codes "f/2") deliveries.AtMostOnce false (codes "x")) ∷ []) ∷ [])

-- four topics are retained, at QoS 1
abbrev pub four_topics : List Command
four_topics =
    connect 2 a ∷ publish_row qos_levels.AtLeastOnce
    (codes "t/1" ∷ codes "t/2" ∷ codes "t/3" ∷ codes "t/4" ∷ [])

-- a fifth topic is refused and its connection closed; a topic that is there is replaced, and an
-- empty payload makes room
abbrev pub FifthTopicIsRefused : Type 0
FifthTopicIsRefused =
    AreAnswered (small 3 16) four_topics
    (gets 2 (publish_on (codes "t/4") (deliveries.AtLeastOnce false 5) true (codes "y"))
    ∷ gets 2 (publish_on (codes "t/3") (deliveries.AtLeastOnce false 6) true [])
    ∷ gets 2 (publish_on (codes "t/5") (deliveries.AtLeastOnce false 7) true (codes "y"))
    ∷ gets 2 (publish_on (codes "t/6") (deliveries.AtLeastOnce false 8) false (codes "y"))
    ∷ gets 2 (publish_on (codes "t/6") (deliveries.AtLeastOnce false 9) true (codes "y"))
    ∷ gets 2 packets.Pingreq ∷ [])
    ((sends 2 (packets.Puback 5) ∷ []) ∷ (sends 2 (packets.Puback 6) ∷ [])
    ∷ (sends 2 (packets.Puback 7) ∷ [])
    ∷ (sends 2 (packets.Puback 8) ∷ []) ∷ (Close (nth 2) ∷ []) ∷ [] ∷ [])

-- ---- connections

-- a Connect on a client's current connection ends it with a Close; no session begins (MQTT-3.1.0-2)
abbrev pub ConnectOnACurrentConnection : Type 0
ConnectOnACurrentConnection =
    AreAnswered usual_limits (connect 1 a ∷ [])
    (connect 1 b ∷ gets 1 packets.Pingreq ∷ connect 2 b ∷ connect 3 a ∷ [])
    ((Close (nth 1) ∷ []) ∷ [] ∷ (sends 2 (connack false) ∷ [])
    ∷ (sends 3 (connack true) ∷ []) ∷ [])
