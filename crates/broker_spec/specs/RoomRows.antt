-- A worked example: the room for retained copies that earlier filters of a SUBSCRIBE leave to later
-- ones.
use Rattle.std.specs.Prelude.{true, false, [], ◌∷◌, ◌++◌, codes}
use Rattle.packet_base.specs.declared.qos.QoS.TheVariants as qos_levels
use Rattle.packet.specs.declared.delivery.Delivery.TheVariants as deliveries
use Rattle.packet.specs.declared.suback.SubackCode.TheVariants as return_codes
use Rattle.packet.specs.declared.packet.Packet.TheVariants as packets
use Rattle.broker_spec.specs.RowWords.{AreAnswered, a, b, connect, gets, sends, small}
use Rattle.broker_spec.specs.TopicRowWords.{publish_on, subscribe_row}
use Rattle.broker_spec.specs.TopicRowWords.{filters_at, publish_row}

-- t/1 needs one entry and t/# two, so t/2 finds no room left; at QoS 0 it needs none
abbrev pub RoomIsLessWhatEarlierFiltersNeed : Type 0
RoomIsLessWhatEarlierFiltersNeed =
    AreAnswered (small 3 16) (connect 2 a
    ∷ publish_row qos_levels.AtLeastOnce (codes "t/1" ∷ codes "t/2" ∷ []) ++ connect 1 b ∷ [])
    (gets 1 (subscribe_row 1 (filters_at qos_levels.AtLeastOnce
    (codes "t/1" ∷ codes "t/#" ∷ codes "t/2" ∷ [])
    ++ filters_at qos_levels.AtMostOnce (codes "t/2" ∷ []))) ∷ [])
    ((sends 1
    (packets.Suback
    (record {
      id = 1;
      codes =
          return_codes.Granted qos_levels.AtLeastOnce ∷ return_codes.Granted qos_levels.AtLeastOnce
          ∷ return_codes.Failure ∷ return_codes.Granted qos_levels.AtMostOnce ∷ [];
    }))
    ∷ sends 1 (publish_on (codes "t/1") (deliveries.AtLeastOnce false 1) true (codes "x"))
    ∷ sends 1 (publish_on (codes "t/1") (deliveries.AtLeastOnce false 2) true (codes "x"))
    ∷ sends 1 (publish_on (codes "t/2") (deliveries.AtLeastOnce false 3) true (codes "x"))
    ∷ sends 1 (publish_on (codes "t/2") deliveries.AtMostOnce true (codes "x")) ∷ []) ∷ [])
