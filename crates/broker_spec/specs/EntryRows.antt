-- Worked examples: the places at which an entry is made, starts, is released and is done (MQTT 4.1,
-- 4.3).
use Rattle.std.specs.Prelude.{◌≡◌, true, false, List, [], ◌∷◌, ◌++◌, map, codes, Some, None}
use Rattle.packet_base.specs.declared.qos.QoS.TheVariants as qos_levels
use Rattle.packet.specs.declared.delivery.Delivery.TheVariants as deliveries
use Rattle.packet.specs.declared.packet.Packet.TheVariants as packets
use Rattle.broker_spec.specs.Entries.{Entry}
use Rattle.broker_spec.specs.Readings.{Origin, origin_of, start_place, release_place, finish_place, sent_entries}
use Rattle.broker_spec.specs.Times.{entries_of}
use Rattle.broker_spec.specs.Commands.{past_of, usual_limits}
use Rattle.broker_spec.specs.RowWords.{b, gets, publish, subscribe, subscribed_at}
use Rattle.broker_spec.specs.declared.command.Command.{Command}

-- b subscribes at place 1; a publishes x at QoS 1 at place 3 and y, retained, at QoS 2 at place 4;
-- b subscribes again at place 5, answers x and y, and does not answer the retained copy
abbrev pub three_entries : List Command
three_entries =
    subscribed_at qos_levels.ExactlyOnce
    ++ gets 2 (publish (deliveries.AtLeastOnce false 1) false (codes "x"))
    ∷ gets 2 (publish (deliveries.ExactlyOnce false 2) true (codes "y"))
    ∷ gets 1 (subscribe 2 qos_levels.ExactlyOnce)
    ∷ gets 1 (packets.Puback 1) ∷ gets 1 (packets.Pubrec 2) ∷ gets 1 (packets.Pubcomp 2) ∷ []

-- the entries of b after these commands
abbrev pub entries_of_b : List Entry
entries_of_b = entries_of usual_limits (past_of usual_limits three_entries) b

-- the places at which the entries of b are made, start, are released and are done
abbrev pub EntriesHaveTheirPlaces : Type 0
EntriesHaveTheirPlaces =
    (map origin_of entries_of_b
    ≡ Origin.FromPublish 3 ∷ Origin.FromPublish 4 ∷ Origin.FromRetained 5 ∷ [])
    × (map start_place entries_of_b ≡ Some 3 ∷ Some 4 ∷ Some 5 ∷ [])
    × (map release_place entries_of_b ≡ None ∷ Some 7 ∷ None ∷ [])
    × (map finish_place entries_of_b ≡ Some 6 ∷ Some 8 ∷ None ∷ [])
    × (map origin_of (sent_entries entries_of_b) ≡ Origin.FromRetained 5 ∷ [])
