-- Worked examples of a full queue: the session of b holds three entries.
use Rattle.std.specs.Prelude.{◌≡◌, ℕ, Bool, true, false, List, [], ◌∷◌, ◌++◌, map, codes}
use Rattle.packet_base.specs.declared.qos.QoS.TheVariants as qos_levels
use Rattle.packet.specs.declared.delivery.Delivery.TheVariants as deliveries
use Rattle.packet.specs.declared.packet.Packet.TheVariants as packets
use Rattle.broker_spec.specs.Commands.{past_of}
use Rattle.broker_spec.specs.Readings.{publication_in}
use Rattle.broker_spec.specs.Times.{entries_of}
use Rattle.broker_spec.specs.RowWords.{AreAnswered, a, b, nth, connect, gets, sends, publish, subscribed_at, publications, small}
use Rattle.broker_spec.specs.declared.command.Command.{Command}
use Rattle.broker_spec.specs.declared.command.Command.TheVariants as commands
use Rattle.broker_spec.specs.declared.command.Output.TheVariants.{Close}

-- b is offline and holds two entries
abbrev pub queued_two : List Command
queued_two = subscribed_at qos_levels.ExactlyOnce ++ commands.Lost (nth 1) ∷ publications 2

-- a sends x, y and z at QoS 2 on the nth connection
abbrev pub publishes_xyz : ℕ → Bool → List Command
publishes_xyz number dup =
    gets number (publish (deliveries.ExactlyOnce dup 1) false (codes "x"))
    ∷ gets number (publish (deliveries.ExactlyOnce dup 2) false (codes "y"))
    ∷ gets number (publish (deliveries.ExactlyOnce dup 3) false (codes "z")) ∷ []

-- b connects and finishes two entries, and a connects again
abbrev pub makes_room : List Command
makes_room = connect 3 b ∷ gets 3 (packets.Puback 1) ∷ gets 3 (packets.Puback 2) ∷ connect 4 a ∷ []

-- x takes the last slot; y is refused and its connection closed, so that z cannot overtake it
abbrev pub FullQueueRefuses : Type 0
FullQueueRefuses =
    AreAnswered (small 3 16) queued_two (publishes_xyz 2 false)
    ((sends 2 (packets.Pubrec 1) ∷ []) ∷ (Close (nth 2) ∷ []) ∷ [] ∷ [])

-- once there is room, the three are retransmitted and each is acknowledged, and b gets y and z
abbrev pub FullQueueGoesOn : Type 0
FullQueueGoesOn =
    AreAnswered (small 3 16) (queued_two ++ publishes_xyz 2 false ++ makes_room)
    (publishes_xyz 4 true)
    ((sends 4 (packets.Pubrec 1) ∷ [])
    ∷ (sends 4 (packets.Pubrec 2)
    ∷ sends 3 (publish (deliveries.ExactlyOnce false 1) false (codes "y")) ∷ [])
    ∷ (sends 4 (packets.Pubrec 3)
    ∷ sends 3 (publish (deliveries.ExactlyOnce false 2) false (codes "z")) ∷ []) ∷ [])

-- the entries of b carry these payloads, each once and in the order of publishing
abbrev pub FullQueueKeepsTheOrder : Type 0
FullQueueKeepsTheOrder =
    map (λ entry. (publication_in entry).payload)
    (entries_of (small 3 16)
    (past_of (small 3 16)
    (queued_two ++ publishes_xyz 2 false ++ makes_room ++ publishes_xyz 4 true))
    b)
    ≡ codes "o" ∷ codes "o" ∷ codes "x" ∷ codes "y" ∷ codes "z" ∷ []
