-- Guards of definitions that no worked example of the broker reaches: which answer finishes which
-- entry, by its QoS (MQTT 4.3.2, 4.3.3), and whom an Expel names.
use Rattle.std.specs.Prelude.{◌≡◌, true, false, [], ◌∷◌, ◌++◌, Some, None, codes}
use Rattle.std.specs.List.{AllByRecursion}
use Rattle.packet.specs.declared.delivery.Delivery.TheVariants as deliveries
use Rattle.packet.specs.declared.packet.Packet.TheVariants as packets
use Rattle.packet_base.specs.declared.qos.QoS.TheVariants as qos_levels
use Rattle.session_base.specs.Publication.{is_qos1}
use Rattle.broker_spec.specs.Commands.{usual_limits}
use Rattle.broker_spec.specs.Entries.{Entry}
use Rattle.broker_spec.specs.Place.{Client, Past, Limits}
use Rattle.broker_spec.specs.RowWords.{AreAnswered, b, nth, connect, gets, sends, connack}
use Rattle.broker_spec.specs.RowWords.{publish, subscribed_at}
use Rattle.broker_spec.specs.Times.{entries_of}
use Rattle.broker_spec.specs.declared.command.Command.TheVariants as commands
use Rattle.broker_spec.specs.declared.command.Output.TheVariants.{Close}

-- an entry is released at QoS 2 alone, and finished without a release at QoS 1 alone
abbrev pub FitsItsQoS : Entry → Type 0
FitsItsQoS (Entry.Released made publication id start release) =
    is_qos1 publication.qos ≡ false
FitsItsQoS (Entry.Done made publication id start None finish) =
    is_qos1 publication.qos ≡ true
FitsItsQoS (Entry.Done made publication id start (Some release) finish) =
    is_qos1 publication.qos ≡ false
FitsItsQoS _ = Unit {0}

-- each entry of each session fits its QoS
abbrev pub EntriesFitTheirQoS : Type 0
EntriesFitTheirQoS =
    (limits : Limits) (past : Past) (client : Client)
    → AllByRecursion FitsItsQoS (entries_of limits past client)

-- b is sent x at QoS 1 with identifier 1 and y at QoS 2 with identifier 2. A PUBREC of 1 and a
-- PUBACK of 2 are nothing: when b comes back it is sent both again
abbrev pub AnswersOfAnotherQoSAreNothing : Type 0
AnswersOfAnotherQoSAreNothing =
    AreAnswered usual_limits
    (subscribed_at qos_levels.ExactlyOnce
    ++ gets 2 (publish (deliveries.AtLeastOnce false 7) false (codes "x"))
    ∷ gets 2 (publish (deliveries.ExactlyOnce false 8) false (codes "y")) ∷ [])
    (gets 1 (packets.Pubrec 1) ∷ gets 1 (packets.Puback 2) ∷ connect 3 b ∷ [])
    ([] ∷ [] ∷ (Close (nth 1) ∷ sends 3 (connack true)
    ∷ sends 3 (publish (deliveries.AtLeastOnce true 1) false (codes "x"))
    ∷ sends 3 (publish (deliveries.ExactlyOnce true 2) false (codes "y")) ∷ []) ∷ [])

-- An Expel is nothing for a client that never came, for a text that is no identifier, and for one
-- that begins a client's own or begins with it: b continues as it was.
abbrev pub ExpelsOfNobodyAreNothing : Type 0
ExpelsOfNobodyAreNothing =
    AreAnswered usual_limits (subscribed_at qos_levels.ExactlyOnce ++ connect 4 (codes "bc")
    ∷ gets 2 (publish (deliveries.ExactlyOnce false 1) false (codes "x")) ∷ [])
    (commands.Expel (codes "c") ∷ commands.Expel [] ∷ commands.Expel (0 ∷ [])
    ∷ commands.Expel (codes "ba")
    ∷ gets 1 (packets.Pubrec 1) ∷ commands.Expel (codes "bc") ∷ gets 1 (packets.Pubcomp 1)
    ∷ gets 1 packets.Pingreq ∷ [])
    ([] ∷ [] ∷ [] ∷ [] ∷ (sends 1 (packets.Pubrel 1) ∷ []) ∷ (Close (nth 4) ∷ []) ∷ []
    ∷ (sends 1 packets.Pingresp ∷ []) ∷ [])

-- the session of a client that is away is removed too: what waits for it is sent to no client, and
-- when it comes back a new session begins
abbrev pub ExpelledWhileAway : Type 0
ExpelledWhileAway =
    AreAnswered usual_limits (subscribed_at qos_levels.ExactlyOnce ++ commands.Lost (nth 1)
    ∷ gets 2 (publish (deliveries.ExactlyOnce false 1) false (codes "x")) ∷ [])
    (commands.Expel b ∷ commands.Expel b ∷ connect 3 b ∷ [])
    ([] ∷ [] ∷ (sends 3 (connack false) ∷ []) ∷ [])
