-- Worked examples: a client is expelled, and everything in its session is removed (MQTT 3.1.2.4,
-- 4.1).
use Rattle.std.specs.Prelude.{◌≡◌, true, false, [], ◌∷◌, ◌++◌, codes, Some, None}
use Rattle.packet.specs.declared.delivery.Delivery.TheVariants as deliveries
use Rattle.packet.specs.declared.packet.Packet.TheVariants as packets
use Rattle.broker_spec.specs.Sessions.{current_connection, clean_session_of, session_start}
use Rattle.broker_spec.specs.Times.{entries_of}
use Rattle.broker_spec.specs.Received.{received_of}
use Rattle.broker_spec.specs.Commands.{past_of, usual_limits}
use Rattle.broker_spec.specs.RowWords.{AreAnswered, a, b, nth, connect, gets, sends, connack, publish}
use Rattle.broker_spec.specs.Rows.{published_x}
use Rattle.broker_spec.specs.SessionRows.{EndsSession, SessionBegan, connect_clean}
use Rattle.broker_spec.specs.declared.command.Command.TheVariants as commands
use Rattle.broker_spec.specs.declared.command.Output.TheVariants.{Close}

-- b's connection is closed, once; what a then publishes reaches no client; when b reconnects a new
-- session begins, and b's acknowledgements match no entry
abbrev pub ExpelledOnce : Type 0
ExpelledOnce =
    AreAnswered usual_limits published_x
    (commands.Expel b ∷ commands.Expel b
    ∷ gets 2 (publish (deliveries.ExactlyOnce false 2) false (codes "y"))
    ∷ gets 1 (packets.Pubrec 1) ∷ connect 3 b ∷ gets 3 (packets.Pubrec 1)
    ∷ gets 3 packets.Pingreq ∷ [])
    ((Close (nth 1) ∷ []) ∷ [] ∷ (sends 2 (packets.Pubrec 2) ∷ []) ∷ []
    ∷ (sends 3 (connack false) ∷ []) ∷ []
    ∷ (sends 3 packets.Pingresp ∷ []) ∷ [])

-- nothing of the session is left: no connection, no session, no entry
abbrev pub NothingIsLeft : Type 0
NothingIsLeft =
    let past = past_of usual_limits (published_x ++ commands.Expel b ∷ []) in
    (current_connection past b ≡ None) × (clean_session_of past b ≡ None)
    × (entries_of usual_limits past b ≡ [])
    × (clean_session_of past a ≡ Some false) × (current_connection past a ≡ Some (nth 2))

-- the identifiers that were received are removed too, so the same publication is taken once more
abbrev pub IdentifiersAreGone : Type 0
IdentifiersAreGone =
    let past = past_of usual_limits (published_x ++ commands.Expel a ∷ connect 4 a ∷ []) in
    (received_of (past_of usual_limits published_x) a ≡ 1 ∷ []) × (received_of past a ≡ [])
    × AreAnswered usual_limits (published_x ++ commands.Expel a ∷ connect 4 a ∷ [])
    (gets 4 (publish (deliveries.ExactlyOnce true 1) false (codes "x")) ∷ [])
    ((sends 4 (packets.Pubrec 1)
    ∷ sends 1 (publish (deliveries.ExactlyOnce false 2) false (codes "x")) ∷ []) ∷ [])

-- a session ends with or without a connection, clean or not; a session of another client does not
abbrev pub ExpelEnds : Type 0
ExpelEnds =
    EndsSession [] (commands.Expel a) false × EndsSession (connect 1 a ∷ []) (commands.Expel a) true
    × EndsSession (connect 1 a ∷ commands.Lost (nth 1) ∷ []) (commands.Expel a) true
    × EndsSession (connect_clean 1 a ∷ []) (commands.Expel a) true
    × EndsSession (connect 1 a ∷ connect 2 b ∷ []) (commands.Expel b) false
    × SessionBegan (connect 1 a ∷ commands.Expel a ∷ []) None
    × SessionBegan (connect 1 a ∷ commands.Expel a ∷ connect 2 a ∷ []) (Some 2)
    × SessionBegan (connect 1 a ∷ connect 2 b ∷ commands.Expel b ∷ []) (Some 0)
