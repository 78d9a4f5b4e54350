-- Worked examples: where a session begins and ends, which PUBLISH at QoS 2 is new in it, and which
-- connection of a client is current (MQTT 3.1.2.4, 3.1.4, 4.1, 4.3.3).
use Rattle.std.specs.Prelude.{◌≡◌, ℕ, Bool, true, false, List, [], ◌∷◌, codes, Option, Some, None}
use Rattle.packet.specs.declared.delivery.Delivery.TheVariants as deliveries
use Rattle.packet.specs.declared.packet.Packet.TheVariants as packets
use Rattle.broker_spec.specs.Place.{Client}
use Rattle.broker_spec.specs.Sessions.{ends_session, session_start, StandsIn}
use Rattle.broker_spec.specs.Owner.{owner_of, IsLive}
use Rattle.broker_spec.specs.Received.{is_new}
use Rattle.broker_spec.specs.Marks.{mark_of}
use Rattle.broker_spec.specs.Commands.{place_of, past_of, usual_limits}
use Rattle.broker_spec.specs.RowWords.{a, b, nth, connect, gets, publish}
use Rattle.broker_spec.specs.declared.command.Command.{Command}
use Rattle.broker_spec.specs.declared.command.Command.TheVariants as commands

-- ---- sessions

-- a client opens the nth connection, with CleanSession 1
abbrev pub connect_clean : ℕ → Client → Command
connect_clean number client = commands.Connect (nth number) client true

-- after these commands, the session of a began at this place
abbrev pub SessionBegan : List Command → Option ℕ → Type 0
SessionBegan commands start = session_start (past_of usual_limits commands) a ≡ start

-- a session that is not clean outlives its connection; a clean Connect begins one at its own place
abbrev pub SessionsBegin : Type 0
SessionsBegin =
    SessionBegan [] None × SessionBegan (connect 1 a ∷ []) (Some 0)
    × SessionBegan (connect 1 b ∷ connect 2 a ∷ []) (Some 1)
    × SessionBegan (connect 1 a ∷ commands.Lost (nth 1) ∷ connect 2 a ∷ []) (Some 0)
    × SessionBegan (connect 1 a ∷ connect 2 a ∷ commands.Start 2 ∷ []) (Some 0)
    × SessionBegan (connect 1 a ∷ connect_clean 2 a ∷ []) (Some 1)
    × SessionBegan (connect_clean 1 a ∷ connect 2 a ∷ []) (Some 1)
    × SessionBegan (connect_clean 1 a ∷ connect_clean 2 a ∷ []) (Some 1)
    × SessionBegan (connect_clean 1 a ∷ commands.Lost (nth 1) ∷ []) None
    × SessionBegan (connect_clean 1 a ∷ commands.Start 2 ∷ []) None
    × SessionBegan (connect_clean 1 a ∷ gets 1 packets.Disconnect ∷ []) None
    × SessionBegan (connect_clean 1 a ∷ commands.Lost (nth 1) ∷ connect 2 a ∷ []) (Some 2)

-- after the earlier commands, whether the next one ends the session of a
abbrev pub EndsSession : List Command → Command → Bool → Type 0
EndsSession earlier next ended =
    ends_session (place_of usual_limits (past_of usual_limits earlier) next)
    (past_of usual_limits earlier) a ≡ ended

-- a session ends at a clean Connect, and a clean one where its connection ends
abbrev pub SessionsEnd : Type 0
SessionsEnd =
    EndsSession [] (connect 1 a) false × EndsSession (connect 1 a ∷ []) (connect 2 a) false
    × EndsSession (connect 1 a ∷ []) (connect_clean 2 a) true
    × EndsSession (connect_clean 1 a ∷ []) (connect 2 a) true
    × EndsSession (connect 1 a ∷ []) (commands.Start 2) false
    × EndsSession (connect_clean 1 a ∷ []) (commands.Start 2) true
    × EndsSession (connect_clean 1 a ∷ []) (commands.Lost (nth 1)) true
    × EndsSession (connect_clean 1 a ∷ []) (commands.Lost (nth 2)) false

-- the session of places 0 and 1 ends at place 2, where the next one begins
abbrev pub PlacesStandInSessions : Type 0
PlacesStandInSessions =
    let past = past_of usual_limits (connect 1 a ∷ gets 1 packets.Pingreq ∷ connect_clean 2 a ∷ [])
    in
    StandsIn past 0 a 0 × StandsIn past 1 a 0 × StandsIn past 2 a 2

-- ---- what counts

-- whether the next command brings a new publication after the earlier ones
abbrev pub IsNewAfter : List Command → Command → Bool → Type 0
IsNewAfter earlier next new =
    is_new next (mark_of usual_limits (past_of usual_limits earlier) next) ≡ new

-- a QoS 2 PUBLISH brings a new publication unless it is a repeat or not on a current connection;
-- one at QoS 1 is taken each time and not counted as new
abbrev pub NewOnce : Type 0
NewOnce =
    IsNewAfter (connect 2 a ∷ [])
    (gets 2 (publish (deliveries.ExactlyOnce true 1) false (codes "x"))) true
    × IsNewAfter
    (connect 2 a ∷ gets 2 (publish (deliveries.ExactlyOnce false 1) false (codes "x")) ∷ [])
    (gets 2 (publish (deliveries.ExactlyOnce true 1) false (codes "x"))) false
    × IsNewAfter [] (gets 2 (publish (deliveries.ExactlyOnce false 1) false (codes "x"))) false
    × IsNewAfter (connect 2 a ∷ [])
    (gets 2 (publish (deliveries.AtLeastOnce false 1) false (codes "x"))) false

-- a connection is live until another takes its place
abbrev pub LastConnectionIsLive : Type 0
LastConnectionIsLive =
    let past = past_of usual_limits (connect 1 a ∷ connect 2 b ∷ connect 3 a ∷ []) in
    (owner_of past (nth 1) ≡ None) × IsLive past (nth 2) × (owner_of past (nth 2) ≡ Some b)
    × (owner_of past (nth 3) ≡ Some a)
