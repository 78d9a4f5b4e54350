-- Worked examples, computed by the step: a full queue, the order on a later connection, a window
-- that grows, and which acknowledgements start a waiting publication.
use Rattle.std.specs.Prelude.{◌≡◌, ℕ, true, false, List, [], ◌∷◌, ◌++◌, Some, codes}
use Rattle.packet_base.specs.declared.qos.QoS.TheVariants as qos_levels
use Rattle.packet.specs.declared.delivery.Delivery.TheVariants as deliveries
use Rattle.packet.specs.declared.packet.Packet.TheVariants as packets
use Rattle.session_base.specs.declared.publication.Publication.{Publication}
use Rattle.session_base.specs.declared.awaits.Awaits.TheVariants as waits_for
use Rattle.session_base.specs.Queue.{Queue}
use Rattle.broker_spec.specs.Place.{Limits}
use Rattle.broker_spec.specs.Commands.{usual_limits}
use Rattle.broker_base.specs.State.{State, empty_state}
use Rattle.broker_base.specs.Step.{step, state_from, steps_from}
use Rattle.broker_spec.specs.RowWords.{nth, b, connect, gets, sends, connack, publish, unsubscribe}
use Rattle.broker_spec.specs.RowWords.{numbers, delivered, small}
use Rattle.broker_spec.specs.FullQueueRows.{queued_two, publishes_xyz, makes_room}
use Rattle.broker_spec.specs.WindowRows.{routed, seventy}
use Rattle.broker_spec.specs.declared.command.Command.{Command}
use Rattle.broker_spec.specs.declared.command.Command.TheVariants as commands
use Rattle.broker_spec.specs.declared.command.Output.{Output}
use Rattle.broker_spec.specs.declared.command.Output.TheVariants.{Close}

-- the steps from the empty state with the first window, which a Start changes to the later one,
-- give these answers to the next commands
abbrev pub StepsGive : Limits → ℕ → ℕ → List Command → List Command → List (List Output) → Type 0
StepsGive limits first later earlier next answers =
    steps_from limits later (state_from limits later (empty_state first) earlier) next ≡ answers

-- a full queue refuses y; once there is room, each is acknowledged, and the subscriber gets y and z
abbrev pub StepsRefuseAndGoOn : Type 0
StepsRefuseAndGoOn =
    StepsGive (small 3 16) 16 16 (queued_two ++ publishes_xyz 2 false ++ makes_room)
    (publishes_xyz 4 true)
    ((sends 4 (packets.Pubrec 1) ∷ [])
    ∷ (sends 4 (packets.Pubrec 2)
    ∷ sends 3 (publish (deliveries.ExactlyOnce false 1) false (codes "y")) ∷ [])
    ∷ (sends 4 (packets.Pubrec 3)
    ∷ sends 3 (publish (deliveries.ExactlyOnce false 2) false (codes "z")) ∷ []) ∷ [])

-- the 17th publication is sent with the identifier that PUBACK frees, and comes last on the next
-- connection
abbrev pub StepsKeepTheOrder : Type 0
StepsKeepTheOrder =
    StepsGive (small 100 16) 16 16 (routed 17) (gets 1 (packets.Puback 5) ∷ connect 3 b ∷ [])
    (delivered 1 false (5 ∷ [])
    ∷ (Close (nth 1) ∷ sends 3 (connack true)
    ∷ delivered 3 true (numbers 4 1 ++ numbers 11 6 ++ 5 ∷ [])) ∷ [])

-- a broker whose first window was 16 sends 16, and 64 once a new ballot has begun
abbrev pub StepsWidenTheWindow : Type 0
StepsWidenTheWindow =
    StepsGive usual_limits 16 64 seventy (connect 3 b ∷ commands.Start 2 ∷ connect 4 b ∷ [])
    ((sends 3 (connack true) ∷ delivered 3 false (numbers 16 1)) ∷ []
    ∷ (sends 4 (connack true) ∷ delivered 4 true (numbers 16 1)
    ++ delivered 4 false (numbers 48 17)) ∷ [])

-- ---- a state in which a connected client's queue is not filled: one publication waits, and
-- nothing is in flight

-- the publication o at QoS 1, which waits in these examples
abbrev pub waits_o : Publication
waits_o =
    record {
      retain = false;
      qos = qos_levels.AtLeastOnce;
      topic = codes "t/1";
      payload = codes "o";
    }

-- b is served on connection 1, with this queue
abbrev pub serves_b : Queue → State
serves_b queue =
    record {
      window = 16;
      sessions = (
        b,
        record {
          clean = false;
          connection = Some (nth 1);
          state = record { subscriptions = []; received = []; queue = queue };
        },
      ) ∷ [];
      retained = [];
    }

-- b is served, and that publication waits in its queue
abbrev pub o_waits : State
o_waits = serves_b (record { in_flight = []; waiting = waits_o ∷ [] })

-- PINGREQ, PUBREC, PUBREL and UNSUBSCRIBE start nothing, so no entry starts whose PUBLISH is not
-- sent
abbrev pub OthersStartNothing : Type 0
OthersStartNothing =
    (step usual_limits 64 o_waits (gets 1 packets.Pingreq)
    ≡ (o_waits, sends 1 packets.Pingresp ∷ []))
    × (step usual_limits 64 o_waits (gets 1 (packets.Pubrec 7)) ≡ (o_waits, []))
    × (step usual_limits 64 o_waits (gets 1 (packets.Pubrel 7))
    ≡ (o_waits, sends 1 (packets.Pubcomp 7) ∷ []))
    × (step usual_limits 64 o_waits (gets 1 (unsubscribe 3))
    ≡ (o_waits, sends 1 (packets.Unsuback 3) ∷ []))

-- b is served, and that publication is in flight
abbrev pub o_started : State
o_started = serves_b (record { in_flight = (1, waits_for.Puback waits_o) ∷ []; waiting = [] })

-- after PUBACK and PUBCOMP, whether or not they match an entry, the waiting publication starts and
-- is sent (MQTT 4.6)
abbrev pub AnswersStartWhatWaits : Type 0
AnswersStartWhatWaits =
    (step usual_limits 64 o_waits (gets 1 (packets.Puback 7))
    ≡ (o_started, delivered 1 false (1 ∷ [])))
    × (step usual_limits 64 o_waits (gets 1 (packets.Pubcomp 7))
    ≡ (o_started, delivered 1 false (1 ∷ [])))
