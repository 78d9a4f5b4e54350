-- Every answer to a command of the log can be spelled, and so can those to every list of commands.
use Rattle.std.proofs.Common.{ℕ, ◌<◌, ◌^◌, Bool, true, false, ◌||◌, if◌then◌else◌, Option, Some, None, List, [], ◌∷◌, ◌++◌, arith}
use Rattle.std.specs.List.{AllByRecursion}
use Rattle.std.specs.List.Sorted.{IsStrictlySortedBy}
use Rattle.packet.specs.Spelling.{IsPacket}
use Rattle.packet.specs.declared.packet.Packet.{Packet}
use Rattle.packet.specs.declared.packet.Packet.TheVariants as packets
use Rattle.session_base.specs.Publication.{publication_of}
use Rattle.session_base.specs.Queue.{room}
use Rattle.session_base.specs.EntryPackets.{fill_sends, resend}
use Rattle.broker_spec.specs.Connection.{ConnectionName}
use Rattle.broker_spec.specs.Place.{Client, Mark, Place, Limits}
use Rattle.broker_spec.specs.Answers.{close_outputs, acknowledged}
use Rattle.broker_spec.specs.Logged.{IsBrokerCommand}
use Rattle.broker_spec.specs.Commands.{usual_limits}
use Rattle.broker_spec.specs.declared.command.Command.{Command}
use Rattle.broker_spec.specs.declared.command.Command.TheVariants as commands
use Rattle.broker_base.specs.ClientSession.{ClientSession}
use Rattle.broker_base.specs.State.{State, empty_state, session_in, owner_in}
use Rattle.broker_base.specs.Decisions.{is_refused_in, repeats_taken, owned_mark, packet_mark_in, mark_in}
use Rattle.broker_base.specs.StepAnswers.{packet_answers_in, connection_of, resumed, connect_answers_in}
use Rattle.broker_base.specs.Step.{step, state_from, steps_from}
use Rattle.broker_base.specs.form.InRange.{IsBrokerState}
use Rattle.broker_base.specs.form.RangeTheorems.{CanBeSpelled, AnswersAreSpelled, ListsAreInRange}
use Rattle.broker_base.proofs.of_form.Queues.{all_append}
use Rattle.broker_base.proofs.of_form.Sessions.{IfSession}
use Rattle.broker_base.proofs.of_form.Rooms.{AllHaveRoom, rooms}
use Rattle.broker_base.proofs.of_form.Sends.{AllPackets, fills_are_packets, resends_are_packets}
use Rattle.broker_base.proofs.of_form.Answers.{AllSpelled, sent, acknowledged_spelled, all_copies_spelled, found, copies_to_spelled, codes_length, suback_spelled, handled_in_spelled}
use Rattle.broker_base.proofs.of_form.States.{found_in_range, stays_in_range}

-- ---- packets

-- what holds for every answer to a packet with the mark that it has
abbrev Answered : ℕ → State → ConnectionName → Packet → Mark → Type 0
Answered w state x packet mark =
    AllSpelled (packet_answers_in w (record { command = commands.Packet x packet; mark = mark }) state x packet mark)

owned : (w : ℕ) (limits : Limits) (state : State) (x : ConnectionName) (owner : Client × ClientSession) (packet : Packet) → limits.entries < 2 ^ 16 →
    IsBrokerCommand (commands.Packet x packet) → IsBrokerState limits state →
    AllHaveRoom limits (record { command = commands.Packet x packet; mark = owned_mark limits state owner packet }) state.retained state.sessions →
    Answered w state x packet (owned_mark limits state owner packet)
owned w limits state x owner (packets.Publish p) m k h room =
    elim (repeats_taken owner.1 p.delivery) as (λ (b : Bool). RoomAt (again b) → Answered w state x (packets.Publish p) (again b)) [
      | true ↦ λ room. acknowledged_spelled x p.delivery k.1.1
      | false ↦
          elim (is_refused_in limits state (publication_of p)) as (λ (b : Bool). RoomAt (refused b) → Answered w state x (packets.Publish p) (refused b)) [
            | true ↦ λ room. (tt, tt)
            | false ↦ λ room.
                all_append CanBeSpelled (acknowledged x p.delivery) _ (acknowledged_spelled x p.delivery k.1.1)
                (all_copies_spelled w limits (record { command = commands.Packet x (packets.Publish p); mark = Mark.Taken owner.0 }) state.retained state.sessions m k h.retained room h.sessions)
          ]
    ] room
  where
    refused : Bool → Mark
    refused b = if b then Mark.Refused owner.0 else Mark.Taken owner.0

    again : Bool → Mark
    again b = if b then Mark.Repeat owner.0 else refused (is_refused_in limits state (publication_of p))

    RoomAt : Mark → Type 0
    RoomAt mark = AllHaveRoom limits (record { command = commands.Packet x (packets.Publish p); mark = mark }) state.retained state.sessions
owned w limits state x owner (packets.Subscribe s) m k h room = (
  suback_spelled s _ (codes_length limits state.retained owner.1.state.subscriptions (room_of owner.1) s.filters) (k.1, k.2.0, k.2.1),
  copies_to_spelled w limits place state.retained owner.0 (session_in owner.0 state.sessions) m k h.retained
      (found limits place state.retained owner.0 state.sessions room h.sessions),
)
  where
    room_of : ClientSession → ℕ
    room_of kept = Rattle.session_base.specs.Queue.room limits.entries kept.state.queue

    place : Place
    place = record { command = commands.Packet x (packets.Subscribe s); mark = owned_mark limits state owner (packets.Subscribe s) }
owned w limits state x owner (packets.Connect connect) m k h room = (tt, tt)
owned w limits state x owner (packets.Connack connack) m k h room = (tt, tt)
owned w limits state x owner (packets.Suback suback) m k h room = (tt, tt)
owned w limits state x owner (packets.Unsuback id) m k h room = (tt, tt)
owned w limits state x owner packets.Pingresp m k h room = (tt, tt)
owned w limits state x owner packets.Disconnect m k h room = (tt, tt)
owned w limits state x owner packet m k h room =
    handled_in_spelled w limits x owner.0 (session_in owner.0 state.sessions) packet m (k.1, k.2.0, k.2.1) (found_in_range limits owner.0 state.sessions h.sessions)

nobodys : (w : ℕ) (state : State) (x : ConnectionName) (packet : Packet) → Answered w state x packet Mark.Unmarked
nobodys w state x (packets.Publish p) = tt
nobodys w state x (packets.Subscribe s) = tt
nobodys w state x packet = tt

-- ---- a Connect

resumed_spelled : (w : ℕ) (limits : Limits) (c : Client) (clean : Bool) (o : Option ClientSession) → limits.entries < 2 ^ 16 → IfSession limits c o →
    AllPackets (resumed w clean o)
resumed_spelled w limits c clean None m h = tt
resumed_spelled w limits c clean (Some kept) m h = by (clean || kept.clean)
  where
    by : (b : Bool) → AllPackets (if b then [] else resend kept.state.queue.in_flight ++ fill_sends w kept.state.queue.in_flight kept.state.queue.waiting)
    by true = tt
    by false =
        all_append IsPacket (resend kept.state.queue.in_flight) _ (resends_are_packets kept.state.queue.in_flight h.queue.in_flight)
        (fills_are_packets w limits.entries kept.state.queue.in_flight kept.state.queue.waiting m h.queue.in_flight h.queue.waiting h.queue.few)

closed_spelled : (o : Option ConnectionName) → AllSpelled (close_outputs o)
closed_spelled (Some x) = (tt, tt)
closed_spelled None = tt

connected_spelled : (w : ℕ) (limits : Limits) (x : ConnectionName) (c : Client) (clean : Bool) (o : Option ClientSession) (mark : Mark) → limits.entries < 2 ^ 16 →
    IfSession limits c o → AllSpelled (connect_answers_in w x clean o mark)
connected_spelled w limits x c clean o Mark.Accepted m h =
    all_append CanBeSpelled (close_outputs (connection_of o)) _ (closed_spelled (connection_of o))
    ((tt, tt, omega arith), sent x (resumed w clean o) (resumed_spelled w limits c clean o m h))
connected_spelled w limits x c clean o Mark.Full m h = ((tt, tt, omega arith), (tt, tt))
connected_spelled w limits x c clean o _ m h = (tt, tt)

-- ---- every command

pub answers_are_spelled : AnswersAreSpelled
answers_are_spelled limits later state (commands.Packet x packet) m k h =
    elim (owner_in x state.sessions) as (λ (o : Option (Client × ClientSession)).
    AllHaveRoom limits (record { command = commands.Packet x packet; mark = packet_mark_in limits state packet o }) state.retained state.sessions →
    Answered state.window state x packet (packet_mark_in limits state packet o)) [
      | Some owner ↦ λ room. owned state.window limits state x owner packet m k h room
      | None ↦ λ room. nobodys state.window state x packet
    ] (rooms limits state (commands.Packet x packet) h.sound.by_client h.sessions)
answers_are_spelled limits later state (commands.Connect x c clean) m k h =
    connected_spelled state.window limits x c clean (session_in c state.sessions) (mark_in limits state (commands.Connect x c clean)) m
    (found_in_range limits c state.sessions h.sessions)
answers_are_spelled limits later state (commands.Lost x) m k h = tt
answers_are_spelled limits later state (commands.Start ballot) m k h = tt
answers_are_spelled limits later state (commands.Expel c) m k h = closed_spelled (connection_of (session_in c state.sessions))

lists_from : (state : State) (commands : List Command) → AllByRecursion IsBrokerCommand commands → IsBrokerState usual_limits state →
    IsBrokerState usual_limits (state_from usual_limits 64 state commands)
    × AllByRecursion (AllByRecursion CanBeSpelled) (steps_from usual_limits 64 state commands)
lists_from state [] k h = (h, tt)
lists_from state (command ∷ commands) k h =
    let rest = lists_from (step usual_limits 64 state command).0 commands k.1 (stays_in_range usual_limits 64 state command (omega arith) k.0 h) in
    (rest.0, (answers_are_spelled usual_limits 64 state command (omega arith) k.0 h, rest.1))

pub lists_are_in_range : ListsAreInRange
unfolding IsStrictlySortedBy
lists_are_in_range window commands k =
    lists_from (empty_state window) commands k
    (record {
      sound = record { by_client = tt; apart = tt; sessions = tt };
      few_sessions = omega arith;
      sessions = tt;
      rising = tt;
      few_topics = omega arith;
      retained = tt;
    })
