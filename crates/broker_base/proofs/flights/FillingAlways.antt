-- Another form of the step of one session: its queue is filled after every command. On the states
-- of pasts it is the same, since there a connected client's queue is filled.
use Rattle.std.proofs.Common.{ℕ, Bool, not, ◌&&◌, ◌||◌, if◌then◌else◌, List, ◌++◌, Option, Some, None}
use Rattle.packet.specs.declared.packet.Packet.TheVariants as packets
use Rattle.retained.specs.Retained.{RetainedTopics}
use Rattle.session_base.specs.Queue.{Flight, on_puback, on_pubrec, on_pubcomp}
use Rattle.broker_spec.specs.Connection.{ConnectionName}
use Rattle.broker_spec.specs.Place.{Client, same_client, Mark, Place, only_if}
use Rattle.broker_spec.specs.Sessions.{accepts, expels, ends_any}
use Rattle.broker_spec.specs.Subscriptions.{subscriptions_after}
use Rattle.broker_spec.specs.Received.{received_by}
use Rattle.broker_spec.specs.Entries.{queued}
use Rattle.broker_base.specs.ClientSession.{ClientSession}
use Rattle.broker_base.specs.SessionStep.{copies_with, filled_on, session_anew}
use Rattle.broker_spec.specs.declared.command.Command.{Command}
use Rattle.broker_spec.specs.declared.command.Command.TheVariants as commands

-- what a client's answer leaves in flight
abbrev pub answered_flights : Command → Mark → Client → List Flight → List Flight
answered_flights (commands.Packet x (packets.Puback id)) (Mark.Handled d) c flights =
    if same_client d c then on_puback id flights else flights
answered_flights (commands.Packet x (packets.Pubrec id)) (Mark.Handled d) c flights =
    if same_client d c then on_pubrec id flights else flights
answered_flights (commands.Packet x (packets.Pubcomp id)) (Mark.Handled d) c flights =
    if same_client d c then on_pubcomp id flights else flights
answered_flights _ _ c flights = flights

-- a session continues: the answer is done, the copies are queued, the window is filled
abbrev pub filled_kept : ℕ → Place → RetainedTopics → Client → Bool → Option ConnectionName → ClientSession → ClientSession
filled_kept window place content c clean connection old =
    record {
      clean = clean;
      connection = connection;
      state = record {
        subscriptions = subscriptions_after place.command place.mark c old.state.subscriptions;
        received = received_by place.command place.mark c old.state.received;
        queue = filled_on connection window
            (answered_flights place.command place.mark c old.state.queue.in_flight)
            (old.state.queue.waiting ++ queued (copies_with place.command place.mark content c old.state.subscriptions));
      };
    }

abbrev pub filled_connected : ℕ → Place → RetainedTopics → Client → ConnectionName × Bool → Option ClientSession → ClientSession
filled_connected window place content c opened None = session_anew opened
filled_connected window place content c opened (Some old) =
    if opened.1 || old.clean then session_anew opened
    else filled_kept window place content c opened.1 (Some opened.0) old

abbrev pub filled_later : ℕ → Place → RetainedTopics → Client → Option ClientSession → Option ClientSession
filled_later window place content c None = None
filled_later window place content c (Some old) =
    only_if (not (expels place.command c || (old.clean && ends_any place c old.connection)))
    (Some (filled_kept window place content c old.clean (only_if (not (ends_any place c old.connection)) old.connection) old))

abbrev pub filled_by : ℕ → Place → RetainedTopics → Client → Option (ConnectionName × Bool) → Option ClientSession → Option ClientSession
filled_by window place content c (Some opened) old = Some (filled_connected window place content c opened old)
filled_by window place content c None old = filled_later window place content c old

abbrev pub filled_after : ℕ → Place → RetainedTopics → Client → Option ClientSession → Option ClientSession
filled_after window place content c old =
    filled_by window place content c (accepts place.command place.mark c) old
