-- The answers to a command in a state (MQTT 3.1.4, 3.2, 3.3.4, 3.8.4, 4.3, 4.4).
use Rattle.std.specs.Prelude.{ℕ, Bool, not, ◌||◌, if◌then◌else◌, List, [], ◌∷◌, ◌++◌, map, flat_map}
use Rattle.std.specs.Prelude.{Option, Some, None, option_map}
use Rattle.packet.specs.declared.packet.Packet.{Packet}
use Rattle.packet.specs.declared.packet.Packet.TheVariants as packets
use Rattle.retained.specs.Retained.{RetainedTopics}
use Rattle.session_base.specs.Queue.{on_puback, on_pubrec, on_pubcomp}
use Rattle.session_base.specs.EntryPackets.{fill_sends, resend, pubrec_sends, copies_sent}
use Rattle.broker_spec.specs.Connection.{ConnectionName}
use Rattle.broker_spec.specs.Place.{Client, Mark, Place}
use Rattle.broker_spec.specs.Sessions.{begins_session}
use Rattle.broker_spec.specs.Answers.{close_outputs, welcome, turned_away, acknowledged, codes_of}
use Rattle.broker_base.specs.ClientSession.{ClientSession}
use Rattle.broker_base.specs.SessionStep.{copies_with}
use Rattle.broker_base.specs.State.{State, session_in}
use Rattle.broker_spec.specs.declared.command.Command.{Command}
use Rattle.broker_spec.specs.declared.command.Command.TheVariants as commands
use Rattle.broker_spec.specs.declared.command.Output.{Output}
use Rattle.broker_spec.specs.declared.command.Output.TheVariants.{Send, Close}

-- packets to a client, if it is connected
abbrev pub sent_on : Option ConnectionName → List Packet → List Output
sent_on (Some connection) packets = map (Send connection) packets
sent_on None packets = []

-- what a session's client is sent for the copies that a place makes for it
abbrev pub copies_answered : ℕ → Place → RetainedTopics → Client × ClientSession → List Output
copies_answered window place content row =
    sent_on row.1.connection
    (copies_sent window (copies_with place.command place.mark content row.0
    row.1.state.subscriptions) row.1.state.queue)

-- what a client is sent for the copies that a place makes for its session, if it has one
abbrev pub copies_to : ℕ → Place → RetainedTopics → Client → Option ClientSession → List Output
copies_to window place content client (Some kept) =
    copies_answered window place content (client, kept)
copies_to window place content client None = []

-- packets of a session, if its client is connected
abbrev pub while_connected : Option ConnectionName → List Packet → List Packet
while_connected (Some connection) packets = packets
while_connected None packets = []

-- what a packet makes a session send: PUBREL after PUBREC, what starts after PUBACK and PUBCOMP
abbrev pub handled_sends : ℕ → Packet → ClientSession → List Packet
handled_sends window (packets.Puback id) kept =
    while_connected kept.connection
    (fill_sends window (on_puback id kept.state.queue.in_flight) kept.state.queue.waiting)
handled_sends window (packets.Pubcomp id) kept =
    while_connected kept.connection
    (fill_sends window (on_pubcomp id kept.state.queue.in_flight) kept.state.queue.waiting)
handled_sends window (packets.Pubrec id) kept =
    pubrec_sends id (on_pubrec id kept.state.queue.in_flight)
handled_sends window _ kept = []

-- what a client's packet makes its session send, if it has one
abbrev pub handled_of : ℕ → Packet → Option ClientSession → List Packet
handled_of window packet (Some kept) = handled_sends window packet kept
handled_of window packet None = []

-- the answers to a packet that is neither PUBLISH nor SUBSCRIBE and does not end its connection
abbrev pub handled_in : ℕ → ConnectionName → Option ClientSession → Packet → List Output
handled_in window connection old (packets.Unsubscribe unsubscribe) =
    Send connection (packets.Unsuback unsubscribe.id) ∷ []
handled_in window connection old (packets.Pubrel id) = Send connection (packets.Pubcomp id) ∷ []
handled_in window connection old packets.Pingreq = Send connection packets.Pingresp ∷ []
handled_in window connection old packet = map (Send connection) (handled_of window packet old)

-- the answers to a packet, by its mark
abbrev pub packet_answers_in : ℕ → Place → State → ConnectionName → Packet → Mark → List Output
packet_answers_in window place state connection (packets.Publish publish) (Mark.Taken client) =
    acknowledged connection publish.delivery
    ++ flat_map (copies_answered window place state.retained) state.sessions
packet_answers_in window place state connection (packets.Publish publish) (Mark.Repeat client) =
    acknowledged connection publish.delivery
packet_answers_in window place state connection (packets.Subscribe subscribe)
    (Mark.Granted client which) =
    Send connection
    (packets.Suback (record { id = subscribe.id; codes = codes_of subscribe.filters which }))
    ∷ copies_to window place state.retained client (session_in client state.sessions)
packet_answers_in window place state connection packet (Mark.Handled client) =
    handled_in window connection (session_in client state.sessions) packet
packet_answers_in window place state connection packet (Mark.Leaves client) = Close connection ∷ []
packet_answers_in window place state connection packet (Mark.Refused client) = Close connection ∷ []
packet_answers_in window place state connection packet _ = []

-- the connection of a session, if there is one
abbrev pub connection_of : Option ClientSession → Option ConnectionName
connection_of (Some kept) = kept.connection
connection_of None = None

-- what a reconnecting client is sent if its session is resumed: retransmissions, what starts
abbrev pub resumed : ℕ → Bool → Option ClientSession → List Packet
resumed window clean (Some kept) =
    if clean || kept.clean then []
    else resend kept.state.queue.in_flight
    ++ fill_sends window kept.state.queue.in_flight kept.state.queue.waiting
resumed window clean None = []

-- the answers to a Connect, by its mark
abbrev pub connect_answers_in : ℕ → ConnectionName → Bool → Option ClientSession → Mark →
    List Output
connect_answers_in window connection clean old Mark.Accepted =
    close_outputs (connection_of old) ++ welcome connection (not (begins_session clean
    (option_map (λ (kept : ClientSession). kept.clean) old)))
    ∷ map (Send connection) (resumed window clean old)
connect_answers_in window connection clean old Mark.Full =
    turned_away connection ∷ Close connection ∷ []
connect_answers_in window connection clean old _ = Close connection ∷ []

-- the answers at a place, with this window from then on
abbrev pub answers_by_state : ℕ → Place → State → Command → Mark → List Output
answers_by_state window place state (commands.Packet connection packet) mark =
    packet_answers_in window place state connection packet mark
answers_by_state window place state (commands.Connect connection client clean) mark =
    connect_answers_in window connection clean (session_in client state.sessions) mark
answers_by_state window place state (commands.Lost connection) mark = []
answers_by_state window place state (commands.Start ballot) mark = []
answers_by_state window place state (commands.Expel client) mark =
    close_outputs (connection_of (session_in client state.sessions))
