-- The step of a packet that leaves its client's connection open: one session is written, and only
-- its client is answered (MQTT 3.8.4, 3.10.4, 3.12.4, 4.3, 4.6).
use Rattle.std.specs.Prelude.{◌≡◌, ℕ, Bool, List, ◌∷◌, map, Some}
use Rattle.packet.specs.declared.subscribe.Subscription.{Subscription}
use Rattle.packet.specs.declared.subscribe.Subscribe.{Subscribe}
use Rattle.packet.specs.declared.packet.Packet.{Packet}
use Rattle.packet.specs.declared.packet.Packet.TheVariants as packets
use Rattle.retained.specs.Retained.{RetainedTopics}
use Rattle.session_base.specs.Identifiers.{without_id}
use Rattle.session_base.specs.Session.{SessionState, with_granted, with_received, with_queue, with_flights}
use Rattle.session_base.specs.Subscriptions.{with_subscriptions, without_filters}
use Rattle.session_base.specs.Queue.{room, on_puback, on_pubrec, on_pubcomp, filled}
use Rattle.session_base.specs.Copies.{copies_left}
use Rattle.session_base.specs.EntryPackets.{copies_sent}
use Rattle.broker_spec.specs.Connection.{ConnectionName}
use Rattle.broker_spec.specs.Place.{Client, Mark, Limits}
use Rattle.broker_spec.specs.Subscriptions.{as_granted, granted_of}
use Rattle.broker_spec.specs.Entries.{copies_for_all}
use Rattle.broker_spec.specs.Marks.{grants}
use Rattle.broker_spec.specs.Answers.{codes_of}
use Rattle.broker_base.specs.ClientSession.{ClientSession}
use Rattle.broker_base.specs.State.{State}
use Rattle.broker_base.specs.Decisions.{owned_mark}
use Rattle.broker_base.specs.StepAnswers.{handled_in}
use Rattle.broker_base.specs.Step.{step}
use Rattle.broker_spec.specs.declared.command.Command.TheVariants as commands
use Rattle.broker_spec.specs.declared.command.Output.TheVariants.{Send}
use Rattle.broker_base.specs.rows.Served.{ServesClient, with_session, with_content}

-- ---- the packets that are handled

-- What a packet does to its sender's session, with this window: PUBACK and PUBCOMP finish an entry,
-- and what may start then starts; PUBREC releases one; PUBREL removes an identifier that was
-- received; UNSUBSCRIBE removes filters.
abbrev pub handled_state : ℕ → Packet → SessionState → SessionState
handled_state window (packets.Puback id) session =
    with_queue (filled window (with_flights (on_puback id session.queue.in_flight) session.queue))
    session
handled_state window (packets.Pubrec id) session =
    with_queue (with_flights (on_pubrec id session.queue.in_flight) session.queue) session
handled_state window (packets.Pubcomp id) session =
    with_queue (filled window (with_flights (on_pubcomp id session.queue.in_flight) session.queue))
    session
handled_state window (packets.Pubrel id) session =
    with_received (without_id id session.received) session
handled_state window (packets.Unsubscribe unsubscribe) session =
    with_granted (without_filters unsubscribe.filters session.subscriptions) session
handled_state window _ session = session

-- such a packet writes that to its sender's session, and only its sender is answered
abbrev pub HandledStep : Type 0
HandledStep =
    (limits : Limits) → (later : ℕ) → (state : State) → (connection : ConnectionName) →
    (client : Client) → (kept : ClientSession) →
    ServesClient state connection client kept → (packet : Packet) →
    owned_mark limits state (client, kept) packet ≡ Mark.Handled client →
    step limits later state (commands.Packet connection packet)
    ≡ (
      with_session client (Some (with_content (handled_state state.window packet kept.state) kept))
          state,
      handled_in state.window connection (Some kept) packet,
    )

-- ---- SUBSCRIBE

-- a session that is granted these filters: each is set, and the copies of the matching retained
-- publications are added (MQTT 3.8.4)
abbrev pub subscribed_to : ℕ → RetainedTopics → List Subscription → SessionState → SessionState
subscribed_to window content granted session =
    with_granted (with_subscriptions (map as_granted granted) session.subscriptions)
    (with_queue (copies_left window (copies_for_all content granted) session.queue) session)

-- the packets that answer a SUBSCRIBE if these of its filters are granted: SUBACK, then the copies
-- of the matching retained publications (MQTT 3.8.4)
abbrev pub subscribe_answers : ℕ → RetainedTopics → Subscribe → List Bool → SessionState →
    List Packet
subscribe_answers window content subscribe which session =
    packets.Suback (record { id = subscribe.id; codes = codes_of subscribe.filters which })
    ∷ copies_sent window (copies_for_all content (granted_of subscribe.filters which)) session.queue

-- SUBSCRIBE sets the granted filters, and its client is sent the matching retained publications
-- (MQTT 3.8.4)
abbrev pub SubscribeStep : Type 0
SubscribeStep =
    (limits : Limits) → (later : ℕ) → (state : State) → (connection : ConnectionName) →
    (client : Client) → (kept : ClientSession) → ServesClient state connection client kept →
    (subscribe : Subscribe) → (which : List Bool) →
    grants limits state.retained kept.state.subscriptions
    (room limits.entries kept.state.queue) subscribe.filters
    ≡ which →
    step limits later state (commands.Packet connection (packets.Subscribe subscribe))
    ≡ (
      with_session client
          (Some (with_content (subscribed_to state.window state.retained
          (granted_of subscribe.filters which) kept.state) kept))
          state,
      map (Send connection)
          (subscribe_answers state.window state.retained subscribe which kept.state),
    )
