-- What a client is sent for its session: at an acknowledgement, when the session is resumed, and
-- for a publication.
use Rattle.std.specs.Prelude.{ℕ, Bool, true, false, List, [], ◌∷◌, ◌++◌, Option, Some, None}
use Rattle.packet_base.specs.declared.qos.QoS.{QoS}
use Rattle.packet.specs.declared.packet.Packet.{Packet}
use Rattle.packet.specs.declared.packet.Packet.TheVariants as packets
use Rattle.session_base.specs.declared.publication.Publication.{Publication}
use Rattle.packet_base.specs.QoS.{lower_qos}
use Rattle.session_base.specs.Session.{SessionState}
use Rattle.session_base.specs.Queue.{on_puback, on_pubrec, on_pubcomp}
use Rattle.session_base.specs.EntryPackets.{fill_sends, pubrec_sends, resend}
use Rattle.broker_base.specs.ClientSession.{ClientSession}

-- whether a packet is PUBACK, PUBREC, PUBREL or PUBCOMP
abbrev pub is_handshake : Packet → Bool
is_handshake (packets.Puback id) = true
is_handshake (packets.Pubrec id) = true
is_handshake (packets.Pubrel id) = true
is_handshake (packets.Pubcomp id) = true
is_handshake _ = false

-- what the sender of such a packet is sent
abbrev pub handshake_sends : ℕ → Packet → SessionState → List Packet
handshake_sends window (packets.Puback id) session =
    fill_sends window (on_puback id session.queue.in_flight) session.queue.waiting
handshake_sends window (packets.Pubrec id) session =
    pubrec_sends id (on_pubrec id session.queue.in_flight)
handshake_sends window (packets.Pubrel id) session = packets.Pubcomp id ∷ []
handshake_sends window (packets.Pubcomp id) session =
    fill_sends window (on_pubcomp id session.queue.in_flight) session.queue.waiting
handshake_sends window _ session = []

-- what a client whose session is resumed is sent (MQTT 4.4)
abbrev pub sent_to_resumed : ℕ → Option ClientSession → List Packet
sent_to_resumed window (Some kept) =
    resend kept.state.queue.in_flight
    ++ fill_sends window kept.state.queue.in_flight kept.state.queue.waiting
sent_to_resumed window None = []

-- the copy of a publication for a client that is granted it at this QoS (MQTT 3.3.1.3, 3.3.5)
abbrev pub lowered : Publication → QoS → Publication
lowered publication qos =
    record {
      retain = false;
      qos = lower_qos publication.qos qos;
      topic = publication.topic;
      payload = publication.payload;
    }
