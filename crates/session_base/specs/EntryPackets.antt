-- The packets that a client is sent for its queue (MQTT 3.3.1.1, 4.3, 4.4).
use Rattle.std.specs.Prelude.{ℕ, true, false, nat_lt, if◌then◌else◌, List, [], ◌∷◌, ◌++◌}
use Rattle.std.specs.Prelude.{length, map}
use Rattle.packet.specs.declared.packet.Packet.{Packet}
use Rattle.packet.specs.declared.packet.Packet.TheVariants as packets
use Rattle.session_base.specs.declared.publication.Publication.{Publication}
use Rattle.session_base.specs.declared.awaits.Awaits.{Awaits}
use Rattle.session_base.specs.declared.awaits.Awaits.TheVariants as waits_for
use Rattle.session_base.specs.Publication.{publish_for, is_answered}
use Rattle.session_base.specs.Queue.{Flight, Queue, started_flight, awaits_pubcomp, enqueue, filled}
use Rattle.std.specs.List.{list_any}

-- what a fill sends: the PUBLISH of each publication that starts, with DUP 0 (MQTT 3.3.1.1)
abbrev pub fill_sends : ℕ → List Flight → List Publication → List Packet
fill_sends window in_flight (publication ∷ waiting) =
    if nat_lt (length in_flight) window
    then packets.Publish (publish_for false (started_flight in_flight publication).0 publication)
    ∷ fill_sends window (in_flight ++ started_flight in_flight publication ∷ []) waiting
    else []
fill_sends window in_flight [] = []

-- the retransmission of an entry to a reconnecting client: PUBREL for a released one, otherwise
-- PUBLISH with DUP 1 (MQTT 4.4)
abbrev pub sent_anew : ℕ → Awaits → Packet
sent_anew id (waits_for.Puback publication) = packets.Publish (publish_for true id publication)
sent_anew id (waits_for.Pubrec publication) = packets.Publish (publish_for true id publication)
sent_anew id waits_for.Pubcomp = packets.Pubrel id

-- the retransmissions to a reconnecting client, in the order of the entries in flight
abbrev pub resend : List Flight → List Packet
resend = map (λ flight. sent_anew flight.0 flight.1)

-- PUBREC is answered by PUBREL if it released an entry, or if the entry was released before (MQTT
-- 4.3.3)
abbrev pub pubrec_sends : ℕ → List Flight → List Packet
pubrec_sends id after =
    if list_any (λ flight. awaits_pubcomp id flight) after then packets.Pubrel id ∷ [] else []

-- What a connected client is sent for copies that are added one by one: each of QoS 0 at once, and
-- what starts after each other one was queued.
abbrev pub copies_sent : ℕ → List Publication → Queue → List Packet
copies_sent window (publication ∷ copies) queue =
    if is_answered publication.qos
    then fill_sends window queue.in_flight (enqueue publication queue).waiting
    ++ copies_sent window copies (filled window (enqueue publication queue))
    else packets.Publish (publish_for false 0 publication) ∷ copies_sent window copies queue
copies_sent window [] queue = []
