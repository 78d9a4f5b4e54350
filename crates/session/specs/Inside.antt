-- What private functions ensure: one start in a queue, the release of an entry, filters.
use Rattle.std.specs.Prelude.{◌≡◌, ℕ, ◌==◌, false, Option, Some, None, List, [], ◌∷◌, ◌++◌}
use Rattle.std.specs.Map.{lookup, set_value}
use Rattle.packet_base.specs.declared.qos.QoS.{QoS}
use Rattle.packet.specs.declared.packet.Packet.{Packet}
use Rattle.packet.specs.declared.packet.Packet.TheVariants as packets
use Rattle.session_base.specs.declared.publication.Publication.{Publication}
use Rattle.session_base.specs.declared.awaits.Awaits.TheVariants as waits_for
use Rattle.session_base.specs.Publication.{publish_for}
use Rattle.packet_base.specs.QoS.{greater_qos}
use Rattle.session_base.specs.Queue.{Flight, Queue, started_flight}
use Rattle.session_base.specs.Form.{IsWritable}

-- the queue after the first waiting publication started
abbrev pub started_with : List Flight → List Publication → Queue
started_with flights (publication ∷ waiting) =
    record { in_flight = flights ++ started_flight flights publication ∷ []; waiting = waiting }
started_with flights [] = record { in_flight = flights; waiting = [] }

-- the packet that the first waiting publication is sent with
abbrev pub sends_with : List Flight → List Publication → List Packet
sends_with flights (publication ∷ waiting) =
    packets.Publish (publish_for false (started_flight flights publication).0 publication) ∷ []
sends_with flights [] = []

-- the entry with this identifier waits for PUBREC
abbrev pub IsAwaited : ℕ → List Flight → Type 0
IsAwaited id flights =
    (publication : Publication)
    × (lookup (λ other. id == other) flights ≡ Some (waits_for.Pubrec publication))

-- the entry with this identifier is released and keeps its index
abbrev pub with_released : ℕ → List Flight → List Flight
with_released id flights = set_value (λ other. id == other) flights waits_for.Pubcomp

-- the greater of two QoS, either of which may be missing
abbrev pub greater_of : Option QoS → Option QoS → Option QoS
greater_of (Some qos) other = Some (greater_qos qos other)
greater_of None other = other

-- an entry whose publication, if it has one, can be written
abbrev pub AreWritable : Flight → Type 0
AreWritable flight = IsWritable flight.1
