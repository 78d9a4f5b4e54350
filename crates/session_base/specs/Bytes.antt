-- The bytes to which a session is frozen. Numbers are big-endian; a text comes after its length in
-- two bytes.
use Rattle.std.specs.Prelude.{ℕ, ◌<◌, ◌^◌, List, [], ◌∷◌, ◌++◌, length}
use Rattle.std.specs.Int.{w32, to_be_bytes}
use Rattle.packet_base.specs.Spelling.{number, text, bit}
use Rattle.packet_base.specs.QoS.{qos_number}
use Rattle.session_base.specs.declared.publication.Publication.{Publication}
use Rattle.session_base.specs.declared.awaits.Awaits.{Awaits}
use Rattle.session_base.specs.declared.awaits.Awaits.TheVariants as waits_for
use Rattle.session_base.specs.Subscriptions.{GrantedSubscription}
use Rattle.session_base.specs.Queue.{Flight}
use Rattle.session_base.specs.Session.{SessionState}
use Rattle.session_base.specs.Counted.{counted_bytes}

-- a number of four bytes
abbrev pub long_number : ℕ → List ℕ
long_number value = to_be_bytes w32 value

-- a number below 256 as its byte
abbrev pub one_byte : ℕ → List ℕ
one_byte value = value ∷ []

-- RETAIN, QoS, topic, payload with its length
abbrev pub publication_bytes : Publication → List ℕ
publication_bytes publication =
    bit publication.retain ∷ qos_number publication.qos
    ∷ (text publication.topic ++ (long_number (length publication.payload) ++ publication.payload))

-- a filter with its QoS
abbrev pub granted_subscription_bytes : GrantedSubscription → List ℕ
granted_subscription_bytes granted = text granted.0 ++ one_byte (qos_number granted.1)

-- the acknowledgement that an entry waits for (0 PUBACK, 1 PUBREC, 2 PUBCOMP), and its publication
-- if it still has one
abbrev pub awaits_bytes : Awaits → List ℕ
awaits_bytes (waits_for.Puback publication) = 0 ∷ publication_bytes publication
awaits_bytes (waits_for.Pubrec publication) = 1 ∷ publication_bytes publication
awaits_bytes waits_for.Pubcomp = 2 ∷ []

-- an entry in flight: its identifier, and the acknowledgement that it waits for
abbrev pub flight_bytes : Flight → List ℕ
flight_bytes flight = number flight.0 ++ awaits_bytes flight.1

-- subscriptions in the order of the first grant, received identifiers, entries in flight, waiting
-- publications
abbrev pub state_bytes : SessionState → List ℕ
state_bytes session =
    counted_bytes one_byte granted_subscription_bytes session.subscriptions
    ++ (counted_bytes number number session.received
    ++ (counted_bytes number flight_bytes session.queue.in_flight
    ++ counted_bytes number publication_bytes session.queue.waiting))

-- ---- what can be written

-- the payload's length fits four bytes
abbrev pub HasLength : Publication → Type 0
HasLength publication = length publication.payload < 2 ^ 32

-- the payload of an entry's publication, if it has one, has a length that fits four bytes
abbrev pub IsWritable : Awaits → Type 0
IsWritable (waits_for.Puback publication) = HasLength publication
IsWritable (waits_for.Pubrec publication) = HasLength publication
IsWritable waits_for.Pubcomp = Unit {0}
