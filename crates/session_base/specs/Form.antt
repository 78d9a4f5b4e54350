-- How the parts of a session are read from bytes: numbers, publications, filters, and entries in
-- flight. They are the same in both forms of a frozen broker.
use Rattle.std.specs.Prelude.{ℕ, ◌+◌, Bool, not, ◌==◌, nat_lt, nat_le, if◌then◌else◌, List}
use Rattle.std.specs.Prelude.{length, Result, Ok}
use Rattle.std.specs.Int.{w32, from_be_bytes}
use Rattle.packet_base.specs.declared.stop.Stop.{Stop}
use Rattle.packet_base.specs.Readers.{◌>>=◌, ◌>>◌, byte_at, front_at, id_at}
use Rattle.packet_base.specs.TopicFields.{topic_at, filter_at}
use Rattle.packet_base.specs.QoS.{qos_of}
use Rattle.packet_base.specs.declared.qos.QoS.{QoS}
use Rattle.packet.specs.Spelling.{max_body}
use Rattle.session_base.specs.declared.publication.Publication.{Publication}
use Rattle.session_base.specs.declared.awaits.Awaits.{Awaits}
use Rattle.session_base.specs.declared.awaits.Awaits.TheVariants as waits_for
use Rattle.session_base.specs.Publication.{is_answered, is_qos1}
use Rattle.session_base.specs.Subscriptions.{GrantedSubscription}
use Rattle.session_base.specs.Queue.{Flight}
use Rattle.session_base.specs.Counted.{check_form}
pub use Rattle.session_base.specs.Bytes.{long_number, one_byte, publication_bytes, granted_subscription_bytes}
pub use Rattle.session_base.specs.Bytes.{awaits_bytes, flight_bytes, state_bytes, HasLength, IsWritable}
pub use Rattle.session_base.specs.Follows.{is_new_filter, is_above_last, is_above, was_released}
pub use Rattle.session_base.specs.Follows.{may_follow, anything}

-- a byte that is 0 or 1
unfoldable pub flag_at : List ℕ → Result (Bool × List ℕ) Stop
flag_at bytes = do
  byte ← byte_at bytes
  check_form (nat_lt byte.0 2)
  Ok (byte.0 == 1, byte.1)

-- a number of four bytes
unfoldable pub long_number_at : List ℕ → Result (ℕ × List ℕ) Stop
long_number_at bytes = do
  front ← front_at 4 bytes
  Ok (from_be_bytes w32 front.0, front.1)

-- a QoS in one byte
unfoldable pub qos_at : List ℕ → Result (QoS × List ℕ) Stop
qos_at bytes = do
  byte ← byte_at bytes
  qos ← qos_of byte.0
  Ok (qos, byte.1)

-- the length in bytes of the body of the PUBLISH that carries the publication: topic after its
-- length, identifier, payload
abbrev pub body_length : Publication → ℕ
body_length publication =
    2 + length publication.topic + (if is_answered publication.qos then 2 else 0)
    + length publication.payload

-- a publication whose PUBLISH is within the size limit
abbrev pub sized : Publication → Result Publication Stop
sized publication = do
  check_form (nat_le (body_length publication) max_body)
  Ok publication

-- a publication: RETAIN, QoS, topic, and the payload with its length before it
unfoldable pub publication_at : List ℕ → Result (Publication × List ℕ) Stop
publication_at bytes = do
  retain ← flag_at bytes
  qos ← qos_at retain.1
  topic ← topic_at qos.1
  len ← long_number_at topic.1
  payload ← front_at len.0 len.1
  publication ← sized
      (record { retain = retain.0; qos = qos.0; topic = topic.0; payload = payload.0 })
  Ok (publication, payload.1)

-- a filter with its QoS
unfoldable pub granted_subscription_at : List ℕ → Result (GrantedSubscription × List ℕ) Stop
granted_subscription_at bytes = do
  filter ← filter_at bytes
  qos ← qos_at filter.1
  Ok ((filter.0, qos.0), qos.1)

-- a waiting publication: QoS 1 or 2
unfoldable pub waiting_at : List ℕ → Result (Publication × List ℕ) Stop
waiting_at bytes = do
  publication ← publication_at bytes
  check_form (is_answered publication.0.qos)
  Ok publication

-- a sent entry: QoS 1 if it waits for PUBACK, QoS 2 if for PUBREC
unfoldable pub sent_at : Bool → List ℕ → Result (Awaits × List ℕ) Stop
sent_at acknowledged bytes = do
  sent ← waiting_at bytes
  check_form (if acknowledged then is_qos1 sent.0.qos else not (is_qos1 sent.0.qos))
  Ok (if acknowledged then waits_for.Puback sent.0 else waits_for.Pubrec sent.0, sent.1)

-- the acknowledgement that an entry waits for, a byte of 0 to 2
unfoldable pub awaits_at : List ℕ → Result (Awaits × List ℕ) Stop
awaits_at bytes = do
  state ← byte_at bytes
  check_form (nat_lt state.0 3)
  if state.0 == 2 then Ok (waits_for.Pubcomp, state.1) else sent_at (state.0 == 0) state.1

-- an entry in flight: its identifier, and the acknowledgement that it waits for
unfoldable pub flight_at : List ℕ → Result (Flight × List ℕ) Stop
flight_at bytes = do
  id ← id_at bytes
  awaits ← awaits_at id.1
  Ok ((id.0, awaits.0), awaits.1)
