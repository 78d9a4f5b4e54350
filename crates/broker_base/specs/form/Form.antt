-- Reading a broker from its bytes, form 1 or 2 (`Bytes.antt`).
use Rattle.std.specs.Prelude.{ℕ, not, ◌&&◌, ◌||◌, ◌==◌, Bool, nat_lt, nat_le, if◌then◌else◌, List}
use Rattle.std.specs.Prelude.{length, Option, Some, None, is_some, Result, Ok, Err}
use Rattle.std.specs.Int.{w64, from_be_bytes}
use Rattle.packet_base.specs.declared.stop.Stop.{Stop}
use Rattle.packet_base.specs.Readers.{◌>>=◌, ◌>>◌, byte_at, front_at, number_at, text_at, ended}
use Rattle.packet_base.specs.TopicFields.{topic_at}
use Rattle.packet_base.specs.ClientId.{is_client}
use Rattle.packet.specs.Spelling.{max_body}
use Rattle.retained.specs.declared.retained_publication.RetainedPublication.{RetainedPublication}
use Rattle.retained.specs.Retained.{max_topics}
use Rattle.session_base.specs.Counted.{check_form, counted_items_at}
use Rattle.session_base.specs.Form.{long_number_at, flag_at, qos_at, body_length}
use Rattle.session_base.specs.SessionForm.{state_at}
use Rattle.broker_spec.specs.Connection.{ConnectionName, is_connection_name}
use Rattle.broker_spec.specs.Place.{Client}
use Rattle.broker_spec.specs.Commands.{max_sessions}
use Rattle.broker_spec.specs.Window.{is_window_size, narrow_window}
use Rattle.broker_base.specs.ClientSession.{ClientSession}
use Rattle.broker_base.specs.State.{State}
use Rattle.broker_base.specs.form.InRange.{as_publication}
use Rattle.broker_base.specs.form.Follows.{row_follows, topic_follows}

-- a number of eight bytes
unfoldable pub wide_number_at : List ℕ → Result (ℕ × List ℕ) Stop
wide_number_at bytes = do
  front ← front_at 8 bytes
  Ok (from_be_bytes w64 front.0, front.1)

-- the ballot and the count of a connection, in their ranges
unfoldable pub name_at : List ℕ → Result (Option ConnectionName × List ℕ) Stop
name_at bytes = do
  ballot ← wide_number_at bytes
  count ← wide_number_at ballot.1
  check_form (is_connection_name (record { ballot = ballot.0; count = count.0 }))
  Ok (Some (record { ballot = ballot.0; count = count.0 }), count.1)

-- whether there is a current connection, and its name
unfoldable pub connection_at : List ℕ → Result (Option ConnectionName × List ℕ) Stop
connection_at bytes =
    flag_at bytes >>= (λ flag. if flag.0 then name_at flag.1 else Ok (None, flag.1))

-- a Client Identifier in the range of this broker
unfoldable pub client_at : List ℕ → Result (Client × List ℕ) Stop
client_at bytes = do
  client ← text_at bytes
  check_form (is_client client.0)
  Ok client

-- a clean session has a connection; no more of a session is in flight than this window
unfoldable pub row_at : ℕ → List ℕ → Result ((Client × ClientSession) × List ℕ) Stop
row_at window bytes = do
  client ← client_at bytes
  clean ← flag_at client.1
  connection ← connection_at clean.1
  check_form (not clean.0 || is_some connection.0)
  state ← state_at window connection.1
  Ok ((client.0, record { clean = clean.0; connection = connection.0; state = state.0 }), state.1)

-- a retained publication has a payload, and its PUBLISH is within the limit
abbrev pub is_retainable : List ℕ × RetainedPublication → Bool
is_retainable row =
    nat_lt 0 (length row.1.payload) && nat_le (body_length (as_publication row)) max_body

-- any other publication stops the reading
abbrev pub retainable : List ℕ × RetainedPublication → Result (List ℕ × RetainedPublication) Stop
retainable row = do
  check_form (is_retainable row)
  Ok row

-- a topic with its retained publication
unfoldable pub retained_at : List ℕ → Result ((List ℕ × RetainedPublication) × List ℕ) Stop
retained_at bytes = do
  qos ← qos_at bytes
  topic ← topic_at qos.1
  len ← long_number_at topic.1
  payload ← front_at len.0 len.1
  row ← retainable (topic.0, record { qos = qos.0; payload = payload.0 })
  Ok (row, payload.1)

-- ---- the broker

-- form 2 names its window, 16 or 64
unfoldable pub size_at : List ℕ → Result (ℕ × List ℕ) Stop
size_at bytes = do
  size ← byte_at bytes
  check_form (is_window_size size.0)
  Ok size

-- the number of the form, and the window: the narrow one in form 1
unfoldable pub head_at : List ℕ → Result (ℕ × List ℕ) Stop
head_at bytes = do
  form ← byte_at bytes
  check_form ((form.0 == 1) || (form.0 == 2))
  if form.0 == 1 then Ok (narrow_window, form.1) else size_at form.1

-- at most `max_sessions` sessions and `max_topics` topics, and nothing after them
abbrev pub content_at : ℕ → List ℕ → Result State Stop
content_at window bytes = do
  sessions ← counted_items_at number_at row_follows (row_at window) max_sessions bytes
  retained ← counted_items_at number_at topic_follows retained_at max_topics sessions.1
  ended retained.1
  Ok (record { window = window; sessions = sessions.0; retained = retained.0 })

-- the head, then the content
unfoldable pub broker_at : List ℕ → Result State Stop
broker_at bytes = do
  head ← head_at bytes
  content_at head.0 head.1

-- the value that was read, if the reading did not stop
abbrev pub found : {A : Type 0} → Result A Stop → Option A
found (Ok value) = Some value
found (Err stop) = None

-- the broker that is thawed from bytes, if any
abbrev pub thawed : List ℕ → Option State
thawed bytes = found (broker_at bytes)
