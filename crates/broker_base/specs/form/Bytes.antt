-- The bytes to which a broker is frozen: form 2, and the earlier form 1. Numbers are big-endian; a
-- text comes after its length in two bytes.
use Rattle.std.specs.Prelude.{ℕ, List, [], ◌∷◌, ◌++◌, length, Option, Some, None}
use Rattle.std.specs.Int.{w64, to_be_bytes}
use Rattle.packet_base.specs.Spelling.{number, text, bit}
use Rattle.packet_base.specs.QoS.{qos_number}
use Rattle.retained.specs.declared.retained_publication.RetainedPublication.{RetainedPublication}
use Rattle.session_base.specs.Counted.{counted_bytes}
use Rattle.session_base.specs.Form.{long_number, state_bytes}
use Rattle.broker_spec.specs.Connection.{ConnectionName}
use Rattle.broker_spec.specs.Place.{Client}
use Rattle.broker_base.specs.ClientSession.{ClientSession}
use Rattle.broker_base.specs.State.{State}

-- a number of eight bytes
abbrev pub wide_number : ℕ → List ℕ
wide_number value = to_be_bytes w64 value

-- whether there is a current connection, and its name
abbrev pub connection_bytes : Option ConnectionName → List ℕ
connection_bytes None = 0 ∷ []
connection_bytes (Some connection) =
    1 ∷ (wide_number connection.ballot ++ wide_number connection.count)

-- the bytes of a client with its session: CleanSession, connection, state
abbrev pub row_bytes : Client × ClientSession → List ℕ
row_bytes row =
    text row.0 ++ (bit row.1.clean ∷ (connection_bytes row.1.connection ++ state_bytes row.1.state))

-- the bytes of a topic with its retained publication
abbrev pub retained_bytes : List ℕ × RetainedPublication → List ℕ
retained_bytes row =
    qos_number row.1.qos ∷ (text row.0 ++ (long_number (length row.1.payload) ++ row.1.payload))

-- the sessions by the bytes of their clients, the retained publications by topic
abbrev pub content_bytes : State → List ℕ
content_bytes state =
    counted_bytes number row_bytes state.sessions
    ++ counted_bytes number retained_bytes state.retained

-- form 2: its number, the window in one byte, and the content
abbrev pub frozen : State → List ℕ
frozen state = 2 ∷ state.window ∷ content_bytes state

-- form 1: its number and the content, of a broker whose window is 16
abbrev pub frozen_before : State → List ℕ
frozen_before state = 1 ∷ content_bytes state
