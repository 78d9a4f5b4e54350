-- CONNECT without Will, user name and password (MQTT 3.1).
use Rattle.std.specs.Prelude.{ℕ, ◌*◌, ◌%◌, ◌^◌, ◌<◌, nat_lt, nat_eq, ◌==◌, Bool, IsTrue, List, [], ◌∷◌}
use Rattle.std.specs.Prelude.{◌++◌, drop, codes, Result, Ok}
use Rattle.std.specs.List.{starts_with}
use Rattle.topics.specs.declared.malformed.MalformedKind.TheVariants as kinds
use Rattle.packet_base.specs.declared.refusal_code.RefusalCode.TheVariants as codes_of_refusal
use Rattle.packet_base.specs.declared.stop.Stop.{Stop}
use Rattle.packet_base.specs.declared.stop.Stop.TheVariants as stops
use Rattle.packet_base.specs.Spelling.{number, text, bit}
use Rattle.packet_base.specs.Readers.{◌>>=◌, ◌>>◌, check, byte_at, number_at, text_at, ended}
use Rattle.packet_base.specs.ClientId.{has_client_length, is_client}
use Rattle.packet.specs.declared.connect.Connect.{Connect}

-- the protocol's name, with which each CONNECT begins (MQTT 3.1.2.1)
abbrev pub protocol : List ℕ
protocol = text (codes "MQTT")

-- name, level 4, connect flags, keep alive, client
abbrev pub connect_body : Connect → List ℕ
connect_body connect =
    protocol ++ (4 ∷ 2 * bit connect.clean ∷ []) ++ number connect.keep_alive
    ++ text connect.client

-- each field is in its range
abbrev pub FitsConnect : Connect → Type 0
FitsConnect connect = (connect.keep_alive < 2 ^ 16) × IsTrue (is_client connect.client)

-- CleanSession of connect flags, or their first fault: bit 0, then bits 2 to 7 (MQTT 3.1.2.3)
abbrev pub clean_of : ℕ → Result Bool Stop
clean_of flags = do
  check (flags % 2 == 0) (stops.Malformed kinds.Protocol)
  check (nat_lt flags 4) (stops.Refused codes_of_refusal.NotAuthorized)
  Ok (flags == 2)

-- a body, or its first fault
unfoldable pub connect_of : List ℕ → Result Connect Stop
connect_of body = do
  check (starts_with nat_eq body protocol) (stops.Malformed kinds.Protocol)
  level ← byte_at (drop 6 body)
  flags ← byte_at level.1
  check (level.0 == 4) (stops.Refused codes_of_refusal.ProtocolVersion)
  clean ← clean_of flags.0
  keep_alive ← number_at flags.1
  client ← text_at keep_alive.1
  ended client.1
  check (has_client_length client.0) (stops.Refused codes_of_refusal.IdentifierRejected)
  Ok (record { client = client.0; clean = clean; keep_alive = keep_alive.0 })
