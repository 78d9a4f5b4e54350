-- A Packet Identifier and nothing else: PUBACK, PUBREC, PUBREL, PUBCOMP and UNSUBACK
-- (MQTT 3.4 to 3.7, 3.11).
use Rattle.std.specs.Prelude.{ℕ, List, Result, Ok}
use Rattle.packet_base.specs.declared.stop.Stop.{Stop}
use Rattle.packet_base.specs.Readers.{◌>>=◌, ◌>>◌, id_at, ended}

-- a body, or its first fault
unfoldable pub id_alone_of : List ℕ → Result ℕ Stop
id_alone_of body = do
  id ← id_at body
  ended id.1
  Ok id.0
