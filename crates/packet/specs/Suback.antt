-- SUBACK (MQTT 3.9).
use Rattle.std.specs.Prelude.{ℕ, ◌==◌, if◌then◌else◌, List, [], ◌∷◌, ◌++◌, Result, Ok}
use Rattle.std.specs.List.{flat_map}
use Rattle.packet_base.specs.declared.stop.Stop.{Stop}
use Rattle.packet_base.specs.Spelling.{number, IsId}
use Rattle.packet_base.specs.Readers.{◌>>=◌, byte_at, id_at}
use Rattle.packet_base.specs.Lists.{list_of}
use Rattle.packet.specs.declared.suback.SubackCode.{SubackCode}
use Rattle.packet.specs.declared.suback.SubackCode.TheVariants as return_codes
use Rattle.packet.specs.declared.suback.Suback.{Suback}
use Rattle.packet_base.specs.QoS.{qos_number, qos_of}

-- the return code: the granted QoS, or 0x80 for a failure (MQTT 3.9.3)
abbrev pub granted_number : SubackCode → ℕ
granted_number (return_codes.Granted qos) = qos_number qos
granted_number return_codes.Failure = 0x80

-- a return code as a byte
abbrev pub granted : SubackCode → List ℕ
granted code = granted_number code ∷ []

-- identifier, return codes
abbrev pub suback_body : Suback → List ℕ
suback_body suback = number suback.id ++ flat_map granted suback.codes

-- each field is in its range
abbrev pub FitsSuback : Suback → Type 0
FitsSuback suback = IsId suback.id

-- the return code of a byte
abbrev pub suback_code_of : ℕ → Result SubackCode Stop
suback_code_of byte =
    if byte == 0x80 then Ok return_codes.Failure else
    qos_of byte >>= (λ qos. Ok (return_codes.Granted qos))

-- a return code, and the bytes after it
unfoldable pub granted_at : List ℕ → Result (SubackCode × List ℕ) Stop
granted_at bytes = do
  byte ← byte_at bytes
  code ← suback_code_of byte.0
  Ok (code, byte.1)

-- a body, or its first fault
unfoldable pub suback_of : List ℕ → Result Suback Stop
suback_of body = do
  id ← id_at body
  codes ← list_of granted_at id.1
  Ok (record { id = id.0; codes = codes })
