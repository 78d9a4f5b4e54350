-- CONNACK (MQTT 3.2).
use Rattle.std.specs.Prelude.{ℕ, true, false, ◌==◌, if◌then◌else◌, List, [], ◌∷◌, Result, Ok}
use Rattle.topics.specs.declared.malformed.MalformedKind.TheVariants as kinds
use Rattle.packet_base.specs.declared.refusal_code.RefusalCode.TheVariants as codes
use Rattle.packet_base.specs.declared.stop.Stop.{Stop}
use Rattle.packet_base.specs.RefusalCode.{code_number}
use Rattle.packet_base.specs.Spelling.{bit}
use Rattle.packet_base.specs.Readers.{◌>>=◌, ◌>>◌, malformed, byte_at, ended}
use Rattle.packet.specs.declared.connack.Connack.{Connack}
use Rattle.packet.specs.declared.connack.Connack.TheVariants as connacks

-- Session Present, which is 0 unless the code is 0, then the code (MQTT 3.2.2)
abbrev pub connack_body : Connack → List ℕ
connack_body (connacks.Accepted present) = bit present ∷ 0 ∷ []
connack_body (connacks.Refused code) = 0 ∷ code_number code ∷ []

-- the CONNACK with this code and no session present (MQTT 3.2.2.3, table 3.1)
abbrev pub coded : ℕ → Result Connack Stop
coded code =
    if code == 0 then Ok (connacks.Accepted false) else
    if code == 1 then Ok (connacks.Refused codes.ProtocolVersion) else
    if code == 2 then Ok (connacks.Refused codes.IdentifierRejected) else
    if code == 3 then Ok (connacks.Refused codes.ServerUnavailable) else
    if code == 4 then Ok (connacks.Refused codes.BadUserNameOrPassword) else
    if code == 5 then Ok (connacks.Refused codes.NotAuthorized) else
    malformed kinds.Shape

-- the CONNACK of these two bytes
abbrev pub answer_of : ℕ → ℕ → Result Connack Stop
answer_of present code =
    if present == 1 then (if code == 0 then Ok (connacks.Accepted true) else malformed kinds.Shape)
    else if present == 0 then coded code else malformed kinds.Shape

-- a body, or its first fault
unfoldable pub connack_of : List ℕ → Result Connack Stop
connack_of body = do
  present ← byte_at body
  code ← byte_at present.1
  connack_body ← answer_of present.0 code.0
  ended code.1
  Ok connack_body
