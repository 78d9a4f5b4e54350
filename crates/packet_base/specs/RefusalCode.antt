-- The Connect Return Codes that refuse (MQTT 3.2.2.3).
use Rattle.std.specs.Prelude.{ℕ}
use Rattle.packet_base.specs.declared.refusal_code.RefusalCode.{RefusalCode}
use Rattle.packet_base.specs.declared.refusal_code.RefusalCode.TheVariants as codes

-- the code in the CONNACK that refuses a CONNECT (MQTT 3.2.2.3, table 3.1)
abbrev pub code_number : RefusalCode → ℕ
code_number codes.ProtocolVersion = 1
code_number codes.IdentifierRejected = 2
code_number codes.ServerUnavailable = 3
code_number codes.BadUserNameOrPassword = 4
code_number codes.NotAuthorized = 5
