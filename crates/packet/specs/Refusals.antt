-- The numbers of the refusals, as in the table of refusals.
use Rattle.std.specs.Prelude.{ℕ, Option, Some, None}
use Rattle.topics.specs.Refusals.{malformed_number}
use Rattle.packet.specs.declared.error.DecodeFault.{DecodeFault}
use Rattle.packet.specs.declared.error.DecodeFault.TheVariants as faults
use Rattle.packet.specs.declared.error.EncodeFault.{EncodeFault}
use Rattle.packet.specs.declared.error.EncodeFault.TheVariants as encode_faults

-- the number of the malformed kind; a refused CONNECT has none
abbrev pub decode_number : DecodeFault → Option ℕ
decode_number (faults.Malformed kind) = Some (malformed_number kind)
decode_number (faults.Refused code) = None

-- the number of a packet that cannot be encoded
abbrev pub encode_number : EncodeFault → ℕ
encode_number encode_faults.TooLarge = 4
encode_number encode_faults.Memory = 12
