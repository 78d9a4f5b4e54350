-- How a publication is printed on one line.
use Rattle.std.specs.Prelude.{ℕ, Bool, not, List, [], ◌∷◌, ◌++◌, ◌+◌, ◌/◌, ◌%◌, ◌==◌, ◌&&◌, nat_le, nat_lt, if◌then◌else◌}
use Rattle.std.specs.List.{flat_map}
use Rattle.packet_base.specs.QoS.{qos_number}
use Rattle.client_base.specs.declared.accepted.Accepted.{Accepted}

-- whether a byte is printed as it is: 0x21 to 0x7E, but not the backslash
abbrev pub is_plain : ℕ → Bool
is_plain byte = nat_le 33 byte && (nat_le byte 126 && not (byte == 92))

-- the hexadecimal digit of a number below 16: `0` to `9`, `a` to `f`
abbrev pub digit : ℕ → ℕ
digit value = if nat_lt value 10 then 48 + value else 87 + value

-- how a byte is printed: as it is, or as `\x` and its two digits
abbrev pub printed_byte : ℕ → List ℕ
printed_byte byte = if is_plain byte then byte ∷ []
    else 92 ∷ 120 ∷ digit (byte / 16) ∷ digit (byte % 16) ∷ []

-- a text, byte by byte
abbrev pub printed : List ℕ → List ℕ
printed text = flat_map printed_byte text

-- RETAIN as a digit: `1` or `0`
abbrev pub flag : Bool → ℕ
flag retain = if retain then 49 else 48

-- the line of a publication: QoS, RETAIN, topic and payload, as `2 0 house/lamp on`
abbrev pub printed_line : Accepted → List ℕ
printed_line accepted = (48 + qos_number accepted.qos) ∷ 32 ∷ flag accepted.retain ∷ 32
    ∷ (printed accepted.topic ++ 32 ∷ (printed accepted.payload ++ 10 ∷ []))
