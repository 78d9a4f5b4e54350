-- How numbers, texts and lengths are spelled (MQTT 1.5, 2.2.3).
use Rattle.std.specs.Prelude.{
  ◌≡◌,
  ℕ,
  zero,
  suc,
  ◌+◌,
  ◌*◌,
  ◌/◌,
  ◌%◌,
  ◌^◌,
  ◌<◌,
  ◌≤◌,
  Bool,
  true,
  false,
  nat_lt,
  if◌then◌else◌,
  List,
  [],
  ◌∷◌,
  ◌++◌,
  length,
}
use Rattle.std.specs.Int.{w16, to_be_bytes}

-- two bytes, the high one first (MQTT 1.5.2)
abbrev pub number : ℕ → List ℕ
number value = to_be_bytes w16 value

-- the length in two bytes, then the bytes (MQTT 1.5.3)
abbrev pub text : List ℕ → List ℕ
text bytes = number (length bytes) ++ bytes

-- Seven bits in each byte, the low ones first, and 128 more if another byte follows (MQTT 2.2.3).
-- The last byte of several is not 0, so each number has one form.
abbrev pub IsLength : List ℕ → ℕ → Type 0
IsLength [] value = ⊥
IsLength (byte ∷ []) value = (byte < 128) × (value ≡ byte)
IsLength (byte ∷ next ∷ bytes) value =
    (128 ≤ byte) × (byte < 256) × (high : ℕ) × (0 < high) × (value + 128 ≡ byte + 128 * high)
    × IsLength (next ∷ bytes) high

-- the bytes of a length, at most this many after the first
abbrev pub length_digits : ℕ → ℕ → List ℕ
length_digits zero value = value ∷ []
length_digits (suc more) value =
    if nat_lt value 128 then value ∷ [] else (value % 128 + 128) ∷ length_digits more (value / 128)

-- the bytes of a length below 2 ^ 28 (MQTT 2.2.3)
abbrev pub remaining_length : ℕ → List ℕ
remaining_length value = length_digits 3 value

-- how many bytes the length takes, for lengths below 2 ^ 28 (MQTT 2.2.3, table 2.4)
abbrev pub length_bytes : ℕ → ℕ
length_bytes value =
    if nat_lt value 128 then 1 else
    if nat_lt value 16384 then 2 else
    if nat_lt value 2097152 then 3 else 4

-- new is old with the bytes of a length appended
abbrev pub AppendsLength : List ℕ → List ℕ → ℕ → Type 0
AppendsLength old new value = (bytes : List ℕ) × IsLength bytes value × (new ≡ old ++ bytes)

-- a flag as a bit
abbrev pub bit : Bool → ℕ
bit true = 1
bit false = 0

-- what a Packet Identifier may be (MQTT 2.3.1)
abbrev pub IsId : ℕ → Type 0
IsId id = (0 < id) × (id < 2 ^ 16)
