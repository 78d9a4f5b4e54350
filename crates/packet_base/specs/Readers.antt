-- Reading from left to right, up to the first fault.
use Rattle.std.specs.Prelude.{ℕ, ◌+◌, ◌-◌, ◌*◌, ◌<◌, nat_lt, ◌==◌, Bool, true, false, not, ◌&&◌}
use Rattle.std.specs.Prelude.{if◌then◌else◌, List, [], ◌∷◌, length, get_or, take, drop, Result, Ok, Err}
use Rattle.std.specs.Int.{w16, from_be_bytes}
use Rattle.std.specs.Str.{is_utf8}
use Rattle.topics.specs.Text.{contains_byte}
use Rattle.topics.specs.declared.malformed.MalformedKind.{MalformedKind}
use Rattle.topics.specs.declared.malformed.MalformedKind.TheVariants as kinds
use Rattle.packet_base.specs.declared.stop.Stop.{Stop}
use Rattle.packet_base.specs.declared.stop.Stop.TheVariants as stops

infixl 10 ◌>>=◌
-- one step and then the next, unless the first stops
abbrev pub ◌>>=◌ : {A B : Type 0} → Result A Stop → (A → Result B Stop) → Result B Stop
(Ok read) >>= next = next read
(Err stop) >>= next = Err stop

infixl 10 ◌>>◌
-- one step without a value and then the next, unless the first stops
abbrev pub ◌>>◌ : {A B : Type 0} → Result A Stop → Result B Stop → Result B Stop
(Ok read) >> next = next
(Err stop) >> next = Err stop

-- continues if the test is true, and stops for this reason otherwise
abbrev pub check : Bool → Stop → Result (Unit {0}) Stop
check true stop = Ok tt
check false stop = Err stop

-- stops at malformed bytes
abbrev pub malformed : {A : Type 0} → MalformedKind → Result A Stop
malformed kind = Err (stops.Malformed kind)

-- each number is a byte
abbrev pub AreBytes : List ℕ → Type 0
AreBytes bytes = (index : ℕ) → get_or bytes index 0 < 256

-- the next byte, and the bytes after it
abbrev pub byte_at : List ℕ → Result (ℕ × List ℕ) Stop
byte_at [] = malformed kinds.Shape
byte_at (byte ∷ rest) = Ok (byte, rest)

-- the next `n` bytes, and the bytes after them
abbrev pub front_at : ℕ → List ℕ → Result (List ℕ × List ℕ) Stop
front_at len bytes =
    if nat_lt (length bytes) len then malformed kinds.Shape else Ok (take len bytes, drop len bytes)

-- a number of two bytes (MQTT 1.5.2)
unfoldable pub number_at : List ℕ → Result (ℕ × List ℕ) Stop
number_at bytes = do
  front ← front_at 2 bytes
  Ok (from_be_bytes w16 front.0, front.1)

-- a Packet Identifier, which is not zero (MQTT 2.3.1)
unfoldable pub id_at : List ℕ → Result (ℕ × List ℕ) Stop
id_at bytes = do
  id ← number_at bytes
  check (nat_lt 0 id.0) (stops.Malformed kinds.Identifier)
  Ok id

-- well-formed UTF-8 without U+0000 (MQTT 1.5.3)
abbrev pub is_text : List ℕ → Bool
is_text bytes = is_utf8 bytes && not (contains_byte 0 bytes)

-- bytes as a text
abbrev pub text_of : List ℕ → Result (List ℕ) Stop
text_of bytes = do
  check (is_text bytes) (stops.Malformed kinds.Text)
  Ok bytes

-- a text with its length before it (MQTT 1.5.3)
unfoldable pub text_at : List ℕ → Result (List ℕ × List ℕ) Stop
text_at bytes = do
  len ← number_at bytes
  front ← front_at len.0 len.1
  text ← text_of front.0
  Ok (text, front.1)

-- `Shape` if bytes are left over
abbrev pub ended : List ℕ → Result (Unit {0}) Stop
ended [] = Ok tt
ended (byte ∷ bytes) = malformed kinds.Shape

-- A Remaining Length; this many bytes may follow the next one (MQTT 2.2.3).
unfoldable pub length_at : ℕ → List ℕ → Result (ℕ × List ℕ) Stop
length_at follow [] = Err stops.More
length_at follow (byte ∷ rest) =
    if nat_lt byte 128 then Ok (byte, rest) else
    if follow == 0 then malformed kinds.Length else
    length_at (follow - 1) rest >>= (λ high.
    check (nat_lt 0 high.0) (stops.Malformed kinds.Length)
    >> Ok (byte - 128 + 128 * high.0, high.1))
