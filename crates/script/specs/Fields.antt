-- The fields of a line, and the value that each kind of field denotes. Texts are bytes.
use Rattle.std.specs.Prelude.{ℕ, Bool, true, false, ◌&&◌, ◌^◌, ◌==◌, nat_lt, if◌then◌else◌, List, [], ◌∷◌, length, codes, bytes_eq, Option, Some, None, option_map, map}
use Rattle.std.specs.Borrow.{Bor}
use Rattle.std.specs.List.{slice_split}
use Rattle.std.specs.Result.{result_ok}
use Rattle.std.specs.Str.{all_ascii_digits}
use Rattle.std.specs.Str.Parse.{digits_value}
use Rattle.hex.specs.Hex.{decode_of}
use Rattle.topics.specs.declared.malformed.MalformedKind.{MalformedKind}
use Rattle.topics.specs.Text.{filter_fault, topic_fault}
use Rattle.packet_base.specs.ClientId.{client_fault}
use Rattle.packet_base.specs.declared.qos.QoS.{QoS}
use Rattle.packet_base.specs.declared.qos.QoS.TheVariants as qos_levels
use Rattle.script.specs.declared.script_line.Amount.{Amount}
use Rattle.script.specs.declared.script_line.Amount.TheVariants as amounts

-- a text by its bytes
abbrev pub Text : Type 0
Text = List ℕ

-- the texts after references
abbrev pub texts : List (Bor Text) → List Text
texts borrowed = map (λ text. text.now) borrowed

-- the parts between spaces, 32
unfoldable pub fields_of : Text → List Text
fields_of line = slice_split (λ byte. byte == 32) line

-- the parts between commas, 44
unfoldable pub parts_of : Text → List Text
parts_of field = slice_split (λ byte. byte == 44) field

-- one decimal digit or more
abbrev pub is_decimal : Text → Bool
is_decimal text = nat_lt 0 (length text) && all_ascii_digits text

-- a decimal number of 64 bits; zeros may be in front
unfoldable pub parse_number : Text → Option ℕ
parse_number text = if is_decimal text && nat_lt (digits_value 10 text) (2 ^ 64)
    then Some (digits_value 10 text) else None

-- the QoS of a number, 0 to 2
abbrev pub qos_of_number : Option ℕ → Option QoS
qos_of_number None = None
qos_of_number (Some number) =
    if number == 0 then Some qos_levels.AtMostOnce else
    if number == 1 then Some qos_levels.AtLeastOnce else
    if number == 2 then Some qos_levels.ExactlyOnce else None

-- a QoS is written as its number (MQTT 4.3)
unfoldable pub parse_qos : Text → Option QoS
parse_qos text = qos_of_number (parse_number text)

-- the bit of a number, if it is 0 or 1
abbrev pub bit_of : Option ℕ → Option Bool
bit_of None = None
bit_of (Some number) =
    if number == 0 then Some false else if number == 1 then Some true else None

-- RETAIN is written as its bit (MQTT 3.3.1.3)
unfoldable pub parse_retain : Text → Option Bool
parse_retain text = bit_of (parse_number text)

-- an amount: `all`, or a number
unfoldable pub parse_amount : Text → Option Amount
parse_amount text =
    if bytes_eq text (codes "all") then Some amounts.All else
    option_map amounts.Bytes (parse_number text)

-- a payload: `-` if it is empty, or two hexadecimal digits for each byte
unfoldable pub parse_payload : Text → Option Text
parse_payload text =
    if bytes_eq text (codes "-") then Some [] else
    if nat_lt 0 (length text) then result_ok (decode_of text) else None

-- the text, if it has no fault
abbrev pub unless : Option MalformedKind → Text → Option Text
unless None text = Some text
unless (Some fault) text = None

-- a Client Identifier is written as it is
unfoldable pub parse_client : Text → Option Text
parse_client text = unless (client_fault text) text

-- a Topic Name is written as it is
unfoldable pub parse_topic : Text → Option Text
parse_topic text = unless (topic_fault text) text

-- a Topic Filter is written as it is
unfoldable pub parse_filter : Text → Option Text
parse_filter text = unless (filter_fault text) text

-- the first value followed by the others, if there are both
abbrev pub with_first_value : {X : Type 0} → Option X → Option (List X) → Option (List X)
with_first_value (Some first) (Some others) = Some (first ∷ others)
with_first_value (Some first) None = None
with_first_value None others = None

-- the values of all texts, if each has one
abbrev pub all_of : {X : Type 0} → (Text → Option X) → List Text → Option (List X)
all_of reads [] = Some []
all_of reads (text ∷ texts) = with_first_value (reads text) (all_of reads texts)

-- numbers are written with commas between them
unfoldable pub parse_numbers : Text → Option (List ℕ)
parse_numbers field = all_of parse_number (parts_of field)

-- Client Identifiers are written with commas between them
unfoldable pub parse_clients : Text → Option (List Text)
parse_clients field = all_of parse_client (parts_of field)
