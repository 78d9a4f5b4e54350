-- The fields of a line. Texts are bytes.
use Rattle.std.specs.Prelude.{◌≡◌, ◌==◌, ◌&&◌, ◌++◌, ◌^◌, ◌-◌, take, ℕ, zero, suc, Bool, true, false, nat_lt, if◌then◌else◌, List, [], ◌∷◌, length, bytes_eq, slice_index, Option, Some, None, map}
use Rattle.std.specs.Borrow.{Bor}
use Rattle.std.specs.List.{slice_split}
use Rattle.std.specs.Result.{result_ok}
use Rattle.std.specs.Str.{all_ascii_digits}
use Rattle.std.specs.Str.Parse.{digits_value}
use Rattle.hex.specs.Hex.{decode_of}

-- a text by its bytes
abbrev pub Text : Type 0
Text = List ℕ

-- the texts after references
abbrev pub texts : List (Bor Text) → List Text
texts borrowed = map (λ text. text.now) borrowed

-- one decimal digit or more
abbrev pub is_decimal : Text → Bool
is_decimal text = nat_lt 0 (length text) && all_ascii_digits text

-- a decimal number of 64 bits; zeros may be in front
unfoldable pub number_of : Text → Option ℕ
number_of text = if is_decimal text && nat_lt (digits_value 10 text) (2 ^ 64)
    then Some (digits_value 10 text) else None

-- the parts between spaces, 32
unfoldable pub parts_of : Text → List Text
parts_of text = slice_split (λ byte. byte == 32) text

-- those that are not empty
abbrev pub words_of : List Text → List Text
words_of [] = []
words_of ([] ∷ parts) = words_of parts
words_of ((byte ∷ bytes) ∷ parts) = (byte ∷ bytes) ∷ words_of parts

-- bytes this many times
abbrev pub repeated : ℕ → List ℕ → List ℕ
repeated zero bytes = []
repeated (suc count) bytes = repeated count bytes ++ bytes

-- the bytes this many times, if there are both
abbrev pub repeat : Option ℕ → Option (List ℕ) → Option (List ℕ)
repeat (Some count) (Some bytes) = Some (repeated count bytes)
repeat (Some count) None = None
repeat None bytes = None

-- pairs of hexadecimal digits; after a `*` how many times
abbrev pub group_of : List Text → Option (List ℕ)
group_of [] = None
group_of (digits ∷ []) = result_ok (decode_of digits)
group_of (digits ∷ count ∷ []) = repeat (number_of count) (result_ok (decode_of digits))
group_of (digits ∷ count ∷ other ∷ others) = None

-- the parts of a group between its stars, 42
unfoldable pub group_parts : Text → List Text
group_parts text = slice_split (λ byte. byte == 42) text

-- both, one after the other, if there are both
abbrev pub both : {X : Type 0} → Option (List X) → Option (List X) → Option (List X)
both (Some first) (Some others) = Some (first ++ others)
both (Some first) None = None
both None others = None

-- new is old and then these, if there are some
abbrev pub Appends : {X : Type 0} → List X → List X → Option (List X) → Type 0
Appends old new (Some more) = new ≡ old ++ more
Appends old new None = ⊥

-- the bytes of all groups
abbrev pub groups_of : List Text → Option (List ℕ)
groups_of [] = Some []
groups_of (group ∷ groups) = both (group_of (group_parts group)) (groups_of groups)

-- bytes in hexadecimal: `30 05`, `2B2F*31 2B`
abbrev pub bytes_of : Text → Option (List ℕ)
bytes_of text = groups_of (parts_of text)

-- the parts of a line between its quotes, 34
unfoldable pub quote_parts : Text → List Text
quote_parts line = slice_split (λ byte. byte == 34) line

-- whether an `x`, 120, stands at the end
abbrev pub is_marked : Text → Bool
is_marked text = slice_index text (length text - 1) == 120

-- the words of a text, then this field, if it is there
abbrev pub words_then : Text → Option Text → Option (List Text)
words_then text (Some field) = Some (words_of (parts_of text) ++ field ∷ [])
words_then text None = None

-- The words before a quote, and the field in it: bytes in hexadecimal, if an `x` stands right
-- before the quote, and else a text.
abbrev pub quoted_fields : Text → Text → Option (List Text)
quoted_fields plain quoted =
    if is_marked plain
    then words_then (take (length plain - 1) plain) (bytes_of quoted)
    else words_then plain (Some quoted)

-- the fields of the parts of a line between its quotes: the second, fourth, .. are in quotes
abbrev pub fields_in : List Text → Option (List Text)
fields_in [] = None
fields_in (plain ∷ []) = Some (words_of (parts_of plain))
fields_in (plain ∷ quoted ∷ parts) = both (quoted_fields plain quoted) (fields_in parts)

-- the fields of a line
abbrev pub fields_of : Text → Option (List Text)
fields_of line = fields_in (quote_parts line)

-- whether both have the same fields in the same order
abbrev pub are_same : List Text → List Text → Bool
are_same [] [] = true
are_same [] (other ∷ others) = false
are_same (field ∷ fields) [] = false
are_same (field ∷ fields) (other ∷ others) = bytes_eq field other && are_same fields others
