-- Texts between the quotes of a JSON string (RFC 8259, section 7).
use Rattle.std.specs.Prelude.{ℕ, ◌/◌, ◌%◌, List, [], ◌∷◌, ◌++◌, ◌||◌, ◌==◌, if◌then◌else◌, codes, encode_utf8_all}
use Rattle.std.specs.Char.{digit_char, is_control}
use Rattle.std.specs.List.{flat_map}
use Rattle.std.specs.Str.{chars}

-- the hexadecimal digit of a number below 16: `0` to `9`, `a` to `f`
abbrev pub hex_digit : ℕ → ℕ
hex_digit number = digit_char number

-- the characters that stand for a character: a backslash before a quote and a backslash, `\u` and
-- four digits for a control character, U+0000 to U+001F and U+007F to U+009F, any other as it is
abbrev pub escaped_char : ℕ → List ℕ
escaped_char c = if c == 34 || c == 92 then 92 ∷ c ∷ []
    else (if is_control c then 92 ∷ 117 ∷ 48 ∷ 48 ∷ hex_digit (c / 16) ∷ hex_digit (c % 16) ∷ []
    else c ∷ [])

-- the same for each character of a text
abbrev pub escaped_chars : List ℕ → List ℕ
escaped_chars text = flat_map escaped_char (chars text)

-- their bytes
abbrev pub escaped : List ℕ → List ℕ
escaped text = encode_utf8_all (escaped_chars text)

-- the text in quotes
abbrev pub quoted : List ℕ → List ℕ
quoted text = codes "\"" ++ escaped text ++ codes "\""
