-- Fields that several kinds of rows have.
use Rattle.std.specs.Prelude.{◌≡◌, ℕ, Bool, true, List, [], ◌∷◌, bytes_eq}
use Rattle.std.specs.List.{flat_map}
use Rattle.std.specs.Fmt.{decimal}
use Rattle.rows.specs.Fields.{Text}
use Rattle.packet_base.specs.Spelling.{bit}

-- a field is this word
abbrev pub Is : Text → Text → Type 0
Is field word = bytes_eq field word ≡ true

-- an answer of a word
abbrev pub word : Text → List Text
word text = text ∷ []

-- a word and a number
abbrev pub number_fields : Text → ℕ → List Text
number_fields word number = word ∷ decimal number ∷ []

-- an answer of a word and a number
abbrev pub counted : Text → ℕ → List Text
counted text number = number_fields text number

-- a word and a flag, 0 or 1
abbrev pub flag_fields : Text → Bool → List Text
flag_fields word flag = number_fields word (bit flag)

-- a word before each number
abbrev pub numbers_fields : Text → List ℕ → List Text
numbers_fields word numbers = flat_map (λ number. number_fields word number) numbers
