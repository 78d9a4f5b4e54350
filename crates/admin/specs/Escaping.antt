-- What stands between the quotes of a JSON string (RFC 8259, section 7).
use Rattle.std.specs.Prelude.{◌≡◌, ℕ, ◌≤◌, List, ◌∷◌, ◌++◌, All, Some}
use Rattle.json.specs.Print.{escape}
use Rattle.json.specs.Text.{content, plain}

-- Between quotes the escaped text is a JSON string that stands for the text: no quote and no
-- backslash of the text ends or changes it.
abbrev pub EscapedReadsBack : Type 0
EscapedReadsBack = (text rest : List ℕ) → content plain (escape text ++ 34 ∷ rest) ≡ Some text

-- No byte of an escaped text is below U+0020.
abbrev pub HasNoControl : Type 0
HasNoControl = (text : List ℕ) → All (λ byte. 32 ≤ byte) (escape text)
