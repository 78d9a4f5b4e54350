-- Answers that rows of any kind have, as their fields.
use Rattle.std.specs.Prelude.{ℕ, Bool, List, [], ◌∷◌, codes, if◌then◌else◌}
use Rattle.std.specs.Fmt.{decimal}
use Rattle.rows.specs.Fields.{Text}

-- an answer of a word
abbrev pub word : Text → List Text
word text = text ∷ []

-- an answer of a word and a number
abbrev pub counted : Text → ℕ → List Text
counted text number = text ∷ decimal number ∷ []

-- whether it is so
abbrev pub yes_or_no : Bool → List Text
yes_or_no is_so = word (if is_so then codes "yes" else codes "no")
