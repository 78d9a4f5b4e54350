-- Parts of answers.
use Rattle.std.specs.Prelude.{ℕ, Bool, List, [], ◌∷◌, codes, if◌then◌else◌}
use Rattle.std.specs.Fmt.{decimal}
use Rattle.rows.specs.Fields.{Text}
use Rattle.rows.specs.Playing.{Answers}
use Rattle.rows.specs.Answers.{word}

-- a word and a number
abbrev pub number_fields : Text → ℕ → List Text
number_fields word number = word ∷ decimal number ∷ []

-- `lost`, if it is so
abbrev pub lost_answers : Bool → Answers
lost_answers is_lost = if is_lost then word (codes "lost") ∷ [] else []
