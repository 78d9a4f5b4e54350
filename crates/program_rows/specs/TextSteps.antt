-- Steps of a row that writes a text, and asks what it is.
use Rattle.std.specs.Prelude.{◌≡◌, ℕ, List, [], ◌∷◌, ◌++◌, codes, Some}
use Rattle.rows.specs.Fields.{Text, number_of}
use Rattle.rows.specs.Playing.{Answers, Agrees}
use Rattle.rows.specs.declared.line.Line.{Line}
use Rattle.program_rows.specs.AnswerFields.{Is}
use Rattle.program_rows.specs.TableSteps.{TableAnswer, nodes_text}
use Rattle.program_rows.specs.ScriptSteps.{FirstFaults, ReadAnswers, amid, first}
use Rattle.program_rows.specs.declared.text_steps.Written.{Written}

-- fields, one after another
abbrev pub joined : List Text → Text
joined [] = []
joined (field ∷ fields) = field ++ joined fields

-- a question about the text that is written
pub data Asked : Text → List Text → Answers → Type 0 where
  -- `table`
  table : {text word : Text} {answer : List Text} → Is word (codes "table")
      → TableAnswer text answer → Asked text (word ∷ []) (answer ∷ [])
  -- `read`
  read : {text : Text} {word : Text} {answers : Answers} → Is word (codes "read") → ReadAnswers text answers
      → Asked text (word ∷ []) answers
  -- `amid "tick"`
  amid_others : {text word : Text} {fields answer : List Text} → Is word (codes "amid")
      → FirstFaults (amid (joined fields)) answer → Asked text (word ∷ fields) (answer ∷ [])
  -- `first "world"`
  as_first : {text word : Text} {fields answer : List Text} → Is word (codes "first")
      → FirstFaults (first (joined fields)) answer → Asked text (word ∷ fields) (answer ∷ [])

-- the only field is this number
abbrev pub IsCount : List Text → ℕ → Type 0
IsCount [] count = ⊥
IsCount (digits ∷ []) count = number_of digits ≡ Some count
IsCount (digits ∷ other ∷ others) count = ⊥

-- a step, and the text after it
pub data Writes : Text → List Text → Answers → Text → Type 0 where
  -- `line "tick 1"`: its fields and a line feed, 10, are written
  line : {old new word : Text} {fields : List Text} {answers : Answers} → Is word (codes "line")
      → new ≡ (old ++ joined fields) ++ 10 ∷ [] → answers ≡ []
      → Writes old (word ∷ fields) answers new
  -- `part "tick 1"`: its fields
  part : {old new word : Text} {fields : List Text} {answers : Answers} → Is word (codes "part")
      → new ≡ old ++ joined fields → answers ≡ [] → Writes old (word ∷ fields) answers new
  -- `nodes 3`: the nodes of a table
  nodes : {old new word : Text} {fields : List Text} {answers : Answers} (count : ℕ)
      → Is word (codes "nodes") → IsCount fields count → new ≡ old ++ nodes_text count
      → answers ≡ [] → Writes old (word ∷ fields) answers new
  -- a question
  asks : {old new : Text} {step : List Text} {answers : Answers} → Asked old step answers
      → new ≡ old → Writes old step answers new

-- a step of a row
abbrev pub StepDoes : Written → List Text → Answers → Written → Type 0
StepDoes old step answers new = Writes old.text.items step answers new.text.items

-- the steps agree, where nothing is written before
abbrev pub TextAgrees : List Line → Type 0
TextAgrees steps = (fresh : Written) × (fresh.text.items ≡ []) × Agrees StepDoes fresh steps
