-- When a row agrees.
use Rattle.std.specs.Prelude.{◌≡◌, ◌&&◌, ℕ, suc, take, drop, Bool, true, false, if◌then◌else◌, List, [], ◌∷◌, codes, bytes_eq}
use Rattle.rows.specs.Fields.{Text, are_same}
use Rattle.rows.specs.declared.line.Line.{Line}

-- the answers of a step, each as its fields
abbrev pub Answers : Type 0
Answers = List (List Text)

-- `=` is in front
abbrev pub begins_answer : List Text → Bool
begins_answer [] = false
begins_answer (field ∷ fields) = bytes_eq field (codes "=")

-- a line is an answer
abbrev pub is_answer : Line → Bool
is_answer line = begins_answer line.fields

-- `=`, and then these fields
abbrev pub answers_with : List Text → List Text → Bool
answers_with [] answer = false
answers_with (field ∷ fields) answer = bytes_eq field (codes "=") && are_same answer fields

-- a line is `=` and then the answer
abbrev pub is_answered_by : Line → List Text → Bool
is_answered_by line answer = answers_with line.fields answer

-- the lines are the answers, one for one
abbrev pub are_answers : Answers → List Line → Bool
are_answers [] [] = true
are_answers [] (line ∷ lines) = false
are_answers (answer ∷ answers) [] = false
are_answers (answer ∷ answers) (line ∷ lines) =
    is_answered_by line answer && are_answers answers lines

-- both are the same answers
abbrev pub are_equal : Answers → Answers → Bool
are_equal [] [] = true
are_equal [] (other ∷ others) = false
are_equal (answer ∷ answers) [] = false
are_equal (answer ∷ answers) (other ∷ others) = are_same answer other && are_equal answers others

-- how many answers are at the front of lines
abbrev pub answers_len : List Line → ℕ
answers_len [] = 0
answers_len (line ∷ lines) = if is_answer line then suc (answers_len lines) else 0

-- the answers at the front of lines
abbrev pub answers_at : List Line → List Line
answers_at lines = take (answers_len lines) lines

-- the lines after those
abbrev pub after_answers : List Line → List Line
after_answers lines = drop (answers_len lines) lines

-- Each of the steps of these lines, done one after another, gets the answers that stand after it.
-- `Does` says what a step does and which answers it gets.
pub data Agrees {S : Type 0} (Does : S → List Text → Answers → S → Type 0) :
    S → List Line → Type 0 where
  -- no step is left
  ends : (now : S) → Agrees Does now []
  -- a step, its answers, and the steps after it
  steps : (now next : S) (line : Line) (lines : List Line) (answers : Answers)
      → Does now line.fields answers next → are_answers answers (answers_at lines) ≡ true
      → Agrees Does next (after_answers lines) → Agrees Does now (line ∷ lines)
