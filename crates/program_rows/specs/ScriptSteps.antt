-- What the text of a script is read as, and which of its lines is malformed.
use Rattle.std.specs.Prelude.{◌≡◌, ℕ, List, [], ◌∷◌, ◌++◌, codes}
use Rattle.std.specs.Fmt.{decimal}
use Rattle.rows.specs.Fields.{Text}
use Rattle.rows.specs.Playing.{Answers}
use Rattle.script.specs.Scripts.{IsScript, Refuses, lines_of}
use Rattle.script.specs.declared.error.ScriptFault.TheVariants as faults
use Rattle.script.specs.declared.script_reader.Script.{Script}
use Rattle.program_rows.specs.AnswerFields.{counted}
use Rattle.program_rows.specs.ScriptFields.{script_answers}

-- a text, and what it is read as
pub data ReadAnswers : Text → Answers → Type 0 where
  -- a script
  read : {text : Text} {answers : Answers} (script : Script) → IsScript (lines_of text) script
      → answers ≡ script_answers script → ReadAnswers text answers
  -- no script: the number of its first malformed line
  refused : {text : Text} {answers : Answers} (number : ℕ)
      → Refuses (lines_of text) (faults.Line number)
      → answers ≡ counted (codes "refused") number ∷ [] → ReadAnswers text answers

-- the number of the first malformed line of a text; 0 if it is a script
pub data FirstFault : Text → ℕ → Type 0 where
  -- a script
  none : {text : Text} {number : ℕ} (script : Script) → IsScript (lines_of text) script
      → number ≡ 0 → FirstFault text number
  -- no script
  malformed : {text : Text} {number : ℕ} → Refuses (lines_of text) (faults.Line number)
      → FirstFault text number

-- lines with line feeds, 10, between them
abbrev pub text_of : List Text → Text
text_of [] = []
text_of (line ∷ []) = line
text_of (line ∷ other ∷ lines) = line ++ 10 ∷ text_of (other ∷ lines)

-- a first line, a line after it, and one that no script has
abbrev pub world_line : Text
world_line = codes "world 2 1,2 1 a,b"

abbrev pub tick_line : Text
tick_line = codes "tick 1"

abbrev pub bad_line : Text
bad_line = codes "nothing"

-- the first malformed line of each of these texts
pub data FirstFaults : List (List Text) → List Text → Type 0 where
  -- no text
  none : FirstFaults [] []
  -- a text, and those after it
  more : {lines : List Text} {others : List (List Text)} {numbers : List Text} (number : ℕ)
      → FirstFault (text_of lines) number → FirstFaults others numbers
      → FirstFaults (lines ∷ others) (decimal number ∷ numbers)

-- the line as second, third and fourth line of a script, before one that no script has
abbrev pub amid : Text → List (List Text)
amid line = (world_line ∷ line ∷ bad_line ∷ [] ∷ [])
    ∷ (world_line ∷ tick_line ∷ line ∷ bad_line ∷ [] ∷ [])
    ∷ (world_line ∷ tick_line ∷ tick_line ∷ line ∷ bad_line ∷ [] ∷ []) ∷ []

-- the line as first line: alone, with its line feed, before a line, and before one that no script
-- has
abbrev pub first : Text → List (List Text)
first line = (line ∷ []) ∷ (line ∷ [] ∷ []) ∷ (line ∷ tick_line ∷ [] ∷ [])
    ∷ (line ∷ bad_line ∷ [] ∷ []) ∷ []
