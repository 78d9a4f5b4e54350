-- The lines of a rows file, and its rows.
use Rattle.std.specs.Prelude.{◌≡◌, ◌==◌, ℕ, suc, Bool, true, false, not, if◌then◌else◌, List, [], ◌∷◌, take, drop, Option, Some, None}
use Rattle.std.specs.List.{slice_split}
use Rattle.rows.specs.Fields.{Text, both, fields_of}
use Rattle.rows.specs.declared.line.Line.{Line}

-- the parts between line feeds, 10
unfoldable pub texts_of : Text → List Text
texts_of text = slice_split (λ byte. byte == 10) text

-- no field, or a `#`, 35, in front of all
abbrev pub is_remark : Text → Bool
is_remark [] = true
is_remark (byte ∷ bytes) = if byte == 32 then is_remark bytes else byte == 35

-- a space in front
abbrev pub is_step : Text → Bool
is_step [] = false
is_step (byte ∷ bytes) = byte == 32

-- the line of these fields, if there are some
abbrev pub line_with : ℕ → Bool → Option (List Text) → Option (List Line)
line_with number step (Some fields) =
    Some (record { number = number; is_step = step; fields = fields } ∷ [])
line_with number step None = None

-- the line of a text, if it is no remark
abbrev pub lines_of : ℕ → Text → Option (List Line)
lines_of number text =
    if is_remark text then Some [] else line_with number (is_step text) (fields_of text)

-- the lines of texts, of which the first has this number
abbrev pub lines_from : ℕ → List Text → Option (List Line)
lines_from number [] = Some []
lines_from number (text ∷ texts) = both (lines_of number text) (lines_from (suc number) texts)

-- the first line begins a row
abbrev pub begins_row : List Line → Bool
begins_row [] = true
begins_row (line ∷ lines) = not line.is_step

-- the text is these lines
abbrev pub AreLinesOf : Text → List Line → Type 0
AreLinesOf text lines = (lines_from 1 (texts_of text) ≡ Some lines) × (begins_row lines ≡ true)

-- how many steps and answers are at the front
abbrev pub steps_len : List Line → ℕ
steps_len [] = 0
steps_len (line ∷ lines) = if line.is_step then suc (steps_len lines) else 0

-- how many lines the row at the front has: its first line, and the steps and answers after it
abbrev pub row_len : List Line → ℕ
row_len [] = 0
row_len (first ∷ lines) = suc (steps_len lines)

-- each row of the lines holds
pub data AllRows (Holds : List Line → Type 0) : List Line → Type 0 where
  -- no row is left
  none : AllRows Holds []
  -- a row, and those after it
  row : {lines : List Line} → Holds (take (row_len lines) lines)
      → AllRows Holds (drop (row_len lines) lines) → AllRows Holds lines
