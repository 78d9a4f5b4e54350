-- What `src/theorems.rt` proves.
use Rattle.std.specs.Prelude.{◌≡◌, ℕ, List}
use Rattle.script.specs.Fields.{Text}
use Rattle.script.specs.Lines.{IsLine}
use Rattle.script.specs.Scripts.{IsScript, Refuses}
use Rattle.script.specs.declared.error.ScriptFault.TheVariants as errors
use Rattle.script.specs.declared.script_line.ScriptLine.{ScriptLine}
use Rattle.script.specs.declared.script_reader.Script.{Script}

-- a line has one meaning at most
abbrev pub OneMeaningALine : Type 0
OneMeaningALine = (fields : List Text) (line other : ScriptLine) → IsLine fields line
    → IsLine fields other → line ≡ other

-- no line of a script is malformed
abbrev pub NoScriptIsRefused : Type 0
NoScriptIsRefused = (lines : List Text) (script : Script) (number : ℕ) → IsScript lines script
    → Refuses lines (errors.Line number) → ⊥
