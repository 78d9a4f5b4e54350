-- NotRefused.antt: a script has no line without its form.
use Rattle.std.proofs.Common.{ℕ, suc, zero, List, [], ◌∷◌, inl, inr}
use Rattle.script.specs.Fields.{Text}
use Rattle.script.specs.Scripts.{AreLines, IsFirstBad, IsScript, Refuses}
use Rattle.script.specs.declared.error.ScriptFault.TheVariants as errors
use Rattle.script.specs.declared.script_line.ScriptLine.{ScriptLine}
use Rattle.script.specs.declared.script_reader.Script.{Script}

none_is_bad : (lines : List Text) (script_lines : List ScriptLine) (index : ℕ) → AreLines lines script_lines → IsFirstBad lines index → ⊥
none_is_bad [] script_lines index are bad = bad
none_is_bad (line ∷ lines) [] index are bad = are
none_is_bad (line ∷ lines) (script_line ∷ script_lines) zero are bad = bad (script_line, are.0)
none_is_bad (line ∷ lines) (script_line ∷ script_lines) (suc index) are bad = none_is_bad lines script_lines index are.1 bad.1

pub not_refused : (lines : List Text) (script : Script) (number : ℕ) → IsScript lines script
    → Refuses lines (errors.Line number) → ⊥
not_refused [] script number is refused = is
not_refused (first ∷ lines) script number is (inl refused) = refused.1 (script.opening, is.0)
not_refused (first ∷ lines) script number is (inr (has, (index, (same, bad)))) =
    none_is_bad lines script.lines.items index is.1 bad
