-- OneLine.antt: a line has one of the other forms, or none.
use Rattle.std.proofs.Common.{◌≡◌, List, Some, None, is_some, Result, Ok, Err, ap, sym, ◌∙◌}
use Rattle.std.specs.Result.{IfOk}
use Rattle.std.specs.Str.{IsUtf8}
use Rattle.std.proofs.lemmas.Bool.{false≢true}
use Rattle.script.specs.declared.error.FieldFault.{FieldFault}
use Rattle.script.specs.declared.script_line.ScriptLine.{ScriptLine}
use Rattle.script.specs.Fields.{Text, fields_of}
use Rattle.script.specs.Scripts.{HasSomeForm, IsOtherLine}
use Rattle.script.specs.Inside.LineReader.{line_of}
use Rattle.script.proofs.OneForm.{is_read, says}

-- what was read of a line
pub line_said : (line text : Text) (fields : List Text) (r : Result ScriptLine FieldFault) → text ≡ line → IsUtf8 line
    → fields ≡ fields_of text → IfOk r (λ o. line_of fields ≡ Some o) → IfOk r (IsOtherLine line)
line_said line text fields (Ok o) same formed are read =
    (formed, says (fields_of line) o (ap line_of (sym (are ∙ ap fields_of same)) ∙ read))
line_said line text fields (Err e) same formed are read = tt

-- a line of which nothing was read
pub line_missing : (line text : Text) (fields : List Text) → text ≡ line
    → fields ≡ fields_of text → line_of fields ≡ None → HasSomeForm line → ⊥
line_missing line text fields same are none has =
    false≢true (ap is_some (sym none ∙ ap line_of (are ∙ ap fields_of same) ∙ is_read (fields_of line) has.0 has.1.1))
