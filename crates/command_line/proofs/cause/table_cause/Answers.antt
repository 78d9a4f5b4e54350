use Rattle.std.proofs.Common.{◌∙◌, sym}
use Rattle.std.proofs.lemmas.Option.{none-some}
use Rattle.command_line.proofs.cause.table_cause.Goals.{in-Ok, in-Err-Memory, in-Err-Shape}
use Rattle.command_line.proofs.cause.table_cause.Goals as goal

pub returns : goal.returns
returns c = λ none. elim c.match-table.branch [
  | in-Ok w ↦ (w.in-Ok.field-0, w.in-Ok.ensures.value)
  | in-Err-Memory w ↦ absurd (none-some _ (sym none ∙ w.result-is))
  | in-Err-Shape w ↦ absurd (none-some _ (sym none ∙ w.result-is))
]
