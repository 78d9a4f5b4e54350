-- KindAnswers.antt: a row of a kind, by its word.
use Rattle.std.proofs.Common.{◌≡◌, true, List, [], codes, bytes_eq}
use Rattle.rows.specs.Fields.{Text}
use Rattle.rows.specs.Playing.{Agrees}
use Rattle.rows.specs.declared.line.Line.{Line}
use Rattle.program_rows.specs.Kinds.{KindAgrees}
use Rattle.program_rows.specs.CommandSteps.{CommandStep}
use Rattle.program_rows.specs.TextSteps.{StepDoes, TextAgrees}
use Rattle.program_rows.specs.declared.command_steps.Commands.{Commands}
use Rattle.program_rows.specs.declared.text_steps.Written.{Written}

pub command_kind : (kind : Text) (steps : List Line) (commands : Commands) → bytes_eq kind (codes "command") ≡ true
    → Agrees (λ old step answers new. CommandStep step answers) commands steps → KindAgrees kind steps
command_kind kind steps commands is agrees = KindAgrees.command commands is agrees

pub table_kind : (kind : Text) (steps : List Line) → bytes_eq kind (codes "table") ≡ true → TextAgrees steps
    → KindAgrees kind steps
table_kind kind steps is agrees = KindAgrees.table is agrees

pub script_kind : (kind : Text) (steps : List Line) → bytes_eq kind (codes "script") ≡ true → TextAgrees steps
    → KindAgrees kind steps
script_kind kind steps is agrees = KindAgrees.script is agrees

pub from_nothing : (written : Written) (steps : List Line) → written.text.items ≡ [] → Agrees StepDoes written steps
    → TextAgrees steps
from_nothing written steps empty agrees = (written, empty, agrees)
