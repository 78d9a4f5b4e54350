-- When a row agrees, by its kind.
use Rattle.std.specs.Prelude.{List, [], ◌∷◌, codes}
use Rattle.rows.specs.Fields.{Text}
use Rattle.rows.specs.Playing.{Agrees}
use Rattle.rows.specs.declared.line.Line.{Line}
use Rattle.program_rows.specs.AnswerFields.{Is}
use Rattle.program_rows.specs.CommandSteps.{CommandStep}
use Rattle.program_rows.specs.TextSteps.{TextAgrees}
use Rattle.program_rows.specs.declared.command_steps.Commands.{Commands}

-- the steps of a row of this kind agree
pub data KindAgrees : Text → List Line → Type 0 where
  -- command lines, which change nothing
  command : {kind : Text} {steps : List Line} (commands : Commands) → Is kind (codes "command")
      → Agrees (λ old step answers new. CommandStep step answers) commands steps
      → KindAgrees kind steps
  -- the text of a table of nodes
  table : {kind : Text} {steps : List Line} → Is kind (codes "table") → TextAgrees steps
      → KindAgrees kind steps
  -- the text of a script
  script : {kind : Text} {steps : List Line} → Is kind (codes "script") → TextAgrees steps
      → KindAgrees kind steps

-- the first line of a row has its kind and its name
abbrev pub NamedAgrees : List Text → List Line → Type 0
NamedAgrees [] steps = ⊥
NamedAgrees (kind ∷ []) steps = ⊥
NamedAgrees (kind ∷ name ∷ []) steps = KindAgrees kind steps
NamedAgrees (kind ∷ name ∷ other ∷ others) steps = ⊥

-- a row agrees
abbrev pub RowAgrees : List Line → Type 0
RowAgrees [] = ⊥
RowAgrees (first ∷ steps) = NamedAgrees first.fields steps
