-- CommandAnswers.antt: a step about words, by its word, and what words ask for.
use Rattle.std.proofs.Common.{◌≡◌, Bool, true, List, [], ◌∷◌, codes, bytes_eq, refl, sym, subst}
use Rattle.rows.specs.Fields.{Text}
use Rattle.rows.specs.Playing.{Answers}
use Rattle.clap.specs.Words.{fault_of, kind_of, subcommand_of}
use Rattle.command_line.specs.Jobs.{IsJob, IsRefusal}
use Rattle.command_line.specs.Program.{program}
use Rattle.command_line.specs.declared.fault.LineFault.{LineFault}
use Rattle.command_line.specs.declared.fault.LineFault.TheVariants as faults
use Rattle.command_line.specs.declared.job.Job.{Job}
use Rattle.program_rows.specs.CommandSteps.{CommandStep, LineAnswer, Says, yes_or_no}
use Rattle.program_rows.specs.JobFields.{job_fields}

pub line_step : (word : Text) (words answer : List Text) (answers : Answers) → bytes_eq word (codes "line") ≡ true
    → LineAnswer words answer → answers ≡ answer ∷ [] → CommandStep (word ∷ words) answers
line_step word words answer answers is gives alone =
    let P : Answers → Type 0 = λ a. CommandStep (word ∷ words) a in
    subst P (sym alone) (CommandStep.line is gives)

pub shows_step : (word : Text) (fields answer : List Text) (answers : Answers) (is_so : Bool)
    → bytes_eq word (codes "shows") ≡ true → answer ≡ yes_or_no is_so → answers ≡ answer ∷ []
    → CommandStep (word ∷ fields) answers
shows_step word fields answer answers is_so is gives alone =
    let P : Answers → Type 0 = λ a. CommandStep (word ∷ fields) a in
    let Q : List Text → Type 0 = λ a. CommandStep (word ∷ fields) (a ∷ []) in
    subst P (sym alone) (subst Q (sym gives) (CommandStep.shows is_so is))

pub asks_for : (words answer : List Text) (job : Job) → IsJob (subcommand_of program words) job → answer ≡ job_fields job
    → LineAnswer words answer
asks_for words answer job is gives = LineAnswer.asks job is gives

pub asks_for_none : (words answer : List Text) (fault : LineFault) → IsRefusal (fault_of program words) fault
    → (fault ≡ faults.Incomplete → (job : Job) → IsJob (subcommand_of program words) job → ⊥)
    → Says fault answer → LineAnswer words answer
asks_for_none words answer (faults.Words error) refuses missing says = LineAnswer.refused (kind_of error) refuses says
asks_for_none words answer faults.Incomplete refuses missing says = LineAnswer.incomplete (missing refl) says
asks_for_none words answer faults.Memory refuses missing says = absurd says
