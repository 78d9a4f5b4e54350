-- Steps about the words of a command line, and their answers.
use Rattle.std.specs.Prelude.{◌≡◌, Bool, List, [], ◌∷◌, codes, if◌then◌else◌}
use Rattle.rows.specs.Fields.{Text}
use Rattle.rows.specs.Playing.{Answers}
use Rattle.clap.specs.declared.error.kind.ErrorKind.{ErrorKind}
use Rattle.clap.specs.declared.error.kind.ErrorKind.TheVariants as kinds
use Rattle.clap.specs.Words.{IsAmong, fault_of, kind_of, subcommand_of}
use Rattle.command_line.specs.Jobs.{IsJob}
use Rattle.command_line.specs.Program.{program}
use Rattle.command_line.specs.declared.fault.LineFault.{LineFault}
use Rattle.command_line.specs.declared.fault.LineFault.TheVariants as faults
use Rattle.command_line.specs.declared.job.Job.{Job}
use Rattle.program_rows.specs.AnswerFields.{Is, word}
use Rattle.program_rows.specs.JobFields.{job_fields}

-- the word for what words are refused for
abbrev pub kind_word : ErrorKind → Text
kind_word kinds.InvalidValue = codes "value"
kind_word kinds.UnknownArgument = codes "unknown"
kind_word kinds.InvalidSubcommand = codes "subcommand"
kind_word kinds.ValueValidation = codes "number"
kind_word kinds.ArgumentConflict = codes "twice"
kind_word kinds.MissingRequiredArgument = codes "missing"
kind_word kinds.DisplayHelp = codes "help"
kind_word kinds.DisplayHelpOnMissingArgumentOrSubcommand = codes "nothing"
kind_word kinds.DisplayVersion = codes "version"
kind_word _ = codes "other"

-- `refused missing`
abbrev pub refused_words : ErrorKind → List Text
refused_words kind = codes "refused" ∷ kind_word kind ∷ []

-- the answer to words that are refused with this fault
abbrev pub Says : LineFault → List Text → Type 0
Says (faults.Words error) answer = answer ≡ refused_words (kind_of error)
Says faults.Incomplete answer = answer ≡ word (codes "incomplete")
Says faults.Memory answer = ⊥

-- words, and what they ask for
pub data LineAnswer : List Text → List Text → Type 0 where
  -- a job
  asks : {words answer : List Text} (job : Job) → IsJob (subcommand_of program words) job
      → answer ≡ job_fields job → LineAnswer words answer
  -- no job: one of the faults that the words have
  refused : {words answer : List Text} (kind : ErrorKind)
      → IsAmong kind (fault_of program words) → answer ≡ refused_words kind
      → LineAnswer words answer
  -- no job: a word without the one that goes with it
  incomplete : {words answer : List Text}
      → ((job : Job) → IsJob (subcommand_of program words) job → ⊥)
      → answer ≡ word (codes "incomplete") → LineAnswer words answer

-- whether it is so
abbrev pub yes_or_no : Bool → List Text
yes_or_no is_so = word (if is_so then codes "yes" else codes "no")

-- a step, and its answers
pub data CommandStep : List Text → Answers → Type 0 where
  -- `line vbroker play`
  line : {word : Text} {words answer : List Text} → Is word (codes "line")
      → LineAnswer words answer → CommandStep (word ∷ words) (answer ∷ [])
  -- `shows "Usage" in vbroker --help`; what is printed has no definition
  shows : {word : Text} {fields : List Text} (is_so : Bool) → Is word (codes "shows")
      → CommandStep (word ∷ fields) (yes_or_no is_so ∷ [])
