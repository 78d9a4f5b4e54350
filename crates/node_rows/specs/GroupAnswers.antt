-- What a group sends and shows, as answers.
use Rattle.std.specs.Prelude.{ℕ, List, [], ◌∷◌, ◌++◌, codes, Option, Some, None}
use Rattle.std.specs.Fmt.{decimal}
use Rattle.rows.specs.Fields.{Text}
use Rattle.rows.specs.Playing.{Answers}
use Rattle.ballot_base.specs.Logs.{Log}
use Rattle.ballot_base.specs.declared.message.Body.{Body}
use Rattle.ballot_base.specs.declared.message.Body.TheVariants as bodies
use Rattle.ballot_base.specs.declared.message.Message.{Message}
use Rattle.machine.specs.declared.tally.TallyCommand.{TallyCommand}
use Rattle.machine.specs.declared.tally.TallyCommand.TheVariants as commands
use Rattle.node_rows.specs.Answers.{number_fields}

-- `add 2`, or `start 2`
abbrev pub command_fields : TallyCommand → List Text
command_fields (commands.Add number) = number_fields (codes "add") number
command_fields (commands.Start ballot) = number_fields (codes "start") ballot

-- commands, one after another
abbrev pub commands_fields : List TallyCommand → List Text
commands_fields [] = []
commands_fields (command ∷ rest) = command_fields command ++ commands_fields rest

-- a word, a ballot and its members
abbrev pub members_fields : Text → ℕ → List ℕ → List Text
members_fields word ballot members = number_fields word ballot ++ members ∷ []

-- `state 2 2 x"00 .." add 4`: a ballot, and the log from its base on
abbrev pub log_fields : Text → ℕ → Log TallyCommand → List Text
log_fields word ballot log =
    word ∷ decimal ballot ∷ decimal log.base ∷ log.snapshot ∷ commands_fields log.rest

-- what a message says
abbrev pub body_fields : Body TallyCommand → List Text
body_fields (bodies.NewBallot ballot members previous previous_members) =
    members_fields (codes "newballot") ballot members
    ++ members_fields (codes "after") previous previous_members
body_fields (bodies.Join ballot previous) =
    codes "join" ∷ decimal ballot ∷ decimal previous ∷ []
body_fields (bodies.State ballot log) = log_fields (codes "state") ballot log
body_fields (bodies.Install ballot log) = log_fields (codes "install") ballot log
body_fields (bodies.Installed ballot held) =
    codes "installed" ∷ decimal ballot ∷ decimal held ∷ []
body_fields (bodies.Activate ballot) = number_fields (codes "activate") ballot
body_fields (bodies.Activated ballot) = number_fields (codes "activated") ballot
body_fields (bodies.Superseded ballot) = number_fields (codes "superseded") ballot
body_fields (bodies.Append ballot place command) =
    codes "append" ∷ decimal ballot ∷ decimal place ∷ command_fields command
body_fields (bodies.Held ballot held) = codes "held" ∷ decimal ballot ∷ decimal held ∷ []
body_fields (bodies.Commit ballot held) = codes "commit" ∷ decimal ballot ∷ decimal held ∷ []

-- `from 1 to 2 held 1 1`
abbrev pub message_fields : ℕ × Message TallyCommand → List Text
message_fields sent = number_fields (codes "from") sent.1.from
    ++ number_fields (codes "to") sent.0 ++ body_fields sent.1.body

-- `place 0 total 2`
abbrev pub output_fields : ℕ × ℕ → List Text
output_fields left =
    number_fields (codes "place") left.0 ++ number_fields (codes "total") left.1

-- an answer, if there is one
abbrev pub alone : {A : Type 0} → (A → List Text) → Option A → Answers
alone fields (Some value) = fields value ∷ []
alone fields None = []
