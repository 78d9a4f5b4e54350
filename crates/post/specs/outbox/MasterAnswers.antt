-- What the master of a program answers.
use Rattle.std.specs.Prelude.{◌≡◌, ℕ, ◌<◌, ◌≤◌, true, Option, Some, None}
use Rattle.agreement.specs.MasterState.{MasterState}
use Rattle.machine.specs.Ballots.{max_ballot}
use Rattle.ballot_base.specs.LawfulConfig.{is_lawful, max_node}
use Rattle.agreement.specs.cut_logs.Masters.{MasterOutcome, activated}
use Rattle.broker_spec.specs.declared.command.Command.{Command}
use Rattle.ballot_base.specs.declared.message.Body.{Body}
use Rattle.ballot_base.specs.declared.message.Body.TheVariants.{Activate}
use Rattle.ballot_base.specs.declared.config.Config.{Config}
use Rattle.post.specs.outbox.Given.{Addressed}
pub use Rattle.run_history.specs.Masters.{message_of}

-- the master's answer to a message of a node: only an Activate gets one
abbrev pub answer_to : MasterState → ℕ → Body Command → Option (MasterOutcome Command)
answer_to master from (Activate ballot) = Some (activated Command master ballot from master.waiting)
answer_to master from _ = None

-- the state of the master after an outcome, if there was one
abbrev pub master_after_outcome : MasterState → Option (MasterOutcome Command) → MasterState
master_after_outcome master (Some outcome) = outcome.state
master_after_outcome master None = master

-- the message of an outcome of the master, if there is one
abbrev pub message_if : Option (MasterOutcome Command) → Option Addressed
message_if (Some outcome) = Some (message_of outcome)
message_if None = None

-- An order may give this ballot to the configuration: a ballot may have its members and its
-- primary, and the number comes after that of the first ballot, up to the last.
pub record MayGet (config : Config) (ballot : ℕ) : Type 0 where
  pub lawful : is_lawful max_node config.members config.primary ≡ true
  pub after_first : 1 < ballot
  pub up_to_last : ballot ≤ max_ballot
