-- What a node sends and shows, as answers.
use Rattle.std.specs.Prelude.{ℕ, List, [], ◌∷◌, ◌++◌, length, codes, if◌then◌else◌}
use Rattle.std.specs.Fmt.{decimal}
use Rattle.rows.specs.Fields.{Text}
use Rattle.ballot_base.specs.Logs.{Log}
use Rattle.ballot_base.specs.declared.message.Effect.{Effect}
use Rattle.ballot_base.specs.declared.message.Effect.TheVariants as effects
use Rattle.ballot_base.specs.declared.status.Role.{Role}
use Rattle.ballot_base.specs.declared.status.Role.TheVariants as roles
use Rattle.ballot_base.specs.declared.status.Status.{Status}
use Rattle.broker_spec.specs.declared.command.Command.{Command}
use Rattle.broker_spec.specs.declared.command.Output.{Output}
use Rattle.links.specs.message_form.Messages.{written}
use Rattle.world_base.specs.declared.node_connections.handed.Handed.{Handed}
use Rattle.world_base.specs.declared.node_connections.handed.Handed.TheVariants as handed
use Rattle.node_rows.specs.Answers.{number_fields}

-- `to 2 x"09 01 .."`: a message for a node, by its bytes
abbrev pub effect_fields : Effect Command Output → List Text
effect_fields (effects.To receiver message) =
    codes "to" ∷ decimal receiver ∷ written message ∷ []
effect_fields (effects.Out place output) = number_fields (codes "out") place

-- `open x"20 02 00 00"`: what a node has for a port, and whether more may come
abbrev pub handed_fields : Handed → List ℕ → List Text
handed_fields handed.Open bytes = codes "open" ∷ bytes ∷ []
handed_fields handed.Closed bytes = codes "closed" ∷ bytes ∷ []

-- the word of a role
abbrev pub role_text : Role → Text
role_text roles.Backup = codes "backup"
role_text roles.Fetching = codes "fetching"
role_text roles.Installing = codes "installing"
role_text roles.Active = codes "active"

-- `stopped`, once a node has stopped
abbrev pub stage_text : Status → Text
stage_text status = if status.stopped then codes "stopped" else role_text status.role

-- `ballot 1 active held 3 committed 3`
abbrev pub status_fields : Status → List Text
status_fields status = number_fields (codes "ballot") status.ballot
    ++ stage_text status ∷ number_fields (codes "held") status.held
    ++ number_fields (codes "committed") status.committed

-- `base 2 snapshot x"02 .." commands 1`
abbrev pub log_fields : Log Command → List Text
log_fields log = number_fields (codes "base") log.base
    ++ codes "snapshot" ∷ log.snapshot ∷ number_fields (codes "commands") (length log.rest)
