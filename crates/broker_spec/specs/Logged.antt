-- Commands that a log may hold: names, texts and packets in their ranges.
use Rattle.std.specs.Prelude.{◌≡◌, true}
use Rattle.packet_base.specs.ClientId.{is_client}
use Rattle.packet.specs.Spelling.{Fits}
use Rattle.broker_spec.specs.Connection.{IsConnectionName}
use Rattle.broker_spec.specs.Sized.{IsSized}
use Rattle.broker_spec.specs.declared.command.Command.{Command}
use Rattle.broker_spec.specs.declared.command.Command.TheVariants as commands

-- each part of a command is in its range
abbrev pub IsBrokerCommand : Command → Type 0
IsBrokerCommand (commands.Connect connection client clean) =
    IsConnectionName connection × (is_client client ≡ true)
IsBrokerCommand (commands.Packet connection packet) =
    IsConnectionName connection × Fits packet × IsSized packet
IsBrokerCommand (commands.Lost connection) = IsConnectionName connection
IsBrokerCommand (commands.Start ballot) = Unit {0}
IsBrokerCommand (commands.Expel client) = is_client client ≡ true
