-- Commands whose answers can all be spelled.
use Rattle.broker_spec.specs.declared.command.Command.{Command}
use Rattle.broker_spec.specs.declared.command.Command.TheVariants as commands
use Rattle.broker_spec.specs.Logged.{IsBrokerCommand}

-- a command that a log may hold; one that says which connection is lost, or which client is expelled, may name any
abbrev pub IsFitting : Command → Type 0
IsFitting (commands.Connect x c clean) = IsBrokerCommand (commands.Connect x c clean)
IsFitting (commands.Packet x packet) = IsBrokerCommand (commands.Packet x packet)
IsFitting (commands.Lost x) = Unit {0}
IsFitting (commands.Start ballot) = Unit {0}
IsFitting (commands.Expel c) = Unit {0}
