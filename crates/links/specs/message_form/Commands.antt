-- The bytes of a command: its kind, the name of its connection, and what it carries. A name is its
-- ballot and its count; a client is a text with its length in two bytes before it; a packet is as
-- MQTT spells it.
use Rattle.std.specs.Prelude.{ℕ, List, [], ◌∷◌, ◌++◌}
use Rattle.packet_base.specs.Spelling.{text, bit}
use Rattle.packet.specs.Spelling.{spelling}
use Rattle.broker_spec.specs.Connection.{ConnectionName}
use Rattle.broker_spec.specs.Logged.{IsBrokerCommand}
use Rattle.broker_spec.specs.declared.command.Command.{Command}
use Rattle.broker_spec.specs.declared.command.Command.TheVariants as commands
use Rattle.links.specs.message_form.Numbers.{wide_number, IsWide}

-- the name of a connection
abbrev pub name_bytes : ConnectionName → List ℕ
name_bytes name = wide_number name.ballot ++ wide_number name.count

-- a command; the flag of a Connect is its last byte
abbrev pub command_bytes : Command → List ℕ
command_bytes (commands.Connect name client clean) =
    1 ∷ (name_bytes name ++ (text client ++ bit clean ∷ []))
command_bytes (commands.Packet name packet) = 2 ∷ (name_bytes name ++ spelling packet)
command_bytes (commands.Lost name) = 3 ∷ name_bytes name
command_bytes (commands.Start ballot) = 4 ∷ wide_number ballot
command_bytes (commands.Expel client) = 5 ∷ text client

-- each part is in its range, as in every command of a program
abbrev pub IsCommand : Command → Type 0
IsCommand (commands.Start ballot) = IsWide ballot
IsCommand command = IsBrokerCommand command
