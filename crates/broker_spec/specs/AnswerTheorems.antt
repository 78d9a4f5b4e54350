-- Theorems about the answers: where they go.
use Rattle.std.specs.Prelude.{◌≡◌, Bool, true, false, Option, Some, None, ◌⊎◌}
use Rattle.std.specs.List.{AllByRecursion}
use Rattle.packet.specs.declared.packet.Packet.TheVariants as packets
use Rattle.broker_spec.specs.Connection.{ConnectionName}
use Rattle.broker_spec.specs.Place.{Client, Past, Limits}
use Rattle.broker_spec.specs.Sessions.{current_connection}
use Rattle.broker_spec.specs.AnswersInOrder.{answers_of}
use Rattle.broker_spec.specs.declared.command.Command.{Command}
use Rattle.broker_spec.specs.declared.command.Command.TheVariants as commands
use Rattle.broker_spec.specs.declared.command.Output.{Output}
use Rattle.broker_spec.specs.declared.command.Output.TheVariants.{Send, Close}

-- the connection that an answer goes to
abbrev pub goes_to : Output → ConnectionName
goes_to (Send connection packet) = connection
goes_to (Close connection) = connection

-- the connection that a command names
abbrev pub named_in : Command → Option ConnectionName
named_in (commands.Connect connection client clean) = Some connection
named_in (commands.Packet connection packet) = Some connection
named_in (commands.Lost connection) = Some connection
named_in (commands.Start ballot) = None
named_in (commands.Expel client) = None

-- a PUBLISH or a Close, which a client may be sent because of another client's command
abbrev pub is_unasked : Output → Bool
is_unasked (Send connection (packets.Publish publish)) = true
is_unasked (Close connection) = true
is_unasked _ = false

-- the answer goes to the connection that the command names, or it is unasked and goes to some
-- client's current connection
abbrev pub IsAddressed : Past → Command → Output → Type 0
IsAddressed past command answer =
    (named_in command ≡ Some (goes_to answer))
    ⊎ (((client : Client) × (current_connection past client ≡ Some (goes_to answer)))
    × (is_unasked answer ≡ true))

-- each answer is addressed (`IsAddressed`): CONNACK, PUBACK, PUBREC, PUBREL, PUBCOMP, SUBACK and
-- UNSUBACK go to the client that asked
abbrev pub AnswersAreAddressed : Type 0
AnswersAreAddressed =
    (limits : Limits) (past : Past) (command : Command)
    → AllByRecursion (IsAddressed past command) (answers_of limits past command)
