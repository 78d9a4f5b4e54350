-- What the answers to a list of commands send on a connection.
use Rattle.std.specs.Prelude.{if◌then◌else◌, List, [], ◌∷◌, ◌++◌}
use Rattle.packet.specs.declared.packet.Packet.{Packet}
use Rattle.broker_spec.specs.Connection.{ConnectionName, same_connection}
use Rattle.broker_spec.specs.Place.{Past, Limits}
use Rattle.broker_spec.specs.AnswersInOrder.{answers_at}
use Rattle.broker_spec.specs.declared.command.Output.{Output}
use Rattle.broker_spec.specs.declared.command.Output.TheVariants.{Send, Close}

-- the packets to a connection, in order
abbrev pub sends_to : ConnectionName → List Output → List Packet
sends_to connection (Send other packet ∷ answers) =
    if same_connection connection other then packet ∷ sends_to connection answers
    else sends_to connection answers
sends_to connection (Close other ∷ answers) = sends_to connection answers
sends_to connection [] = []

-- all that a connection is sent, place by place
unfoldable pub put_to : Limits → Past → ConnectionName → List Packet
put_to limits [] connection = []
put_to limits (place ∷ past) connection =
    put_to limits past connection ++ sends_to connection (answers_at limits place past)
