-- Which publication of a client a place carries. It is found by position: the j-th command of a
-- connection is its j-th written packet.
use Rattle.std.specs.Prelude.{ℕ, Bool, true, false, ◌==◌, if◌then◌else◌, List, [], ◌∷◌, ◌++◌, map, Option, Some, None, slice_get}
use Rattle.packet_base.specs.declared.qos.QoS.{QoS}
use Rattle.packet_base.specs.declared.qos.QoS.TheVariants as qos_levels
use Rattle.packet.specs.declared.packet.Packet.TheVariants as packets
use Rattle.broker_spec.specs.Connection.{ConnectionName, same_connection}
use Rattle.broker_spec.specs.Place.{Past}
use Rattle.broker_spec.specs.Received.{is_new}
use Rattle.broker_spec.specs.declared.command.Command.{Command}
use Rattle.broker_spec.specs.declared.command.Command.TheVariants as commands
use Rattle.session_base.specs.declared.publication.Publication.{Publication}
use Rattle.client_base.specs.Keeper.{Own, Written, number_in}
use Rattle.exactly_once.specs.Sides.{ClientConnection}
use Rattle.exactly_once.specs.StoryCommands.{packet_count}

-- the client's connection of this name, if it has one
abbrev pub connection_named : ConnectionName → List ClientConnection → Option ClientConnection
connection_named name (connection ∷ connections) =
    if same_connection name connection.name then Some connection
    else connection_named name connections
connection_named name [] = None

-- whether the number is this one
abbrev pub is_this : ℕ → Option ℕ → Bool
is_this number (Some other) = other == number
is_this number None = false

-- the number of the publication in a written packet, if it is one
abbrev pub written_number : Option Written → Option ℕ
written_number (Some written) = written.number
written_number None = None

-- the number of the packet that was written at this index on a connection
abbrev pub written_number_at : ℕ → Option ClientConnection → Option ℕ
written_number_at index (Some connection) = written_number (slice_get connection.written index)
written_number_at index None = None

-- the publication, if the command is a PUBLISH that the client wrote on one of its connections
abbrev pub carries : List ClientConnection → Command → Past → Option ℕ
carries connections (commands.Packet name (packets.Publish publish)) past =
    written_number_at (packet_count name past) (connection_named name connections)
carries connections _ past = None

-- the number, if the publication is new
abbrev pub more_by : Bool → Option ℕ → List ℕ
more_by true (Some number) = number ∷ []
more_by _ _ = []

-- the client's publications that are new in the list, by place
abbrev pub new_numbers : List ClientConnection → Past → List ℕ
new_numbers connections (place ∷ past) =
    new_numbers connections past
    ++ more_by (is_new place.command place.mark) (carries connections place.command past)
new_numbers connections [] = []

-- whether a QoS is 2
abbrev pub is_qos2 : QoS → Bool
is_qos2 qos_levels.AtMostOnce = false
is_qos2 qos_levels.AtLeastOnce = false
is_qos2 qos_levels.ExactlyOnce = true

-- the publication itself
abbrev pub own_publication : Own → Publication
own_publication (Own.Queued number publication id) = publication
own_publication (Own.Sent number publication id) = publication
own_publication (Own.Released number publication id) = publication
own_publication (Own.Done number publication) = publication

-- all that it published, in the order of its calls: each is at its number
abbrev pub own_publications : List Own → List Publication
own_publications = map own_publication

-- the numbers of its QoS 2 publications, in the order of its calls
abbrev pub own_qos2_numbers : List Own → List ℕ
own_qos2_numbers (first ∷ own) =
    if is_qos2 (own_publication first).qos then number_in first ∷ own_qos2_numbers own
    else own_qos2_numbers own
own_qos2_numbers [] = []
