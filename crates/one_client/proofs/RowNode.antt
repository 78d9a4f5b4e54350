-- What the node of the row does, computed: a stranger comes and brings noise; then the client comes, and is served.
use Rattle.std.specs.Str.{chars, is_utf8}
use lib.Utf8.{encode}
use Rattle.std.proofs.Common.{◌≡◌, ℕ, false, List, [], ◌∷◌, ◌++◌, length, refl}
use Rattle.packet.specs.declared.packet.Packet.{Packet}
use Rattle.packet.specs.declared.packet.Packet.TheVariants as packets
use Rattle.packet.specs.Connect.{connect_of}
use Rattle.packet.specs.Delivery.{delivery_at}
use Rattle.packet.specs.IdAlone.{id_alone_of}
use Rattle.packet.specs.Publish.{publish_of as publish_read}
use Rattle.packet.specs.Spelling.{spelling}
use Rattle.packet.specs.Subscribe.{subscribe_of, subscription_at}
use Rattle.packet.specs.Verdict.{verdict}
use Rattle.packet_base.specs.Lists.{items_of}
use Rattle.packet_base.specs.Readers.{id_at, length_at, number_at, text_at}
use Rattle.packet_base.specs.TopicFields.{filter_at, topic_at}
use Rattle.ballot_base.specs.Service.{added, commit, commit_at, proposed}
use Rattle.machine.specs.Machine.{replay}
use Rattle.broker_spec.specs.declared.command.Command.{Command}
use Rattle.broker_spec.specs.declared.command.Command.TheVariants as commands
use Rattle.broker_spec.specs.Connection.{first_connection}
use Rattle.world_base.specs.declared.node_connections.connection.ConnectionStage.TheVariants.{Proposed}
use Rattle.world_base.specs.declared.node_core.item.Item.TheVariants.{Opened, Bytes}
use Rattle.world_base.specs.node_connections.Connections.{fresh}
use Rattle.world_base.specs.node_core.Core.{CoreState, rules}
use Rattle.world_base.specs.node_core.FailedConnections.{reports_failed}
use Rattle.world_base.specs.node_core.PortOutput.{hands_over}
use Rattle.world_base.specs.node_core.PacketInput.{changes, reads_next}
use Rattle.world_base.specs.node_core.Step.{with_next_connection, settled}
use Rattle.world_base.specs.node_core.Effects.{changes_named, proposes, repeated}
use Rattle.exactly_once.specs.Rows.{writer}
use Rattle.headline.specs.node_moves.Moves.{done}
use Rattle.headline.specs.node_moves.Moves.NodeCall.{takes, hands_out}
use Rattle.headline.proofs.ServedNode.{both, connack, connect, core_at_first, publish, suback, subscribe}
use Rattle.one_client.specs.Rows.{noise, other_port, own_port, second_connection}

-- ---- the states of the node

abbrev pub stranger_there : CoreState
stranger_there = record core_at_first { last_name = first_connection; connections = fresh other_port first_connection ∷ [] }

abbrev pub stranger_gone : CoreState
stranger_gone = record core_at_first { last_name = first_connection }

abbrev pub client_there : CoreState
client_there = record core_at_first { last_name = second_connection; connections = fresh own_port second_connection ∷ [] }

-- it has done these commands, and has these bytes to hand over to the client
abbrev pub serving : List Command → List ℕ → CoreState
serving log pending =
    record client_there {
      replica = record client_there.replica {
        state = record client_there.replica.state { log = record { base = 0; snapshot = []; rest = log }; committed = length log; machine = replay rules log };
      };
      connections = record (fresh own_port second_connection) { stage = Proposed; pending = pending } ∷ [];
    }

-- ---- the commands

abbrev said : Packet → Command
said packet = commands.Packet second_connection packet

abbrev pub list_connected : List Command
list_connected = commands.Connect second_connection writer false ∷ []

abbrev pub list_subscribed : List Command
list_subscribed = list_connected ++ said subscribe ∷ []

abbrev pub list_published : List Command
list_published = list_subscribed ++ said publish ∷ []

abbrev pub list_released : List Command
list_released = list_published ++ said (packets.Pubrel 1) ∷ said (packets.Pubrec 1) ∷ []

abbrev pub list_done : List Command
list_done = list_released ++ said (packets.Pubcomp 1) ∷ []

-- ---- its turns

pub stranger_comes : (done (takes (Opened other_port 0)) core_at_first).core ≡ stranger_there
unfolding with_next_connection settled repeated reports_failed
stranger_comes = refl

pub stranger_errs : (done (takes (Bytes other_port noise 0)) stranger_there).core ≡ stranger_gone
unfolding settled repeated reports_failed changes changes_named reads_next verdict length_at
stranger_errs = refl

pub client_comes : (done (takes (Opened own_port 0)) stranger_gone).core ≡ client_there
unfolding with_next_connection settled repeated reports_failed
client_comes = refl

pub it_connects : (done (takes (Bytes own_port (spelling connect) 0)) client_there).core ≡ serving list_connected (spelling connack)
unfolding settled repeated reports_failed changes changes_named reads_next proposes verdict connect_of spelling proposed added commit commit_at number_at text_at length_at is_utf8 chars encode
it_connects = refl

pub it_grants : (done (takes (Bytes own_port (spelling subscribe) 0)) (serving list_connected [])).core ≡ serving list_subscribed (spelling suback)
unfolding settled repeated reports_failed changes changes_named reads_next proposes verdict subscribe_of subscription_at items_of id_at filter_at spelling proposed added commit commit_at number_at text_at length_at is_utf8 chars encode
it_grants = refl

pub it_takes : (done (takes (Bytes own_port (spelling publish) 0)) (serving list_subscribed [])).core ≡ serving list_published (spelling (packets.Pubrec 1) ++ spelling publish)
unfolding settled repeated reports_failed changes changes_named reads_next proposes verdict publish_read delivery_at id_at topic_at spelling proposed added commit commit_at number_at text_at length_at is_utf8 chars encode
it_takes = refl

pub it_hands : (log : List Command) (pending : List ℕ) → (done (hands_out own_port) (serving log pending)).core ≡ serving log []
unfolding hands_over
it_hands log pending = refl

pub it_releases : (done (takes (Bytes own_port both 0)) (serving list_published [])).core ≡ serving list_released (spelling (packets.Pubcomp 1) ++ spelling (packets.Pubrel 1))
unfolding settled repeated reports_failed changes changes_named reads_next proposes verdict id_alone_of id_at spelling proposed added commit commit_at number_at length_at
it_releases = refl

pub it_completes : (done (takes (Bytes own_port (spelling (packets.Pubcomp 1)) 0)) (serving list_released [])).core ≡ serving list_done []
unfolding settled repeated reports_failed changes changes_named reads_next proposes verdict id_alone_of id_at spelling proposed added commit commit_at number_at length_at
it_completes = refl
