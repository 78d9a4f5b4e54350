-- What the node of the row does, computed: it opens a connection, and reads what comes, and sends
-- the answers.
use Rattle.std.specs.Str.{chars, is_utf8}
use lib.Utf8.{encode}
use Rattle.std.proofs.Common.{◌≡◌, ℕ, false, List, [], ◌∷◌, ◌++◌, length, refl}
use Rattle.packet.specs.declared.connack.Connack.TheVariants as connacks
use Rattle.packet.specs.declared.packet.Packet.{Packet}
use Rattle.packet.specs.declared.packet.Packet.TheVariants as packets
use Rattle.packet_base.specs.declared.qos.QoS.TheVariants as qos_levels
use Rattle.packet.specs.declared.suback.SubackCode.TheVariants as codes
use Rattle.packet.specs.Connect.{connect_of}
use Rattle.packet.specs.Delivery.{delivery_at}
use Rattle.packet.specs.IdAlone.{id_alone_of}
use Rattle.packet.specs.Publish.{publish_of as publish_read}
use Rattle.packet.specs.Spelling.{spelling}
use Rattle.packet.specs.Subscribe.{subscribe_of, subscription_at}
use Rattle.packet.specs.Verdict.{verdict}
use Rattle.packet_base.specs.Lists.{items_of}
use Rattle.packet_base.specs.Readers.{id_at, length_at, number_at, text_at}
use Rattle.packet_base.specs.TopicFields.{filter_at, topic_at}
use Rattle.session_base.specs.Publication.{publish_for}
use Rattle.ballot_base.specs.Service.{added, commit, commit_at, proposed}
use Rattle.machine.specs.Machine.{replay}
use Rattle.broker_spec.specs.declared.command.Command.{Command}
use Rattle.broker_spec.specs.declared.command.Command.TheVariants as commands
use Rattle.world_base.specs.declared.node_connections.connection.ConnectionStage.TheVariants.{Proposed}
use Rattle.world_base.specs.declared.node_core.item.Item.TheVariants.{Opened, Bytes}
use Rattle.world_base.specs.node_connections.Connections.{fresh}
use Rattle.world_base.specs.node_core.Core.{CoreState, opening_core, rules}
use Rattle.world_base.specs.node_core.FailedConnections.{reports_failed}
use Rattle.world_base.specs.node_core.PortOutput.{hands_over}
use Rattle.world_base.specs.node_core.PacketInput.{changes, reads_next}
use Rattle.world_base.specs.node_core.Step.{with_next_connection, settled}
use Rattle.world_base.specs.node_core.Effects.{changes_named, proposes, repeated}
use Rattle.headline.specs.node_moves.Moves.{done}
use Rattle.headline.specs.node_moves.Moves.NodeCall.{takes, hands_out}
use Rattle.exactly_once.specs.Rows.{asks_for_news, news, writer}
use Rattle.broker_spec.specs.Connection.{first_connection}
use Rattle.headline.specs.Rows.{list_done, one_node, said}
use Rattle.headline.proofs.RowGoes.{the_port}

abbrev pub core_at_first : CoreState
core_at_first = opening_core 1 one_node

abbrev pub core_opened : CoreState
core_opened = record core_at_first { last_name = first_connection; connections = fresh the_port first_connection ∷ [] }

-- it has done these commands, and has these bytes to hand over
abbrev pub serving : List Command → List ℕ → CoreState
serving log pending =
    record core_opened {
      replica = record core_opened.replica {
        state = record core_opened.replica.state { log = record { base = 0; snapshot = []; rest = log }; committed = length log; machine = replay rules log };
      };
      connections = record (fresh the_port first_connection) { stage = Proposed; pending = pending } ∷ [];
    }

-- ---- packets, and the commands that they become

abbrev pub connect : Packet
connect = packets.Connect (record { client = writer; clean = false; keep_alive = 0 })

abbrev pub connack : Packet
connack = packets.Connack (connacks.Accepted false)

abbrev pub subscribe : Packet
subscribe = packets.Subscribe asks_for_news

abbrev pub suback : Packet
suback = packets.Suback (record { id = 1; codes = codes.Granted qos_levels.ExactlyOnce ∷ [] })

abbrev pub publish : Packet
publish = packets.Publish (publish_for false 1 news)

abbrev pub list_connected : List Command
list_connected = commands.Connect first_connection writer false ∷ []

abbrev pub list_subscribed : List Command
list_subscribed = list_connected ++ said subscribe ∷ []

abbrev pub list_published : List Command
list_published = list_subscribed ++ said publish ∷ []

abbrev pub list_released : List Command
list_released = list_published ++ said (packets.Pubrel 1) ∷ said (packets.Pubrec 1) ∷ []

-- ---- its turns

pub it_opens : (done (takes (Opened the_port 0)) core_at_first).core ≡ core_opened
unfolding with_next_connection settled repeated reports_failed
it_opens = refl

pub it_connects : (done (takes (Bytes the_port (spelling connect) 0)) core_opened).core ≡ serving list_connected (spelling connack)
unfolding settled repeated reports_failed changes changes_named reads_next proposes verdict connect_of spelling proposed added commit commit_at number_at text_at length_at is_utf8 chars encode
it_connects = refl

pub it_grants : (done (takes (Bytes the_port (spelling subscribe) 0)) (serving list_connected [])).core ≡ serving list_subscribed (spelling suback)
unfolding settled repeated reports_failed changes changes_named reads_next proposes verdict subscribe_of subscription_at items_of id_at filter_at spelling proposed added commit commit_at number_at text_at length_at is_utf8 chars encode
it_grants = refl

pub it_takes : (done (takes (Bytes the_port (spelling publish) 0)) (serving list_subscribed [])).core ≡ serving list_published (spelling (packets.Pubrec 1) ++ spelling publish)
unfolding settled repeated reports_failed changes changes_named reads_next proposes verdict publish_read delivery_at id_at topic_at spelling proposed added commit commit_at number_at text_at length_at is_utf8 chars encode
it_takes = refl

pub it_hands : (log : List Command) (pending : List ℕ) → (done (hands_out the_port) (serving log pending)).core ≡ serving log []
unfolding hands_over
it_hands log pending = refl

-- the PUBREL of what was published, and the PUBREC of what came back, in one piece
abbrev pub both : List ℕ
both = spelling (packets.Pubrel 1) ++ spelling (packets.Pubrec 1)

pub it_releases : (done (takes (Bytes the_port both 0)) (serving list_published [])).core ≡ serving list_released (spelling (packets.Pubcomp 1) ++ spelling (packets.Pubrel 1))
unfolding settled repeated reports_failed changes changes_named reads_next proposes verdict id_alone_of id_at spelling proposed added commit commit_at number_at length_at
it_releases = refl

pub it_completes : (done (takes (Bytes the_port (spelling (packets.Pubcomp 1)) 0)) (serving list_released [])).core ≡ serving list_done []
unfolding settled repeated reports_failed changes changes_named reads_next proposes verdict id_alone_of id_at spelling proposed added commit commit_at number_at length_at
it_completes = refl
