-- A client that reconnects to the new primary: its CONNECT and the answer.
use Rattle.std.specs.Prelude.{◌≡◌, ◌<◌, ℕ, ◌+◌, ◌*◌, true, false, List, [], ◌∷◌, ◌++◌, length, slice_get, Some, Ok}
use Rattle.lists.specs.Lists.{In}
use Rattle.ballot_base.specs.declared.message.Body.TheVariants.{Held}
use Rattle.ballot_base.specs.declared.config.Config.{Config}
use Rattle.ballot_base.specs.declared.message.Message.{Message}
use Rattle.ballot_base.specs.Service.{max_places}
use Rattle.packet.specs.declared.connack.Connack.TheVariants as connacks
use Rattle.packet.specs.declared.connect.Connect.{Connect}
use Rattle.packet.specs.declared.packet.Packet.{Packet}
use Rattle.packet.specs.declared.packet.Packet.TheVariants as packets
use Rattle.packet.specs.Spelling.{spelling}
use Rattle.packet.specs.Verdict.{verdict}
use Rattle.broker_spec.specs.declared.command.Command.{Command}
use Rattle.broker_spec.specs.declared.command.Command.TheVariants as commands
use Rattle.broker_spec.specs.Commands.{past_of, usual_limits}
use Rattle.broker_spec.specs.Connection.{ConnectionName}
use Rattle.broker_spec.specs.declared.command.Output.{Output}
use Rattle.broker_spec.specs.Sessions.{clean_session_of}
use Rattle.broker_base.specs.State.{State}
use Rattle.recovery.specs.one_node.FirstAnswer.{PutsOutFirst}
use Rattle.recovery.specs.one_node.AwaitedAnswer.{AwaitsConnect}
use Rattle.headline.specs.node_group.Group.{replica_of}
use Rattle.headline.specs.node_moves.Moves.NodeCall.{takes}
use Rattle.agreement.specs.cut_logs.Moments.{Moment, Moments, whole_moment}
use Rattle.agreement.specs.cut_logs.Whole.{whole}
use Rattle.world_base.specs.declared.node_core.item.Item.TheVariants.{Bytes, Peer}
use Rattle.world_base.specs.declared.node_connections.port.Port.{Port}
use Rattle.world_base.specs.node_core.Core.{CountedCore, rules}
use Rattle.world_base.specs.node_core.Step.{node_step}
use Rattle.world_nodes.specs.ExactSteps.{after_node_call}
use Rattle.world_nodes.specs.Nodes.{NodesState}
use Rattle.recovery.specs.replicas.Deliveries.{NumbersAreApart, NodeIs, numbers_from}
use Rattle.recovery.specs.replicas.LedStates.{Follows, LeadsWhole}
use Rattle.world_nodes.specs.recoveries.Deliveries.{AreCalm, Come, IsSeen}

-- CONNACK 0 with session present (MQTT 3.2.2.2)
abbrev pub session_present : Packet
session_present = packets.Connack (connacks.Accepted true)

-- the log of a ballot that began after these commands
abbrev pub begun_log : List Command → ℕ → List Command
begun_log list start = list ++ commands.Start start ∷ []

-- the node at an index leads a ballot, with the commands of this list before the ballot's start; a
-- connection awaits its CONNECT there; and the bytes are a CONNECT of a client whose session exists
-- and is not clean
pub record CanAsk (moment : Moment State Command Output) (state : NodesState) (ballot index : ℕ)
    (node : CountedCore) (others_of : List ℕ) (port : Port)
    (name : ConnectionName) (list : List Command) (start : ℕ) (piece : List ℕ) (connect : Connect)
    : Type 0 where
  pub seen : IsSeen moment state
  pub calm : AreCalm ballot state
  pub stands : slice_get state.nodes index ≡ Some node
  pub serves : LeadsWhole ballot (begun_log list start) others_of (index + 1)
      (whole moment.world.archive (replica_of node.core))
  pub room : length (begun_log list start) < max_places
  pub awaits : AwaitsConnect port name node.core
  pub session : clean_session_of (past_of usual_limits list) connect.client ≡ Some false
  pub is_connect : verdict piece ≡ Ok (packets.Connect connect, [])
  pub kept : connect.clean ≡ false

-- a primary that is the sole member queues the CONNACK first when it reads the bytes of the CONNECT
abbrev pub SoleMemberAnswersTheClient : Type 0
SoleMemberAnswersTheClient =
    (config : Config) (moment : Moment State Command Output)
    (moments : List (Moment State Command Output)) → Moments rules config (moment ∷ moments) →
    (state : NodesState) (ballot index : ℕ) (node : CountedCore) (port : Port)
    (name : ConnectionName) (list : List Command) (start now : ℕ) (piece : List ℕ)
    (connect : Connect) →
    CanAsk moment state ballot index node [] port name list start piece connect →
    PutsOutFirst port (spelling session_present) (node_step (Bytes port piece now) node.core).core

-- the last answer of another member
abbrev pub last_answer : ℕ → ℕ → List Command → Message Command
last_answer last ballot log = record { from = last; body = Held ballot (length log + 1) }

-- this message was sent to the node at the index, which runs, and queues the CONNACK first when the
-- message comes
pub record PutsOutAtLast (index number : ℕ) (port : Port) (message : Message Command)
    (state : NodesState) : Type 0 where
  pub node : CountedCore
  pub stands : slice_get state.nodes index ≡ Some node
  pub runs : node.core.replica.state.stopped ≡ false
  pub comes : slice_get state.sent number ≡ Some (index + 1, message)
  pub puts : PutsOutFirst port (spelling session_present) (node_step (Peer message) node.core).core

-- the other members are sent the command, and answer; once all answers except the last have come,
-- the last one makes the primary queue the CONNACK first
abbrev pub OthersLetTheClientBeAnswered : Type 0
OthersLetTheClientBeAnswered =
    (config : Config) (moment : Moment State Command Output)
    (moments : List (Moment State Command Output)) → Moments rules config (moment ∷ moments) →
    (state new : NodesState) (ballot index : ℕ) (node : CountedCore) (front : List ℕ) (last : ℕ)
    (port : Port) (name : ConnectionName) (list : List Command) (start now : ℕ) (piece : List ℕ)
    (connect : Connect) →
    CanAsk moment state ballot index node (front ++ last ∷ []) port name list start piece connect →
    NumbersAreApart (front ++ last ∷ []) → (In (index + 1) (front ++ last ∷ []) → ⊥) →
    ((member : ℕ) → In member (front ++ last ∷ []) →
    NodeIs (Follows ballot (begun_log list start)) (whole_moment moment).world.nodes member) →
    Come (after_node_call index node (takes (Bytes port piece now)) state)
    (numbers_from (length state.sent) (length front + 1)
    ++ numbers_from (length state.sent + (length front + 1)) (length front)) new →
    PutsOutAtLast index (length state.sent + 2 * length front + 1) port
    (last_answer last ballot (begun_log list start)) new
