-- A client that reconnects: its connection opens at the new primary and awaits its CONNECT.
use Rattle.std.specs.Prelude.{◌≡◌, ◌<◌, ◌≤◌, ℕ, ◌+◌, true, false, List, [], None, Some, slice_get}
use Rattle.std.specs.List.{find, list_any}
use Rattle.broker_spec.specs.declared.command.Command.{Command}
use Rattle.broker_spec.specs.Commands.{past_of, usual_limits}
use Rattle.broker_spec.specs.Connection.{ConnectionName}
use Rattle.machine.specs.Ballots.{max_ballot}
use Rattle.broker_spec.specs.declared.command.Output.{Output}
use Rattle.broker_spec.specs.Sessions.{clean_session_of}
use Rattle.broker_spec.specs.Place.{Client}
use Rattle.broker_base.specs.State.{State}
use Rattle.recovery.specs.one_node.AwaitedAnswer.{AwaitsConnect}
use Rattle.headline.specs.node_group.Group.{replica_of}
use Rattle.headline.specs.node_moves.Moves.NodeCall.{takes}
use Rattle.agreement.specs.cut_logs.Moments.{Moment}
use Rattle.agreement.specs.cut_logs.Whole.{whole}
use Rattle.world_base.specs.declared.node_core.item.Item.TheVariants.{Opened}
use Rattle.world_base.specs.declared.node_connections.port.Port.{Port}
use Rattle.world_base.specs.node_connections.Connections.{is_at, is_open_named}
use Rattle.world_base.specs.node_core.Core.{CountedCore}
use Rattle.world_nodes.specs.RecoveryChecks.{welcomes_back}
use Rattle.world_nodes.specs.ExactSteps.{after_node_call}
use Rattle.world_nodes.specs.Nodes.{NodesState}
use Rattle.recovery.specs.replicas.LedStates.{LeadsWhole}
use Rattle.world_nodes.specs.recoveries.Deliveries.{AreCalm, Come, IsSeen}

-- the first name that is given in a ballot
abbrev pub first_of : ℕ → ConnectionName
first_of ballot = record { ballot = ballot; count = 1 }

-- the node at an index leads a ballot in which it accepted no connection yet, and lists no
-- connection at this port
pub record CanOpen (moment : Moment State Command Output) (state : NodesState) (ballot index : ℕ)
    (node : CountedCore) (others_of : List ℕ) (log : List Command)
    (port : Port) : Type 0 where
  pub seen : IsSeen moment state
  pub calm : AreCalm ballot state
  pub stands : slice_get state.nodes index ≡ Some node
  pub serves : LeadsWhole ballot log others_of (index + 1)
      (whole moment.world.archive (replica_of node.core))
  pub low : node.core.last_name.ballot < ballot
  pub most : ballot ≤ max_ballot
  pub free : list_any (is_at port) node.core.connections ≡ false
  pub unnamed : find (is_open_named (first_of ballot)) node.core.connections ≡ None

-- the node at an index still leads the ballot, and a connection of the first name awaits its
-- CONNECT at this port
pub record IsOpened (moment : Moment State Command Output) (state : NodesState) (ballot index : ℕ)
    (others_of : List ℕ) (log : List Command) (port : Port) : Type 0 where
  pub seen : IsSeen moment state
  pub calm : AreCalm ballot state
  pub node : CountedCore
  pub stands : slice_get state.nodes index ≡ Some node
  pub serves : LeadsWhole ballot log others_of (index + 1)
      (whole moment.world.archive (replica_of node.core))
  pub awaits : AwaitsConnect port (first_of ballot) node.core

-- once it was opened, a connection awaits its CONNECT, whatever bytes are handed over then
abbrev pub ConnectionsOpenFirst : Type 0
ConnectionsOpenFirst =
    (moment : Moment State Command Output) (state new : NodesState) (ballot index : ℕ)
    (node : CountedCore) (others_of : List ℕ) (log : List Command)
    (port : Port) (now : ℕ) → CanOpen moment state ballot index node others_of log port →
    Come (after_node_call index node (takes (Opened port now)) state) [] new →
    IsOpened moment new ballot index others_of log port

-- a client would be answered with session present after these commands exactly if it has a session
-- that is not clean
abbrev pub WelcomedAreKept : Type 0
WelcomedAreKept =
    (client : Client) (list : List Command) → ((welcomes_back client list ≡ true) →
    (clean_session_of (past_of usual_limits list) client ≡ Some false))
    × ((clean_session_of (past_of usual_limits list) client ≡ Some false) →
    (welcomes_back client list ≡ true))
