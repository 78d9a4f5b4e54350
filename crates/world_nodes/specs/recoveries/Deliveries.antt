-- Messages that reach nodes with connections, each by its number and without losses, and what they
-- do to the replicas.
use Rattle.std.specs.Prelude.{◌≡◌, ◌⊎◌, ◌<◌, ℕ, ◌+◌, false, List, [], ◌∷◌, map, Some, slice_get}
use Rattle.ballot_base.specs.declared.message.Body.TheVariants.{Activate}
use Rattle.ballot_base.specs.declared.message.Message.{Message}
use Rattle.broker_spec.specs.declared.command.Command.{Command}
use Rattle.broker_spec.specs.declared.command.Output.{Output}
use Rattle.broker_base.specs.State.{State}
use Rattle.headline.specs.node_group.Group.{replica_of}
use Rattle.headline.specs.node_moves.Moves.NodeCall.{takes, hands_out}
use Rattle.agreement.specs.cut_logs.Moments.{Moment}
use Rattle.world_base.specs.declared.node_core.item.Item.TheVariants.{Peer}
use Rattle.world_base.specs.declared.node_connections.port.Port.{Port}
use Rattle.world_base.specs.node_core.Core.{CountedCore, rules}
use Rattle.world_nodes.specs.ExactSteps.{after_answer, after_node_call}
use Rattle.world_nodes.specs.Nodes.{NodesState, cores_of}
use Rattle.recovery.specs.replicas.CutDeliveries.{Delivered}
use Rattle.recovery.specs.one_node.Delivery.{ReportsItsLosses}

-- the messages of these numbers come, one after another, to nodes that run or to the master; in
-- between nodes hand over bytes
pub data Come : NodesState → List ℕ → NodesState → Type 0 where
  -- no message is left
  all_came : {state : NodesState} → Come state [] state
  -- the next one comes to a node that runs
  to_node : {state new : NodesState} {numbers : List ℕ} (number at : ℕ) (node : CountedCore)
      (message : Message Command) → slice_get state.sent number ≡ Some (at + 1, message) →
      slice_get state.nodes at ≡ Some node → node.core.replica.state.stopped ≡ false →
      Come (after_node_call at node (takes (Peer message)) state) numbers new →
      Come state (number ∷ numbers) new
  -- it is an Activate, and comes to the master
  to_master : {state new : NodesState} {numbers : List ℕ} (number from ballot : ℕ) →
      slice_get state.sent number ≡ Some (0, record { from = from; body = Activate ballot }) →
      Come (after_answer from ballot state) numbers new → Come state (number ∷ numbers) new
  -- a node hands over bytes of a port
  hands : {state new : NodesState} {numbers : List ℕ} (at : ℕ) (node : CountedCore) (port : Port) →
      slice_get state.nodes at ≡ Some node →
      Come (after_node_call at node (hands_out port) state) numbers new → Come state numbers new

-- the master, the replicas, the messages and the record of the nodes are those of the moment
pub record IsSeen (moment : Moment State Command Output) (state : NodesState) : Type 0 where
  pub master : moment.master ≡ state.master
  pub nodes : moment.world.nodes ≡ map replica_of (cores_of state.nodes)
  pub sent : moment.world.sent ≡ state.sent
  pub archive : moment.world.archive ≡ state.archive

-- each node is calm, or has not joined the ballot yet
abbrev pub AreCalm : ℕ → NodesState → Type 0
AreCalm ballot state =
    (at : ℕ) (node : CountedCore) → slice_get state.nodes at ≡ Some node →
    ReportsItsLosses node.core ⊎ (node.core.replica.state.joined < ballot)

-- no node has accepted a connection in between
abbrev pub KeepNames : NodesState → NodesState → Type 0
KeepNames old new =
    (at : ℕ) (node later : CountedCore) → slice_get old.nodes at ≡ Some node →
    slice_get new.nodes at ≡ Some later → later.core.last_name ≡ node.core.last_name

-- nodes to which the messages come that are delivered in the model are seen as the model says
pub record AreFollowed (ballot : ℕ) (moment : Moment State Command Output)
    (old new : NodesState) : Type 0 where
  pub seen : IsSeen moment new
  pub calm : AreCalm ballot new
  pub names : KeepNames old new

-- whichever way the model delivers messages, calm nodes to which they come are seen as it says
abbrev pub DeliveriesAreFollowed : Type 0
DeliveriesAreFollowed =
    (ballot : ℕ) (earlier later : Moment State Command Output) (numbers : List ℕ) →
    Delivered rules ballot earlier numbers later →
    (old new : NodesState) → Come old numbers new →
    IsSeen earlier old → AreCalm ballot old → AreFollowed ballot later old new
