-- One step of a node on a message for which its replica has no output.
use Rattle.std.specs.Prelude.{◌≡◌, ◌⊎◌, false, []}
use Rattle.lists.specs.Lists.{Each}
use Rattle.ballot_base.specs.declared.message.Message.{Message}
use Rattle.ballot_base.specs.Protocol.{received}
use Rattle.ballot_base.specs.Replica.{is_active}
use Rattle.ballot_base.specs.StepOutcome.{Outcome}
use Rattle.agreement.specs.cut_logs.World.{outputs}
use Rattle.broker_spec.specs.declared.command.Command.{Command}
use Rattle.broker_spec.specs.declared.command.Output.{Output}
use Rattle.broker_base.specs.State.{State}
use Rattle.world_base.specs.declared.node_connections.connection.Connection.{Connection}
use Rattle.world_base.specs.declared.node_core.item.Item.TheVariants.{Peer}
use Rattle.world_base.specs.node_connections.Connections.{has_failed}
use Rattle.world_base.specs.node_core.Core.{CoreState, StepOutcome, rules}
use Rattle.world_base.specs.node_core.Step.{node_step}

-- what a message does to the node's replica
abbrev pub heard_by : CoreState → Message Command → Outcome State Command Output
heard_by core message = received rules core.replica.state message.from message.body

-- the loss of each connection that was closed because there was no room for its output is reported
-- to the broker
abbrev pub ReportsItsLosses : CoreState → Type 0
ReportsItsLosses core =
    Each (λ (connection : Connection). has_failed connection ≡ false) core.connections

-- the node's replica is as its own step leaves it; the node sends exactly the messages of that
-- step, and accepts no connection
pub record IsDelivery (core : CoreState) (replica_outcome : Outcome State Command Output)
    (outcome : StepOutcome) : Type 0 where
  pub replica : outcome.core.replica ≡ record core.replica { state = replica_outcome.state }
  pub last_name : outcome.core.last_name ≡ core.last_name
  pub messages : outcome.messages ≡ replica_outcome.effects
  pub calm : ReportsItsLosses outcome.core

-- A node's step on a message is a delivery, if the replica runs and has no output, and the node is
-- calm or is no active primary afterwards.
abbrev pub AStepIsADelivery : Type 0
AStepIsADelivery =
    (core : CoreState) (message : Message Command) → core.replica.state.stopped ≡ false →
    outputs (heard_by core message).effects ≡ [] →
    ReportsItsLosses core ⊎ (is_active (heard_by core message).state.role ≡ false) →
    IsDelivery core (heard_by core message) (node_step (Peer message) core)
