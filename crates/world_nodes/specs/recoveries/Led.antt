-- The recovery of nodes: an Assign, and the messages that follow, by their numbers.
use Rattle.std.specs.Prelude.{ℕ, ◌+◌, ◌-◌, List, ◌∷◌, length}
use Rattle.ballot_base.specs.declared.config.Config.{Config}
use Rattle.broker_spec.specs.declared.command.Command.{Command}
use Rattle.broker_spec.specs.declared.command.Output.{Output}
use Rattle.broker_base.specs.State.{State}
use Rattle.agreement.specs.cut_logs.Moments.{Moment, Moments, whole_moment}
use Rattle.world_base.specs.node_core.Core.{rules}
use Rattle.world_nodes.specs.ExactSteps.{after_giving}
use Rattle.world_nodes.specs.Nodes.{NodesState}
use Rattle.recovery.specs.replicas.Deliveries.{recovery_messages}
use Rattle.recovery.specs.replicas.Theorems.{CanBeLed}
use Rattle.recovery.specs.replicas.CutTheorems.{LeadsOut}
use Rattle.world_nodes.specs.recoveries.Deliveries.{AreCalm, Come, IsSeen, KeepNames}

-- the nodes are those of the moment that the recovery leads to; each is calm or has not joined the
-- new ballot, and none has accepted a connection
pub record AreLedOut (config : Config) (moments : List (Moment State Command Output))
    (moment : Moment State Command Output) (new : Config) (index : ℕ)
    (log : List Command) (state end : NodesState) : Type 0 where
  pub way : LeadsOut rules config moments moment new index log
  pub seen : IsSeen way.last end
  pub calm : AreCalm (moment.master.given + 1) end
  pub names : KeepNames state end

-- whatever the history of nodes that may be led to a new ballot, whichever logs they cut, and
-- whatever connections they keep
abbrev pub NodesAreLedOut : Type 0
NodesAreLedOut =
    (config : Config) (moment : Moment State Command Output)
    (moments : List (Moment State Command Output)) → Moments rules config (moment ∷ moments) →
    (new : Config) (index source : ℕ) (log : List Command) →
    CanBeLed (whole_moment moment) new index source log → (state end : NodesState) →
    IsSeen moment state →
    Come (after_giving new state)
    (recovery_messages (length state.sent) (length state.master.members) index
    (length new.members - 1)) end →
    AreLedOut config (moment ∷ moments) moment new index log state end
