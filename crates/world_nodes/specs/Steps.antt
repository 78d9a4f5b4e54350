-- Steps of nodes in which memory may have run out, and how these are counted.
use Rattle.std.specs.Prelude.{◌≡◌, ◌⊎◌, ◌<◌, ◌-◌, ◌++◌, ℕ, zero, suc, nat_lt, if◌then◌else◌, List, Option, Some, None, slice_set}
use Rattle.agreement.specs.cut_logs.World.{messages, recorded}
use Rattle.ballot_base.specs.declared.message.Effect.{Effect}
use Rattle.ballot_base.specs.declared.message.Body.{Body}
use Rattle.ballot_base.specs.declared.message.Body.TheVariants.{Activate}
use Rattle.ballot_base.specs.declared.config.Config.{Config}
use Rattle.ballot_base.specs.Losses.{Thinned, greatest_count, one_more}
use Rattle.ballot_base.specs.declared.message.Message.{Message}
use Rattle.broker_spec.specs.declared.command.Command.{Command}
use Rattle.broker_spec.specs.declared.command.Output.{Output}
use Rattle.world_base.specs.declared.node_core.item.Item.{Item}
use Rattle.world_base.specs.declared.node_core.item.Item.TheVariants.{Cut, Expel, Peer}
use Rattle.world_base.specs.node_core.Core.{CountedCore}
use Rattle.world_base.specs.node_core.LossyStep.{RunsOn}
use Rattle.headline.specs.node_moves.Moves.NodeCall.{takes}
use Rattle.world_nodes.specs.ExactSteps.{after_answer, after_node_call, after_giving}
use Rattle.world_nodes.specs.RunningNodes.{cutting, running}
use Rattle.world_nodes.specs.Nodes.{NodesState}

-- the count is exact as long as it is below its greatest number
abbrev pub NodesLoseNothing : NodesState → NodesState → Type 0
NodesLoseNothing old new = (new.losses ≡ old.losses) × (old.losses < greatest_count)

-- nothing happened, except that one loss more is counted
abbrev pub nodes_with_loss : NodesState → NodesState
nodes_with_loss state = record state { losses = one_more state.losses }

-- The node at this index did a step on the item with losses, as a node may, and some of its
-- messages are missing. No other node, nor the master, has changed.
pub record ActsWithLosses (at : ℕ) (item : Item) (core : CountedCore)
    (old new : NodesState) : Type 0 where
  pub node : CountedCore
  pub wanted : List (Effect Command Output)
  pub kept : List (Effect Command Output)
  pub runs : RunsOn item core.core node.core wanted
  pub thinned : Thinned kept wanted
  pub is : new ≡ record old {
    nodes = slice_set old.nodes at node;
    sent = old.sent ++ messages kept;
    losses = one_more old.losses;
  }

-- the record after a step in which a log may have been cut: one that was not cut leaves it as it
-- was
abbrev pub recorded_if_cut : List Command → CountedCore → CountedCore → List Command
recorded_if_cut archive old new =
    if nat_lt old.core.replica.state.log.base new.core.replica.state.log.base
    then recorded archive old.core.replica.state
    else archive

-- A node takes a cut with losses: if its log was cut, what it had applied is in the record.
pub record CutsWithLosses (at : ℕ) (core : CountedCore) (old new : NodesState) : Type 0 where
  pub node : CountedCore
  pub wanted : List (Effect Command Output)
  pub kept : List (Effect Command Output)
  pub runs : RunsOn Cut core.core node.core wanted
  pub thinned : Thinned kept wanted
  pub is : new ≡ record old {
    nodes = slice_set old.nodes at node;
    sent = old.sent ++ messages kept;
    archive = recorded_if_cut old.archive core node;
    losses = one_more old.losses;
  }

-- the node of this number, which runs, takes the item: exactly, or with losses that are counted
pub record NodeItemOrLost (node : ℕ) (item : Item) (old new : NodesState) : Type 0 where
  pub core : CountedCore
  pub runs : running old.nodes node ≡ Some core
  pub way : (new ≡ after_node_call (node - 1) core (takes item) old)
      ⊎ ActsWithLosses (node - 1) item core old new

-- An Expel of a client is proposed by a node, exactly or with losses; or there is no memory for it,
-- and that is counted.
abbrev pub NodeExpelOrLost : List ℕ → ℕ → NodesState → NodesState → Type 0
NodeExpelOrLost client node old new =
    NodeItemOrLost node (Expel client) old new ⊎ (new ≡ nodes_with_loss old)

-- The node of this number, which had something to cut, took that item: exactly, or with losses that
-- are counted. Or there was no memory for the record, and that is counted.
pub record NodeCutOrLost (node : ℕ) (old new : NodesState) : Type 0 where
  pub core : CountedCore
  pub cuts : cutting old.nodes node ≡ Some core
  pub way : (new ≡ record (after_node_call (node - 1) core (takes Cut) old) {
    archive = recorded old.archive core.core.replica.state;
  })
      ⊎ CutsWithLosses (node - 1) core old new
      ⊎ (new ≡ nodes_with_loss old)

-- the master's message is lost, and that is counted
abbrev pub unheard : NodesState → NodesState → NodesState
unheard after state = record state { master = after.master; losses = one_more state.losses }

-- The master assigned a ballot, and sent it to its primary. Or it was not sent, or nothing
-- happened: both are counted.
abbrev pub NewBallotOrLost : Config → NodesState → NodesState → Type 0
NewBallotOrLost config old new =
    (new ≡ after_giving config old) ⊎ (new ≡ unheard (after_giving config old) old)
    ⊎ (new ≡ nodes_with_loss old)

-- The master answered a node that asked it to activate a ballot. Or the answer was lost, and that
-- is counted. It ignores every other message.
abbrev pub MasterAnswerOrLost : ℕ → Body Command → NodesState → NodesState → Type 0
MasterAnswerOrLost from (Activate ballot) old new =
    (new ≡ after_answer from ballot old) ⊎ (new ≡ unheard (after_answer from ballot old) old)
MasterAnswerOrLost from _ old new = new ≡ old

-- A message that was sent came to the master, or to a node, which took it. Or there was no memory
-- for it, and that is counted.
abbrev pub DeliveryOrLost : Option (ℕ × Message Command) → NodesState → NodesState → Type 0
DeliveryOrLost None old new = ⊥
DeliveryOrLost (Some (zero, message)) old new = MasterAnswerOrLost message.from message.body old new
DeliveryOrLost (Some (suc at, message)) old new =
    NodeItemOrLost (suc at) (Peer message) old new ⊎ (new ≡ nodes_with_loss old)
