-- How each group that corresponds to the nodes moves with them, even if memory runs out.
use Rattle.std.specs.Prelude.{◌≡◌, ◌⊎◌, ℕ, zero, suc, Option, Some, None}
use Rattle.ballot_base.specs.declared.message.Body.{Body}
use Rattle.ballot_base.specs.declared.message.Body.TheVariants.{Activate}
use Rattle.ballot_base.specs.declared.message.Message.{Message}
use Rattle.broker_spec.specs.declared.command.Command.{Command}
use Rattle.world_base.specs.declared.node_core.item.Item.TheVariants.{Peer}
use Rattle.headline.specs.node_moves.Moves.{NodeCall}
use Rattle.headline.specs.node_moves.Moves.NodeCall.{takes}
use Rattle.headline.specs.node_group.Group.{Group}
use Rattle.world_nodes.specs.ExactSteps.{NodeDoesCall, GoesBy}
use Rattle.world_nodes.specs.Nodes.{NodesState, NodesStandFor}
use Rattle.world_nodes.specs.Steps.{nodes_with_loss}

-- by a call of the node at this index; or nothing happened, and that is counted
abbrev pub NodeCallOrLost : ℕ → NodeCall → NodesState → NodesState → Type 0
NodeCallOrLost at node_call old new =
    NodeDoesCall at node_call old new ⊎ (new ≡ nodes_with_loss old)

-- by a step of the master, whose message may be lost; or nothing happened
abbrev pub MasterGoes : NodesState → NodesState → Type 0
MasterGoes old new = (group : Group) → NodesStandFor group old → GoesBy None group new

-- the master answers; or memory ran out, and that is counted
abbrev pub MasterStepOrLost : NodesState → NodesState → Type 0
MasterStepOrLost old new = MasterGoes old new ⊎ (new ≡ nodes_with_loss old)

-- by a message that reaches the master, or a node
abbrev pub MasterHears : Body Command → NodesState → NodesState → Type 0
MasterHears (Activate ballot) old new = MasterGoes old new
MasterHears _ old new = new ≡ old

-- a message comes to the master (number 0) or to a node; or memory ran out, and that is counted
abbrev pub GroupDeliveryOrLost : Option (ℕ × Message Command) → NodesState → NodesState → Type 0
GroupDeliveryOrLost None old new = ⊥
GroupDeliveryOrLost (Some (zero, message)) old new = MasterHears message.body old new
GroupDeliveryOrLost (Some (suc at, message)) old new =
    NodeCallOrLost at (takes (Peer message)) old new
