-- Definitions for the private functions of nodes.
use Rattle.std.specs.Prelude.{◌≡◌, ◌<◌, ℕ, Bool, true, ◌-◌, ◌++◌, List, [], Some, None, length, map, slice_get}
use Rattle.std.specs.List.{find}
use Rattle.lists.specs.Lists.{In}
use Rattle.ballot_base.specs.Replica.{ReplicaState}
use Rattle.broker_base.specs.State.{State}
use Rattle.agreement.specs.cut_logs.World.{messages}
use Rattle.ballot_base.specs.declared.message.Effect.{Effect}
use Rattle.ballot_base.specs.Losses.{Thinned, greatest_count}
use Rattle.ballot_base.specs.declared.message.Message.{Message}
use Rattle.broker_spec.specs.declared.command.Command.{Command}
use Rattle.broker_spec.specs.declared.command.Output.{Output}
use Rattle.world_base.specs.declared.node_core.item.Item.{Item}
use Rattle.world_base.specs.declared.node_core.item.Item.TheVariants.{Cut, Peer}
use Rattle.world_base.specs.node_core.Core.{CountedCore, rules}
use Rattle.world_base.specs.node_connections.Connections.{has_failed}
use Rattle.world_base.specs.node_core.Losses.{DoesNothing, ItemTakesNoMemory}
use Rattle.world_base.specs.node_core.LossyStep.{RunsOn}
use Rattle.world_base.specs.node_core.Step.{node_step}
use Rattle.master.specs.Inside.{IsGroup, AcknowledgedIn, held_by}
use Rattle.headline.specs.node_group.Group.{Group, moment_of_nodes, replica_of}
use Rattle.world_nodes.specs.RunningNodes.{running}
use Rattle.world_nodes.specs.Nodes.{NodesState, NodesStandFor, cores_of}

-- messages were kept after those that were sent, except some that were lost
pub record KeepsMessages (given : List (Effect Command Output))
    (sent more : List (ℕ × Message Command)) (whole : Bool) : Type 0 where
  pub kept : List (Effect Command Output)
  pub thinned : Thinned kept given
  pub exact : whole ≡ true → kept ≡ given
  pub nothing : given ≡ [] → whole ≡ true
  pub is : more ≡ sent ++ messages kept

-- the node of a number runs, at an index
pub record RunsAt (nodes : List CountedCore) (node at : ℕ) : Type 0 where
  pub core : CountedCore
  pub index : at ≡ node - 1
  pub positive : 0 < node
  pub below : at < length nodes
  pub stands : slice_get nodes at ≡ Some core
  pub runs : running nodes node ≡ Some core

-- what a node takes from others was sent to it; a cut is not taken in this way, since the record
-- has it first
abbrev pub ItemWasSent : ℕ → Item → List (ℕ × Message Command) → Type 0
ItemWasSent node (Peer message) sent = In (node, message) sent
ItemWasSent node Cut sent = ⊥
ItemWasSent node _ sent = Unit {0}

-- the message of this number was sent to the node that runs at this index, and ignores it
pub record IsPassedOver (at number : ℕ) (nodes : NodesState) : Type 0 where
  pub node : ℕ
  pub message : Message Command
  pub sent : slice_get nodes.sent number ≡ Some (node, message)
  pub runs : RunsAt nodes.nodes node at
  pub nothing : DoesNothing (Peer message) runs.core.core

-- a node took an item, perhaps with losses, and without any if the step was whole, for example if
-- the item takes no memory
pub record TookItem (old : CountedCore) (item : Item) (new : CountedCore)
    (sent more : List (ℕ × Message Command)) (whole : Bool) : Type 0 where
  pub wanted : List (Effect Command Output)
  pub kept : List (Effect Command Output)
  pub runs : RunsOn item old.core new.core wanted
  pub thinned : Thinned kept wanted
  pub is : more ≡ sent ++ messages kept
  pub exact : whole ≡ true →
      (new ≡ record old { core = (node_step item old.core).core })
      × (kept ≡ (node_step item old.core).messages)
  pub rests : ItemTakesNoMemory item old.core → find has_failed old.core.connections ≡ None →
      old.losses < greatest_count → whole ≡ true

-- A history of the model leads to the nodes, and the counters of the active and of the waiting
-- ballot agree with their messages.
pub record HaveCounted (nodes : NodesState) (told next : AcknowledgedIn) : Type 0 where
  pub group : Group
  pub stands : NodesStandFor group nodes
  pub counts : IsGroup rules (moment_of_nodes group) told next

-- the replicas of nodes
abbrev pub replicas_of : List CountedCore → List (ReplicaState State Command)
replicas_of nodes = map replica_of (cores_of nodes)

-- how long the log of the node of a number is; 0 if it does not exist
abbrev pub held_at : List CountedCore → ℕ → ℕ
held_at nodes node = held_by (slice_get (replicas_of nodes) (node - 1))
