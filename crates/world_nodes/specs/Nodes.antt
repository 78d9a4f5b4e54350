-- Nodes with their master and every message ever sent, and which groups of the model correspond to
-- them.
use Rattle.std.specs.Prelude.{◌≡◌, ℕ, List, map}
use Rattle.ballot_base.specs.declared.message.Message.{Message}
use Rattle.agreement.specs.MasterState.{MasterState}
use Rattle.broker_spec.specs.declared.command.Command.{Command}
use Rattle.world_base.specs.node_core.Core.{CoreState, CountedCore}
use Rattle.headline.specs.node_group.Group.{Group}

-- Node n + 1 is at index n; all messages that were ever sent stay, each with its receiver. The
-- record has the places below the bases of all logs. Losses count the steps in which something was
-- lost (saturates at 2^64 - 1).
pub record NodesState : Type 0 where
  pub master : MasterState
  pub nodes : List CountedCore
  pub sent : List (ℕ × Message Command)
  pub archive : List Command
  pub losses : ℕ

-- nodes without their counts of losses
abbrev pub cores_of : List CountedCore → List CoreState
cores_of nodes = map (λ (node : CountedCore). node.core) nodes

-- A group corresponds to nodes: it has their master, what each of them keeps, their messages and
-- their record. Which outputs its replicas returned before is history: no field keeps it.
pub record NodesStandFor (group : Group) (state : NodesState) : Type 0 where
  pub master : group.master ≡ state.master
  pub nodes : group.nodes ≡ cores_of state.nodes
  pub sent : group.sent ≡ state.sent
  pub archive : group.archive ≡ state.archive
