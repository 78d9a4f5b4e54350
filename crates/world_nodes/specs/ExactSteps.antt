-- What nodes and their master do exactly, and how a group that corresponds to them moves with them.
use Rattle.std.specs.Prelude.{◌≡◌, ℕ, zero, suc, ◌-◌, [], ◌∷◌, ◌++◌, List, Option, Some, None, slice_set}
use Rattle.ballot_base.specs.declared.message.Body.{Body}
use Rattle.ballot_base.specs.declared.message.Body.TheVariants.{Activate}
use Rattle.ballot_base.specs.declared.config.Config.{Config}
use Rattle.ballot_base.specs.declared.message.Message.{Message}
use Rattle.ballot_base.specs.StepOutcome.{master}
use Rattle.agreement.specs.cut_logs.Masters.{MasterOutcome, activated, assigned}
use Rattle.agreement.specs.cut_logs.World.{messages, recorded}
use Rattle.broker_spec.specs.declared.command.Command.{Command}
use Rattle.world_base.specs.node_core.Core.{CountedCore}
use Rattle.world_base.specs.declared.node_connections.handed.Handed.{Handed}
use Rattle.world_base.specs.declared.node_core.item.Item.{Item}
use Rattle.world_base.specs.declared.node_core.item.Item.TheVariants.{Cut, Peer}
use Rattle.world_base.specs.declared.node_connections.port.Port.{Port}
use Rattle.world_base.specs.node_connections.PendingOutput.{handed_after, pending_bytes}
use Rattle.world_base.specs.node_core.PortOutput.{listed_at}
use Rattle.headline.specs.node_moves.Moves.{NodeCall, done}
use Rattle.headline.specs.node_moves.Moves.NodeCall.{takes, hands_out}
use Rattle.headline.specs.node_group.Group.{Group}
use Rattle.headline.specs.byte_world.Steps.{DoesCall}
use Rattle.world_nodes.specs.Nodes.{NodesState, NodesStandFor}
use Rattle.world_nodes.specs.RunningNodes.{running, numbered_node, cutting}

-- ---- a call of a node

-- the nodes after a call of the one at this index
abbrev pub after_node_call : ℕ → CountedCore → NodeCall → NodesState → NodesState
after_node_call at node node_call state =
    record state {
      nodes = slice_set state.nodes at (record node { core = (done node_call node.core).core });
      sent = state.sent ++ messages (done node_call node.core).messages;
    }

-- The node of this number runs, and took exactly this item: its step is the definitions' step, and
-- all its messages were sent. No other node has changed, nor has the master.
pub record TakesExactly (node : ℕ) (item : Item) (old new : NodesState) : Type 0 where
  pub core : CountedCore
  pub runs : running old.nodes node ≡ Some core
  pub is : new ≡ after_node_call (node - 1) core (takes item) old

-- The node of this number had something to cut, and took exactly that item; what it had applied is
-- in the record.
pub record CutsExactly (node : ℕ) (old new : NodesState) : Type 0 where
  pub core : CountedCore
  pub cuts : cutting old.nodes node ≡ Some core
  pub is : new ≡ record (after_node_call (node - 1) core (takes Cut) old) {
    archive = recorded old.archive core.core.replica.state;
  }

-- the node of this number exists, running or not, and handed over what it queued for a port
pub record HandsOutExactly (node : ℕ) (port : Port) (old new : NodesState) : Type 0 where
  pub core : CountedCore
  pub there : numbered_node old.nodes node ≡ Some core
  pub is : new ≡ after_node_call (node - 1) core (hands_out port) old

-- a group does a call of a node, or of the master, exactly or with losses, and then corresponds to
-- these nodes
pub record GoesBy (node_call : Option (ℕ × NodeCall)) (group : Group)
    (new : NodesState) : Type 0 where
  pub does : DoesCall group node_call
  pub stands : NodesStandFor does.after new

-- each group that corresponds to the nodes before does so: the node at this index does this call
abbrev pub NodeDoesCall : ℕ → NodeCall → NodesState → NodesState → Type 0
NodeDoesCall at node_call old new =
    (group : Group) → NodesStandFor group old → GoesBy (Some (at, node_call)) group new

-- ---- what is handed over

-- what the node of this number queued for a port is appended
abbrev pub HandsOver : ℕ → Port → NodesState → List ℕ → List ℕ → Type 0
HandsOver node port state before after =
    (core : CountedCore) → numbered_node state.nodes node ≡ Some core →
    after ≡ before ++ pending_bytes (listed_at port core.core)

-- the answer to handing over says whether more may come
abbrev pub AnswersFor : ℕ → Port → NodesState → Handed → Type 0
AnswersFor node port state handed =
    (core : CountedCore) → numbered_node state.nodes node ≡ Some core →
    handed ≡ handed_after (listed_at port core.core)

-- ---- the master

-- the nodes after a step of the master, whose message was sent
abbrev pub after_master : MasterOutcome Command → NodesState → NodesState
after_master outcome state =
    record state {
      master = outcome.state;
      sent = state.sent ++ (outcome.receiver, record { from = master; body = outcome.body }) ∷ [];
    }

-- after an Assign that is not refused
abbrev pub after_giving : Config → NodesState → NodesState
after_giving config state = after_master (assigned Command state.master config) state

-- the nodes after an Activate of a node that the master heard
abbrev pub after_answer : ℕ → ℕ → NodesState → NodesState
after_answer from ballot state =
    after_master (activated Command state.master ballot from state.master.waiting) state

-- ---- a message reaches its receiver

-- the master answers an Activate, and ignores every other message
abbrev pub HeardByMaster : ℕ → Body Command → NodesState → NodesState → Type 0
HeardByMaster from (Activate ballot) old new = new ≡ after_answer from ballot old
HeardByMaster from _ old new = new ≡ old

-- a message that was sent reaches the master, or a node, which takes exactly that message
abbrev pub MessageArrives : Option (ℕ × Message Command) → NodesState → NodesState → Type 0
MessageArrives None old new = ⊥
MessageArrives (Some (zero, message)) old new = HeardByMaster message.from message.body old new
MessageArrives (Some (suc at, message)) old new = TakesExactly (suc at) (Peer message) old new

-- a message reaches no node: none was sent, or its receiver is unknown or has stopped
abbrev pub ComesToNobody : Option (ℕ × Message Command) → NodesState → Type 0
ComesToNobody None state = Unit {0}
ComesToNobody (Some (zero, message)) state = ⊥
ComesToNobody (Some (suc at, message)) state = running state.nodes (suc at) ≡ None
