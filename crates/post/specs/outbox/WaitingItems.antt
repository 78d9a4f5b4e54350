-- What waits for a node.
use Rattle.std.specs.Prelude.{◌≡◌, ℕ, ◌+◌, ◌≤◌, Bool, false, ◌||◌, not, nat_lt, if◌then◌else◌, List, [], ◌∷◌, length}
use Rattle.agreement.specs.MasterState.{MasterState}
use Rattle.ballot_base.specs.declared.message.Message.{Message}
use Rattle.broker_spec.specs.declared.command.Command.{Command}
use Rattle.lists.specs.Lists.{Each}
use Rattle.world_base.specs.declared.node_core.item.Item.{Item}
use Rattle.world_base.specs.declared.node_core.item.Item.TheVariants.{Peer}
use Rattle.post.specs.outbox.Queued.{IsPosted}
use Rattle.post.specs.declared.outbox.outbox.TheConstants.{MAX_WAITING}

-- the number of the node, and the items that were queued for it and not yet taken, the oldest first
pub record OutboxView : Type 0 where
  pub number : ℕ
  pub items : List Item

-- an order was refused: the outbox and the master are as before
pub record AreUnchanged (old new : OutboxView) (before after : MasterState) : Type 0 where
  pub outbox : new ≡ old
  pub master : after ≡ before

-- true for a message of another node; the master's number is 0
abbrev pub is_of_node : Item → Bool
is_of_node (Peer message) = nat_lt 0 message.from
is_of_node _ = false

-- how many messages of other nodes are among these items
abbrev pub of_nodes : List Item → ℕ
of_nodes [] = 0
of_nodes (item ∷ items) = (if is_of_node item then 1 else 0) + of_nodes items

-- a message of another node is queued only while fewer items than this wait
abbrev pub max_waiting : ℕ
max_waiting = MAX_WAITING

-- True if an item may be queued after these: a message of another node while fewer than
-- `max_waiting` items wait, and a message of the master or an order always.
abbrev pub may_be_queued : Item → List Item → Bool
may_be_queued item items = not (is_of_node item) || nat_lt (length items) max_waiting

-- What may wait for the node of this number, where these messages were sent: items that may be
-- queued for it, at most `max_waiting` of them messages of other nodes.
pub record Waits (sent : List (ℕ × Message Command)) (number : ℕ) (items : List Item)
    : Type 0 where
  pub queued : Each (IsPosted sent number) items
  pub bounded : of_nodes items ≤ max_waiting
