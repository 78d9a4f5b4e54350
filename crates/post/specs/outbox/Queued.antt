-- What may be queued for a node, and what is known of what waits for it: a message was sent to just
-- this node, by an event of the run.
use Rattle.std.specs.Prelude.{ℕ, Bool, List}
use Rattle.ballot_base.specs.declared.config.Config.{Config}
use Rattle.ballot_base.specs.declared.message.Message.{Message}
use Rattle.broker_spec.specs.declared.command.Command.{Command}
use Rattle.lists.specs.Lists.{In}
use Rattle.world_base.specs.declared.node_core.item.Item.{Item}
use Rattle.world_base.specs.declared.node_core.item.Item.TheVariants.{Peer, Expel, Crash}
use Rattle.run_history.specs.declared.event.RunEvent.{RunEvent}
use Rattle.run_history.specs.Linked.{IsRun}
use Rattle.run_history.specs.Log.{sent_in}

-- an order of the program: nothing that comes from a node's own clients or from its clock
pub data IsOrder : Item → Type 0 where
  -- to crash
  crashes : IsOrder Crash
  -- to end the session of a client
  expels : (client : List ℕ) → IsOrder (Expel client)

-- what may be queued for the node of this number, where these messages were sent
pub data IsPosted (sent : List (ℕ × Message Command)) (receiver : ℕ) : Item → Type 0 where
  -- a message that another node or the master sent to it
  sent_to : (message : Message Command)
      → In (receiver, message) sent → IsPosted sent receiver (Peer message)
  -- an order
  ordered : {item : Item} → IsOrder item → IsPosted sent receiver item

-- The item may be queued for this node: if it is a message, an event of a run of this group sent it
-- to the node. That is all that is known of a queued item, whichever thread queued it.
pub record IsQueued (linked : Bool) (nodes : ℕ) (config : Config) (receiver : ℕ) (item : Item) :
    Type 0 where
  pub log : List RunEvent
  pub run : IsRun linked nodes config log
  pub posted : IsPosted (sent_in log) receiver item
