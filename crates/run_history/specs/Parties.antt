-- A run that has opened; a node on record, and what its calls do.
use Rattle.std.specs.Prelude.{◌≡◌, ℕ, ◌+◌, List, [], ◌∷◌, ◌++◌}
use mathlib.Core.List.{IsPrefix}
use Rattle.logbook.specs.Pages.{Book}
use Rattle.ballot_base.specs.declared.message.Effect.{Effect}
use Rattle.broker_spec.specs.declared.command.Command.{Command}
use Rattle.broker_spec.specs.declared.command.Output.{Output}
use Rattle.world_base.specs.declared.node_connections.port.Port.{Port}
use Rattle.world_base.specs.declared.node_core.item.Item.{Item}
use Rattle.world_base.specs.node_core.Core.{CountedCore}
use Rattle.world_base.specs.node_core.Losses.{ItemStepOrLost}
use Rattle.world_base.specs.node_core.PortOutput.{hands_over}
use Rattle.run_history.specs.declared.event.OpenedGroup.{OpenedGroup}
use Rattle.run_history.specs.declared.event.NodeAct.{NodeAct}
use Rattle.run_history.specs.declared.event.NodeAct.TheVariants.{Takes, HandsOver}
use Rattle.run_history.specs.declared.event.RunEvent.{RunEvent}
use Rattle.run_history.specs.declared.event.RunEvent.TheVariants.{ByNode}
use Rattle.run_history.specs.Log.{events_by, sent_in}
use Rattle.run_history.specs.Sending.{ItemWasSent}

-- a run that has opened and has no name yet: the book that its log is in, and its group
pub record OpenedView : Type 0 where
  pub book : Book
  pub group : OpenedGroup

-- The node at an index, and a prefix of the log: by that, and by each longer one with no more
-- events of the node, this is its state.
pub record NodeView : Type 0 where
  pub index : ℕ
  pub node : CountedCore
  pub log : List RunEvent

-- The node did this act: the log that it now knows ends with that event, gave this and led to the
-- node's state. What it knew comes before, and no other event of the node since.
pub record DidAct (old : NodeView) (act : NodeAct) (given : List (Effect Command Output))
    (new : NodeView) : Type 0 where
  pub earlier : List RunEvent
  pub begins : IsPrefix old.log earlier
  pub none_since : events_by (old.index + 1) earlier ≡ events_by (old.index + 1) old.log
  pub index : new.index ≡ old.index
  pub now : new.log ≡ earlier
      ++ ByNode (record { node = old.index; act = act; after = new.node; given = given }) ∷ []

-- The node stepped on an item: its effects are those of the event, and if the item is a message,
-- it was sent to the node by an earlier event.
pub record TookItem (old : NodeView) (item : Item) (new : NodeView)
    (before after : List (Effect Command Output)) : Type 0 where
  pub stepped : ItemStepOrLost old.node item new.node before after
  pub did : DidAct old (Takes item) stepped.given new
  pub sent : ItemWasSent (sent_in did.earlier) old.index item

-- the node handed over the output of a port
pub record HandedOver (old : NodeView) (port : Port) (new : NodeView) : Type 0 where
  pub node : new.node ≡ record old.node { core = hands_over port old.node.core }
  pub did : DidAct old (HandsOver port) [] new
