-- Which events take no memory, and so raise no count.
use Rattle.std.specs.Prelude.{◌≡◌, ℕ, zero, suc, true, Option, Some, None, slice_get}
use Rattle.ballot_base.specs.declared.message.Message.{Message}
use Rattle.broker_spec.specs.declared.command.Command.{Command}
use Rattle.world_base.specs.declared.node_core.item.Item.{Item}
use Rattle.world_base.specs.declared.node_core.item.Item.TheVariants as items
use Rattle.world_nodes.specs.RunningNodes.{numbered_node}
use Rattle.world_nodes.specs.Nodes.{NodesState}
use Rattle.world_nodes.specs.Quiet.{IsUnheeded, RestsAt}
use Rattle.world_pipes.specs.declared.events.event.Event.{Event}
use Rattle.world_pipes.specs.declared.events.event.Event.TheVariants as events
use Rattle.world_pipes.specs.declared.clients.connection_slot.ConnectionSlot.{ConnectionSlot}
use Rattle.world.specs.Opening.{has_no_name_left}
use Rattle.world.specs.Found.{slot_numbered, port_at_node}
use Rattle.world.specs.World.{WorldState}
use Rattle.world_pipes.specs.clients.NodeOutput.{HasNothingToHandOver}

-- an item takes no memory at a node, which has no pending output
abbrev pub IsQuietAt : ℕ → Item → NodesState → Type 0
IsQuietAt node item state = RestsAt node item state × HasNothingToHandOver node state

-- a message that arrives takes no memory, including one that the master ignores
abbrev pub ComesQuietly : Option (ℕ × Message Command) → NodesState → Type 0
ComesQuietly None state = ⊥
ComesQuietly (Some (zero, message)) state = IsUnheeded message.body
ComesQuietly (Some (suc at, message)) state = IsQuietAt (suc at) (items.Peer message) state

-- the end of a connection takes no memory at its node
abbrev pub EndsQuietly : ℕ → Option ConnectionSlot → NodesState → Type 0
EndsQuietly number None state = ⊥
EndsQuietly number (Some slot) state = IsQuietAt slot.node (items.Ended (port_at_node number)) state

-- An event takes no memory if a client only loses its connection, if an Open finds no name left, if
-- a message reaches the master that it ignores, and in one case more. In it a message, a tick, the
-- end of a connection or a crash reaches a node that then sends nothing and has no pending output.
-- Such a node adds nothing to its log, takes no log and applies nothing.
abbrev pub EventTakesNoMemory : Event → WorldState → Type 0
EventTakesNoMemory (events.Deliver number) world =
    ComesQuietly (slice_get world.nodes.sent number) world.nodes
EventTakesNoMemory (events.Tick node) world = IsQuietAt node (items.Tick 0) world.nodes
EventTakesNoMemory (events.Crash node) world = IsQuietAt node items.Crash world.nodes
EventTakesNoMemory (events.Notice number) world =
    EndsQuietly number (slot_numbered number world.connections) world.nodes
EventTakesNoMemory (events.Open name node) world =
    has_no_name_left (numbered_node world.nodes.nodes node) ≡ true
EventTakesNoMemory (events.Abandon name) world = Unit {0}
EventTakesNoMemory event world = ⊥
