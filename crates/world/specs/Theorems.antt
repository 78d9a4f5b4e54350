-- Theorems about what events do. The functions of `theorems.rt` prove them.
use Rattle.std.specs.Prelude.{◌≡◌, ◌<◌, ◌≤◌, ℕ, false, List, None, Some, Ok}
use Rattle.std.specs.List.{find}
use Rattle.ballot_base.specs.Losses.{greatest_count}
use Rattle.machine.specs.Ballots.{max_ballot}
use Rattle.broker_spec.specs.Connection.{max_count}
use Rattle.broker_spec.specs.declared.command.Command.{Command}
use Rattle.broker_spec.specs.declared.command.Output.{Output}
use Rattle.ballot_base.specs.declared.config.Config.{Config}
use Rattle.ballot_base.specs.declared.message.Effect.{Effect}
use Rattle.world_base.specs.declared.node_core.item.Item.{Item}
use Rattle.world_base.specs.node_connections.Connections.{has_failed}
use Rattle.world_base.specs.node_core.Core.{CoreState, CountedCore}
use Rattle.world_base.specs.node_core.Losses.{ItemStepOrLost, ItemTakesNoMemory}
use Rattle.world_nodes.specs.Nodes.{NodesState}
use Rattle.world_nodes.specs.Quiet.{RestsAt}
use Rattle.world_nodes.specs.RunningNodes.{numbered_node, running}
use Rattle.world_pipes.specs.declared.events.event.Event.{Event}
use Rattle.world_pipes.specs.declared.events.event.Event.TheVariants as events
use Rattle.world.specs.Opening.{has_no_name_left}
use Rattle.world.specs.Trace.{AreReached, WorldLosesNothing}
use Rattle.world.specs.Events.{EventHappens, HappensExactly}
use Rattle.world.specs.World.{WorldState}

-- if the count of losses is as before, and not at its greatest number, an event that was not idle
-- was done exactly
abbrev pub UncountedIsExact : Type 0
UncountedIsExact =
    (event : Event) (old new : WorldState) → EventHappens event old (Ok tt) new →
    WorldLosesNothing old new →
    HappensExactly event old new

-- an Open at a node that gave a connection the last number of its ballot changes nothing
abbrev pub OpensPastTheLast : Type 0
OpensPastTheLast =
    (name : List ℕ) (node : ℕ) (core : CountedCore) (old new : WorldState) →
    numbered_node old.nodes.nodes node ≡ Some core →
    core.core.last_name ≡ record { ballot = core.core.replica.state.joined; count = max_count } →
    old.nodes.losses < greatest_count →
    EventHappens (events.Open name node) old (Ok tt) new → new ≡ old

-- a node that has not given the last number has a name left
abbrev pub HasRoomBefore : Type 0
HasRoomBefore =
    (core : CountedCore) → 0 < core.core.replica.state.joined →
    core.core.replica.state.joined ≤ max_ballot → core.core.last_name.count < max_count →
    has_no_name_left (Some core) ≡ false

-- ---- connections that failed

-- no connection of the node has failed whose loss is still to be reported to its broker
abbrev pub HasNoneFailed : CoreState → Type 0
HasNoneFailed core = find has_failed core.connections ≡ None

-- a step of a node leaves none, whether it was exact or lost something
abbrev pub StepsLeaveNoneFailed : Type 0
StepsLeaveNoneFailed =
    (item : Item) (old new : CountedCore) (before after : List (Effect Command Output)) →
    ItemStepOrLost old item new before after → HasNoneFailed new.core

-- no node that can be reached has one
abbrev pub ReachedHaveNoneFailed : Type 0
ReachedHaveNoneFailed =
    (nodes : ℕ) (config : Config) (state : NodesState) → AreReached nodes config state →
    (node : ℕ) (core : CountedCore) → numbered_node state.nodes node ≡ Some core →
    HasNoneFailed core.core

-- so an item rests at such a node if the node runs, the item takes no memory there, and the count
-- of losses is below its greatest number
abbrev pub ReachedRest : Type 0
ReachedRest =
    (nodes : ℕ) (config : Config) (state : NodesState) → AreReached nodes config state →
    (node : ℕ) (item : Item) (core : CountedCore) → running state.nodes node ≡ Some core →
    ItemTakesNoMemory item core.core → core.losses < greatest_count → RestsAt node item state
