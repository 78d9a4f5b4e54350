-- What happens in a world: what one event and a list of events do, and how a world begins.
use Rattle.std.specs.Prelude.{◌≡◌, ◌⊎◌, ◌<◌, ℕ, true, false, List, [], ◌∷◌, Result, Ok, Err, map}
use Rattle.ballot_base.specs.LawfulConfig.{max_node}
use Rattle.ballot_base.specs.declared.config.Config.{Config}
use Rattle.ballot_base.specs.Losses.{greatest_count, one_more}
use Rattle.broker_spec.specs.Place.{Client}
use Rattle.headline.specs.node_group.Group.{opening_group}
use Rattle.master.specs.declared.event.Idle.{Idle}
use Rattle.world_nodes.specs.Nodes.{NodesStandFor}
use Rattle.world_nodes.specs.Steps.{NodesLoseNothing}
use Rattle.world_pipes.specs.declared.events.event.Event.{Event}
use Rattle.world.specs.World.{WorldState}
use Rattle.world.specs.Cannot.{CannotHappen}
use Rattle.world.specs.EventSteps.{DoesEvent, LosesAtClient}
use Rattle.world.specs.Quiet.{EventTakesNoMemory}
use Rattle.world_pipes.specs.clients.Clients.{new_world_client}

-- ---- what events do

-- the event can happen, what it asks was done, and no loss is counted
pub record HappensExactly (event : Event) (old new : WorldState) : Type 0 where
  pub possible : CannotHappen event old → ⊥
  pub does : DoesEvent true event old new
  pub uncounted : new.losses ≡ old.losses

-- The event can happen and takes memory; nothing was done, or what the event asks was done with
-- losses; and one loss is counted. If something was done, memory ran out at a client, or the nodes
-- counted a loss. Their count saturates at 2^64 - 1, and shows nothing there.
pub record HappensLosing (event : Event) (old new : WorldState) : Type 0 where
  pub possible : CannotHappen event old → ⊥
  pub takes_memory : EventTakesNoMemory event old → old.nodes.losses < greatest_count → ⊥
  pub done : WorldState
  pub does : (done ≡ old) ⊎ DoesEvent false event old done
  pub lost : (done ≡ old) ⊎ LosesAtClient event old done
      ⊎ (NodesLoseNothing old.nodes done.nodes → ⊥)
  pub counted : new ≡ record done { losses = one_more old.losses }

-- Idle comes exactly if the event cannot happen, and then nothing changes. Otherwise the event was
-- done exactly, or a loss is counted.
abbrev pub EventHappens : Event → WorldState → Result (Unit {0}) Idle → WorldState → Type 0
EventHappens event old (Err idle) new = CannotHappen event old × (new ≡ old)
EventHappens event old (Ok done) new = HappensExactly event old new ⊎ HappensLosing event old new

-- events, one after another
abbrev pub EventsHappen : List Event → WorldState → WorldState → Type 0
EventsHappen [] old new = new ≡ old
EventsHappen (event ∷ events) old new =
    (between : WorldState) × (result : Result (Unit {0}) Idle)
    × EventHappens event old result between
    × EventsHappen events between new

-- ---- how it begins

-- a world as it opens: no client was ever connected
pub record WorldOpens (nodes : ℕ) (config : Config) (clients : List Client)
    (world : WorldState) : Type 0 where
  pub group : NodesStandFor (opening_group max_node nodes config) world.nodes
  pub whole : world.nodes.losses ≡ 0
  pub is : world ≡ record {
    nodes = world.nodes;
    clients = map new_world_client clients;
    connections = [];
    losses = 0;
  }
