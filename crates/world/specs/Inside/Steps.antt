-- What the parts of a step do, and how a step is counted.
use Rattle.std.specs.Prelude.{◌≡◌, ◌⊎◌, ◌≤◌, ◌<◌, ℕ, true, false, List, [], Result, Ok, Err}
use Rattle.ballot_base.specs.Losses.{greatest_count, one_more}
use Rattle.master.specs.declared.event.Idle.{Idle}
use Rattle.session_base.specs.declared.publication.Publication.{Publication}
use Rattle.world_nodes.specs.Steps.{NodesLoseNothing}
use Rattle.world_pipes.specs.declared.events.event.Event.{Event}
use Rattle.world.specs.Requests.{EventAsks}
use Rattle.world_pipes.specs.clients.NodesGoOn.{NodesGoOn}
use Rattle.world.specs.Cannot.{CannotHappen}
use Rattle.world.specs.EventSteps.{DoesEvent}
use Rattle.world.specs.Events.{HappensLosing}
use Rattle.world.specs.StandsFor.{FollowsModelAsking}
use Rattle.world.specs.World.{WorldState}

-- what happened is a trace of the model: counts do not fall, and each world of the model that
-- corresponded before steps to one that corresponds after, while its clients publish this
pub record IsTraceAsking (asked : List (ℕ × Publication)) (old new : WorldState) : Type 0 where
  pub rises : old.losses ≤ new.losses
  pub nodes : NodesGoOn old.nodes new.nodes
  pub goes : FollowsModelAsking asked old new

-- nothing is published
abbrev pub IsTrace : WorldState → WorldState → Type 0
IsTrace old new = IsTraceAsking [] old new

-- what an event asked was published, and nothing else
pub record PublishesAsked (event : Event) (old : WorldState) (result : Result (Unit {0}) Idle)
    (new : WorldState) : Type 0 where
  pub asked : List (ℕ × Publication)
  pub is : EventAsks event old result asked new
  pub goes : IsTraceAsking asked old new

-- an event was done, or nothing happened: it was done exactly, unless the nodes counted a loss
pub record EventIsDone (event : Event) (old new : WorldState) : Type 0 where
  pub possible : CannotHappen event old → ⊥
  pub does : (new ≡ old) ⊎ DoesEvent false event old new
  pub exact : NodesLoseNothing old.nodes new.nodes → DoesEvent true event old new
  pub uncounted : new.losses ≡ old.losses

-- the result of an event, which was done exactly or with losses, before the step counts what its
-- nodes counted
abbrev pub EventResultOrLost : Event → WorldState → Result (Unit {0}) Idle → WorldState → Type 0
EventResultOrLost event old (Err idle) new = CannotHappen event old × (new ≡ old)
EventResultOrLost event old (Ok done) new = EventIsDone event old new ⊎ HappensLosing event old new

-- Nothing is counted if the nodes' count of losses is what it was; otherwise one loss is counted,
-- if the world's count is still what it was.
abbrev pub IsCounted : ℕ → ℕ → WorldState → WorldState → Type 0
IsCounted before counted old new =
    ((new ≡ old) × (old.losses ≡ counted → (old.nodes.losses ≡ before) × (before < greatest_count)))
    ⊎ ((new ≡ record old { losses = one_more old.losses }) × (old.losses ≡ counted)
    × ((old.nodes.losses ≡ before) × (before < greatest_count) → ⊥))
