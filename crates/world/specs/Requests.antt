-- What clients were asked to publish: the Publish events that were done, in order.
use Rattle.std.specs.Prelude.{◌≡◌, ◌⊎◌, ℕ, false, List, [], ◌∷◌, ◌++◌, Result, Ok, Err}
use Rattle.ballot_base.specs.Losses.{one_more}
use Rattle.client_base.specs.Steps.{Call}
use Rattle.master.specs.declared.event.Idle.{Idle}
use Rattle.session_base.specs.declared.publication.Publication.{Publication}
use Rattle.world_pipes.specs.Piped.{Piped}
use Rattle.world_pipes.specs.declared.events.event.Event.{Event}
use Rattle.world_pipes.specs.declared.events.event.Event.TheVariants as events
use Rattle.world.specs.Found.{Named, with_piped}
use Rattle.world.specs.ClientCalls.{SendsCall}
use Rattle.world.specs.Events.{EventHappens}
use Rattle.world.specs.World.{WorldState}

-- the client of this identifier was asked to publish: its call was done, once, and the client may
-- have lost its connection in it
pub record AsksOne (name : List ℕ) (publication : Publication) (old : WorldState)
    (asked : List (ℕ × Publication)) (new : WorldState) : Type 0 where
  pub client : Named name old
  pub piped : Piped
  pub does : SendsCall (Call.Publishes publication) false client.client.piped piped
  pub is : new ≡ record (with_piped client.at client.client piped old) { losses = new.losses }
  pub asked_is : asked ≡ (client.at, publication) ∷ []

-- memory ran out before a client was asked: nothing was done, and that is counted
pub record AsksNone (old : WorldState) (asked : List (ℕ × Publication))
    (new : WorldState) : Type 0 where
  pub is : new ≡ record old { losses = one_more old.losses }
  pub none : asked ≡ []

-- only a Publish asks a client
abbrev pub AskedBy : Event → WorldState → List (ℕ × Publication) → WorldState → Type 0
AskedBy (events.Publish name publication) old asked new =
    AsksOne name publication old asked new ⊎ AsksNone old asked new
AskedBy _ old asked new = asked ≡ []

-- only an event that was not idle asks a client
abbrev pub EventAsks : Event → WorldState → Result (Unit {0}) Idle → List (ℕ × Publication) →
    WorldState → Type 0
EventAsks event old (Err idle) asked new = asked ≡ []
EventAsks event old (Ok done) asked new = AskedBy event old asked new

-- events, one after another, and what they asked
abbrev pub RunAsks : List Event → WorldState → List (ℕ × Publication) → WorldState → Type 0
RunAsks [] old asked new = (asked ≡ []) × (new ≡ old)
RunAsks (event ∷ events) old asked new =
    (between : WorldState) × (result : Result (Unit {0}) Idle) × (first : List (ℕ × Publication))
    × (later : List (ℕ × Publication))
    × EventHappens event old result between × EventAsks event old result first between
    × RunAsks events between later new × (asked ≡ first ++ later)
