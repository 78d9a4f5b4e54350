-- Every event keeps the shape, so every story is sound, and its client accepts a prefix of its
-- session's entries.
use Rattle.broker_spec.specs.Place.{Client, Limits}
use Rattle.broker_spec.specs.NobodyTheorems.{IsSteady}
use Rattle.exactly_once.specs.Story.{Story}
use Rattle.exactly_once.specs.StoryTrace.{StoryTrace}
use Rattle.exactly_once.specs.Acceptance.{AcceptedInOrder}
use Rattle.exactly_once.specs.Inside.Shape.{IsSoundStory}
use Rattle.exactly_once.specs.Inside.EachEvent.{EventKeepsShape}
use Rattle.exactly_once.proofs.connections.KeepsConnections.{events_keep_connections}
use Rattle.exactly_once.proofs.keeping.KeepsShape.{events_keep_rest}
use Rattle.exactly_once.proofs.publishing.events.Publishing.{events_publish}
use Rattle.exactly_once.proofs.subscribing.events.Every.{event_subscribes}
use Rattle.exactly_once.proofs.Whole.{stories_are_sound, stories_accept}

-- the shape is kept by each event
pub events_keep_shape : EventKeepsShape
events_keep_shape limits s t sound happens =
    events_keep_rest limits s t sound happens (events_keep_connections limits s t sound.shape happens)

-- every story is sound
pub told_stories_are_sound : (limits : Limits) → IsSteady limits → (c : Client) (s : Story) → StoryTrace limits c s → IsSoundStory limits s
told_stories_are_sound = stories_are_sound events_keep_shape events_publish event_subscribes

-- the client accepts a prefix of its entries, and each released one is among it
pub told_stories_accept : (limits : Limits) → IsSteady limits → (c : Client) (s : Story) → StoryTrace limits c s → AcceptedInOrder limits s
told_stories_accept = stories_accept events_keep_shape events_publish event_subscribes
