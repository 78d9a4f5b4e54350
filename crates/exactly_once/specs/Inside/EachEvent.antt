-- What the proof has to show for each event of a story.
use Rattle.broker_spec.specs.Place.{Limits}
use Rattle.broker_spec.specs.NobodyTheorems.{IsSteady}
use Rattle.exactly_once.specs.Story.{Story, StoryStep}
use Rattle.exactly_once.specs.Inside.Projections.{as_publisher, GoesTo}
use Rattle.exactly_once.specs.Inside.AsSubscriber.{as_subscriber}
use Rattle.exactly_once.specs.Inside.Shape.{HasShape, IsSoundStory}

-- after each event the story still has its shape
abbrev pub EventKeepsShape : Type 0
EventKeepsShape =
    (limits : Limits) (story next : Story) → IsSoundStory limits story →
    StoryStep limits story next → HasShape limits next

-- each event is a run of the handshake in which the client publishes
abbrev pub EventPublishes : Type 0
EventPublishes =
    (limits : Limits) (story next : Story) → IsSoundStory limits story →
    StoryStep limits story next → GoesTo (as_publisher limits story) (as_publisher limits next)

-- Each event is a run of the handshake in which the client subscribes, while the window changes
-- only at a new ballot: what starts at another place is not always sent.
abbrev pub EventSubscribes : Type 0
EventSubscribes =
    (limits : Limits) (story next : Story) → IsSteady limits → IsSoundStory limits story →
    StoryStep limits story next → GoesTo (as_subscriber limits story) (as_subscriber limits next)
