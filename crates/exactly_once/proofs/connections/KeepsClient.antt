-- Each event keeps the client.
use Rattle.std.proofs.Common.{◌≡◌, refl}
use Rattle.broker_spec.specs.Place.{Limits}
use Rattle.exactly_once.specs.Story.{Story, StoryStep}
use Rattle.exactly_once.specs.Story.StoryStep.{takes, others_take, receives, opens_anew, loses, disconnects, publishes_one, subscribes, unsubscribes}
use Rattle.exactly_once.proofs.subscribing.Given.{stays_handled}

-- whatever happens
pub events_keep_client : (limits : Limits) (s t : Story) → StoryStep limits s t → t.keeper.client ≡ s.keeper.client
events_keep_client limits s t (takes i κ w stands next) = refl
events_keep_client limits s t (others_take command other none) = refl
events_keep_client limits s t (receives κ others packet are opened next) = (stays_handled packet (record { keeper = s.keeper; connection = κ })).client
events_keep_client limits s t (opens_anew x fresh none uncounted) = refl
events_keep_client limits s t loses = refl
events_keep_client limits s t disconnects = refl
events_keep_client limits s t (publishes_one p needs) = refl
events_keep_client limits s t (subscribes p on id) = refl
events_keep_client limits s t (unsubscribes p on id) = refl
