-- Each event keeps the shape of a story, if it keeps that of the client's connections.
use Rattle.std.proofs.Common.{◌≡◌, refl, subst, sym}
use Rattle.broker_spec.specs.Place.{Client, Limits}
use Rattle.broker_spec.specs.Sessions.{clean_session_of}
use Rattle.lists.specs.Lists.{Each}
use Rattle.exactly_once.specs.Story.{Story, StoryStep}
use Rattle.exactly_once.specs.Story.StoryStep.{takes, others_take, receives, opens_anew, loses, disconnects, publishes_one, subscribes, unsubscribes}
use Rattle.exactly_once.specs.Inside.Shape.{HasShape, IsSoundStory}
use Rattle.exactly_once.specs.Inside.ConnectionShape.{ConnectionInShape}
use Rattle.exactly_once.proofs.places.After.{IsKeptSession}
use Rattle.exactly_once.proofs.places.Owned.{NobodyElse}
use Rattle.exactly_once.proofs.publishing.kept.KeepsCalls.{events_keep_own}
use Rattle.exactly_once.proofs.publishing.kept.KeepsNames.{events_keep_names, events_keep_session}
use Rattle.exactly_once.proofs.publishing.kept.KeepsNobody.{events_keep_nobody}
use Rattle.exactly_once.proofs.subscribing.Given.{stays_handled}
use Rattle.exactly_once.proofs.subscribing.KeepsNewest.{keeps_newest}
use Rattle.exactly_once.proofs.keeping.KeepsLast.{events_keep_last}
use Rattle.exactly_once.proofs.keeping.Welcomed.{events_keep_welcomed}
use Rattle.exactly_once.proofs.keeping.KeepsServed.{events_keep_served}
use Rattle.exactly_once.proofs.keeping.KeepsHeld.{events_keep_held}

-- whose story it is
pub same_story : (limits : Limits) (s t : Story) → StoryStep limits s t → t.keeper.client ≡ s.keeper.client
same_story limits s t (takes i κ w stands next) = refl
same_story limits s t (others_take command other none) = refl
same_story limits s t (receives κ others packet are opened next) = (stays_handled packet (record { keeper = s.keeper; connection = κ })).client
same_story limits s t (opens_anew x fresh none uncounted) = refl
same_story limits s t loses = refl
same_story limits s t disconnects = refl
same_story limits s t (publishes_one p needs) = refl
same_story limits s t (subscribes p on id) = refl
same_story limits s t (unsubscribes p on id) = refl

-- all rows, with those of its connections after the event
pub events_keep_rest : (limits : Limits) (s t : Story) → IsSoundStory limits s → StoryStep limits s t
    → Each (ConnectionInShape limits t.past t.keeper.client) t.connections → HasShape limits t
events_keep_rest limits s t sound h connections =
    record {
      own = events_keep_own limits s t sound h;
      connections = connections;
      names_apart = events_keep_names limits s t sound.shape.names_apart h;
      last_is_current = events_keep_last limits s t sound h;
      newest_is_served = keeps_newest limits s t sound.shape h;
      nobody_else = subst (λ (c : Client). NobodyElse t.past c t.connections) (sym (same_story limits s t h)) (events_keep_nobody limits s t sound h);
      held = events_keep_held limits s t sound h;
      session = subst (λ (c : Client). IsKeptSession (clean_session_of t.past c)) (sym (same_story limits s t h)) (events_keep_session limits s t sound h);
      served = events_keep_served limits s t sound sound.shape.welcomed h;
      welcomed = events_keep_welcomed limits s t sound sound.shape.welcomed h;
    }
