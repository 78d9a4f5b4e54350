-- From the three lemmas on one event to every story.
use Rattle.std.proofs.Common.{[], inl, refl}
use Rattle.broker_spec.specs.Place.{Client, Limits}
use Rattle.broker_spec.specs.Sessions.{current_connection, clean_session_of}
use Rattle.broker_spec.specs.NobodyTheorems.{IsSteady}
use Rattle.broker_spec.specs.Received.{received_of}
use Rattle.broker_spec.specs.Times.{entries_of}
use Rattle.exactly_once.specs.HandshakeInvariant.{IsGood}
use Rattle.exactly_once.specs.Story.{Story, no_story}
use Rattle.exactly_once.specs.StoryTrace.{StoryTrace}
use Rattle.exactly_once.specs.StoryTrace.StoryTrace.{begins, goes_on, begins_at}
use Rattle.exactly_once.specs.Acceptance.{AcceptedInOrder}
use Rattle.exactly_once.specs.Inside.Projections.{as_publisher}
use Rattle.exactly_once.specs.Inside.AsSubscriber.{as_subscriber}
use Rattle.exactly_once.specs.Inside.Shape.{HasShape, IsSoundStory}
use Rattle.exactly_once.specs.Inside.EachEvent.{EventKeepsShape, EventPublishes, EventSubscribes}
use Rattle.exactly_once.proofs.Ends.{good_goes, accepted_in_order}
use Rattle.broker_spec.specs.Commands.{past_of}
use Rattle.exactly_once.proofs.Beginnings.{begun_is_sound}

opening_shape : (limits : Limits) (c : Client) → HasShape limits (no_story c)
unfolding current_connection clean_session_of
opening_shape limits c =
    record {
      own = record { ids_apart = tt; numbered = tt; releases_apart = tt; releases_are = λ id. refl; online_sent = λ e. refl };
      connections = tt;
      names_apart = tt;
      last_is_current = tt;
      newest_is_served = tt;
      nobody_else = λ d x e f. cc;
      held = refl;
      session = inl refl;
      welcomed = tt;
      served = λ e. cc;
    }

publisher_opens : (limits : Limits) (c : Client) → IsGood (as_publisher limits (no_story c))
unfolding received_of
publisher_opens limits c =
    record {
      old = [];
      new = [];
      sides = record { is = refl; accepted_is = refl; olds = tt; news = tt; waits_last = tt; apart = tt; known = λ i e. e };
      transit = record { due = tt; apart = tt };
    }

subscriber_opens : (limits : Limits) (c : Client) → IsGood (as_subscriber limits (no_story c))
unfolding entries_of current_connection
subscriber_opens limits c =
    record {
      old = [];
      new = [];
      sides = record { is = refl; accepted_is = refl; olds = tt; news = tt; waits_last = tt; apart = tt; known = λ i e. e };
      transit = record { due = tt; apart = tt };
    }

pub stories_are_sound : EventKeepsShape → EventPublishes → EventSubscribes → (limits : Limits) → IsSteady limits → (c : Client) (s : Story) → StoryTrace limits c s → IsSoundStory limits s
stories_are_sound keeps publishes subscribes limits steady c s begins =
    record { shape = opening_shape limits c; publisher = publisher_opens limits c; subscriber = subscriber_opens limits c }
stories_are_sound keeps publishes subscribes limits steady c s (begins_at list earlier own none numbers queued apart) =
    begun_is_sound limits (past_of limits list) c earlier own none queued apart
stories_are_sound keeps publishes subscribes limits steady c s (goes_on {before = r} told happens) =
    let sound = stories_are_sound keeps publishes subscribes limits steady c r told in
    record {
      shape = keeps limits r s sound happens;
      publisher = good_goes (as_publisher limits r) (as_publisher limits s) sound.publisher (publishes limits r s sound happens);
      subscriber = good_goes (as_subscriber limits r) (as_subscriber limits s) sound.subscriber (subscribes limits r s steady sound happens);
    }

-- so a client accepts a prefix of its entries
pub stories_accept : EventKeepsShape → EventPublishes → EventSubscribes → (limits : Limits) → IsSteady limits → (c : Client) (s : Story) → StoryTrace limits c s → AcceptedInOrder limits s
stories_accept keeps publishes subscribes limits steady c s told =
    accepted_in_order limits s (stories_are_sound keeps publishes subscribes limits steady c s told).subscriber
