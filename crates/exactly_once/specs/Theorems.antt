-- What holds for every story of a client, over any list of its connections, losses, crashes and
-- packets of others (MQTT 4.3.3, 4.4, 4.6).
use Rattle.std.specs.Prelude.{◌≡◌, if◌then◌else◌, ◌∷◌, length, filter}
use Rattle.packet.specs.declared.publish.Publish.{Publish}
use Rattle.packet.specs.declared.packet.Packet.TheVariants as packets
use Rattle.session_base.specs.Publication.{publication_of}
use Rattle.broker_spec.specs.declared.command.Command.TheVariants as commands
use Rattle.broker_spec.specs.Commands.{usual_limits}
use Rattle.broker_spec.specs.Connection.{ConnectionName}
use Rattle.broker_spec.specs.Marks.{is_queued_at}
use Rattle.broker_spec.specs.OriginTheorems.{is_from_publish}
use Rattle.broker_spec.specs.EndingTheorems.{StandsAt}
use Rattle.broker_spec.specs.Place.{Client, Limits, Mark, Past, Place}
use Rattle.broker_spec.specs.Subscriptions.{effective_qos}
use Rattle.broker_spec.specs.Times.{entries_of}
use Rattle.broker_spec.specs.NobodyTheorems.{IsSteady}
use Rattle.exactly_once.specs.Headline.{PublishedOnce, StoriesAreExact}
use Rattle.exactly_once.specs.Acceptance.{AcceptedInOrder}
use Rattle.exactly_once.specs.LivesAreExact.{AcceptsInEachSession, LivesAreExact}
use Rattle.exactly_once.specs.Story.{Story}
use Rattle.exactly_once.specs.StoryTrace.{StoryTrace}

-- the client's publications: those at QoS 2 become new in the list in the order of its calls, each
-- at most once; those that were answered are there; each enters each session at most once
abbrev pub PublishesOnce : Limits → Type 0
PublishesOnce limits =
    (client : Client) (story : Story) → StoryTrace limits client story → PublishedOnce limits story

-- the client accepts a prefix of the QoS 2 entries of its session, in order, each once, and every
-- one that was released
abbrev pub AcceptsInOrder : Limits → Type 0
AcceptsInOrder limits = (client : Client) (story : Story) → StoryTrace limits client story →
    AcceptedInOrder limits story

-- at the place where a publication of the client is taken, it enters exactly the sessions with an
-- effective QoS of 1 or 2, once each
abbrev pub StoriesEnter : Type 0
StoriesEnter =
    (limits : Limits) (story : Story) (place : Place) (below : Past) (connection : ConnectionName)
    (publish : Publish) (receiver : Client) → StandsAt story.past place below →
    place.command ≡ commands.Packet connection (packets.Publish publish) →
    place.mark ≡ Mark.Taken story.keeper.client →
    length (filter (is_from_publish (length below)) (entries_of limits (place ∷ below) receiver))
    ≡ (if is_queued_at (effective_qos below receiver (publication_of publish)) then 1 else 0)

-- in this broker clients publish once (`PublishesOnce`)
abbrev pub StoriesPublishOnce : Type 0
StoriesPublishOnce = PublishesOnce usual_limits

-- clients of this broker accept in order
abbrev pub StoriesAcceptInOrder : Type 0
StoriesAcceptInOrder = AcceptsInOrder usual_limits

-- clients publish once, for any limits whose window changes only at a new ballot
abbrev pub SteadyStoriesPublishOnce : Type 0
SteadyStoriesPublishOnce = (limits : Limits) → IsSteady limits → PublishesOnce limits

-- clients accept in order, for any limits whose window changes only at a new ballot
abbrev pub SteadyStoriesAcceptInOrder : Type 0
SteadyStoriesAcceptInOrder = (limits : Limits) → IsSteady limits → AcceptsInOrder limits

-- in this broker clients publish once and accept in order
abbrev pub UsualStoriesAreExact : Type 0
UsualStoriesAreExact = StoriesAreExact usual_limits

-- clients publish once and accept in order, for any limits whose window changes only at a new
-- ballot
abbrev pub SteadyStoriesAreExact : Type 0
SteadyStoriesAreExact = (limits : Limits) → IsSteady limits → StoriesAreExact limits

-- what a client with several sessions accepts in each of them, as long as it is in step
abbrev pub UsualLivesAccept : Type 0
UsualLivesAccept = AcceptsInEachSession usual_limits

-- what a client with several sessions accepts, for any limits whose window changes only at a new
-- ballot
abbrev pub SteadyLivesAccept : Type 0
SteadyLivesAccept = (limits : Limits) → IsSteady limits → AcceptsInEachSession limits

-- all that a client with several sessions is promised in this broker
abbrev pub UsualLivesAreExact : Type 0
UsualLivesAreExact = LivesAreExact usual_limits

-- what a client with several sessions is promised, for any limits whose window changes only at a
-- new ballot
abbrev pub SteadyLivesAreExact : Type 0
SteadyLivesAreExact = (limits : Limits) → IsSteady limits → LivesAreExact limits
