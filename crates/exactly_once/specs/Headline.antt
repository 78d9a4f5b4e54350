-- What holds for one client's story, whatever happens: publications once and in order, and what it
-- accepts.
use Rattle.client_base.specs.Keeper.{all_own}
use Rattle.std.specs.Prelude.{◌≡◌, ◌≤◌, ℕ, ◌+◌, if◌then◌else◌, List, [], ◌∷◌, ◌++◌, length, map, filter, Some, slice_get}
use Rattle.packet.specs.declared.publish.Publish.{Publish}
use Rattle.packet.specs.declared.packet.Packet.{Packet}
use Rattle.packet.specs.declared.packet.Packet.TheVariants as packets
use Rattle.session_base.specs.Publication.{publication_of}
use Rattle.broker_spec.specs.Connection.{ConnectionName}
use Rattle.broker_spec.specs.Place.{Client, Place, Past, Limits, Mark}
use Rattle.broker_spec.specs.Subscriptions.{effective_qos}
use Rattle.broker_spec.specs.Marks.{is_queued_at}
use Rattle.broker_spec.specs.Entries.{Entry}
use Rattle.broker_spec.specs.Readings.{publication_in}
use Rattle.broker_spec.specs.Times.{entries_of}
use Rattle.broker_spec.specs.AnswersInOrder.{answers_at}
use Rattle.broker_spec.specs.OriginTheorems.{is_from_publish}
use Rattle.broker_spec.specs.EndingTheorems.{StandsAt}
use Rattle.broker_spec.specs.TakenTheorems.{queued_at}
use Rattle.broker_spec.specs.declared.command.Command.TheVariants as commands
use Rattle.broker_spec.specs.declared.command.Output.TheVariants.{Send}
use Rattle.lists.specs.Lists.{In, IsPrefixOf}
use Rattle.exactly_once.specs.Sides.{ClientConnection}
use Rattle.exactly_once.specs.Story.{Story}
use Rattle.exactly_once.specs.StoryTrace.{StoryTrace}
use Rattle.exactly_once.specs.Carried.{is_this, carries, new_numbers, own_publications, own_qos2_numbers}
use Rattle.exactly_once.specs.Acceptance.{AcceptedInOrder}

-- ---- publishers

-- one of the answers of this place is of this kind, to the place's own connection
abbrev pub IsAnsweredBy : Limits → Place → Past → ConnectionName → Packet → Type 0
IsAnsweredBy limits place below connection packet =
    In (Send connection packet) (answers_at limits place below)

-- how many of these entries come from places that carry the client's publication of this number
abbrev pub made_by : List ClientConnection → ℕ → Past → List Entry → ℕ
made_by connections number (place ∷ below) entries =
    (if is_this number (carries connections place.command below)
    then length (filter (is_from_publish (length below)) entries) else 0)
    + made_by connections number below entries
made_by connections number [] entries = 0

-- the client's publication of this number is taken at this place, on one of its own connections
pub record IsTakenAt (story : Story) (number : ℕ) (place : Place) (below : Past) : Type 0 where
  pub stands : StandsAt story.past place below
  pub carried : carries story.connections place.command below ≡ Some number
  pub taken : place.mark ≡ Mark.Taken story.keeper.client

-- each of the publisher's publications, in one session or several
pub record EachPublished (limits : Limits) (story : Story) : Type 0 where
  -- a place that carries one has its PUBLISH
  pub carried : (place : Place) (below : Past) (connection : ConnectionName) (publish : Publish)
      (number : ℕ) →
      StandsAt story.past place below →
      carries story.connections place.command below ≡ Some number →
      place.command ≡ commands.Packet connection (packets.Publish publish) →
      slice_get (own_publications (all_own story.keeper)) number ≡ Some (publication_of publish)
  -- each that is new is taken at a place
  pub taken : (number : ℕ) → In number (new_numbers story.connections story.past) →
      (place : Place) × (below : Past) × IsTakenAt story number place below
  -- one that was answered is new
  pub answered : (place : Place) (below : Past) (connection : ConnectionName) (id number : ℕ) →
      StandsAt story.past place below →
      carries story.connections place.command below ≡ Some number →
      IsAnsweredBy limits place below connection (packets.Pubrec id) →
      In number (new_numbers story.connections story.past)
  -- each enters each session at most once: at any time a session is looked at, it has at most one
  -- entry of all the places that carry the publication
  pub enters_once : (later earlier : Past) (receiver : Client) (number : ℕ) →
      story.past ≡ later ++ earlier →
      In number (own_qos2_numbers (all_own story.keeper)) →
      made_by story.connections number story.past (entries_of limits earlier receiver) ≤ 1
  -- if a publication is taken, at any QoS, it enters exactly the sessions with an effective QoS
  -- over 0, once
  pub enters : (place : Place) (below : Past) (connection : ConnectionName) (publish : Publish)
      (receiver : Client) →
      StandsAt story.past place below →
      place.command ≡ commands.Packet connection (packets.Publish publish) →
      place.mark ≡ Mark.Taken story.keeper.client →
      length (filter (is_from_publish (length below)) (entries_of limits (place ∷ below) receiver))
      ≡ (if is_queued_at (effective_qos below receiver (publication_of publish)) then 1 else 0)
  -- as it was published, at the effective QoS
  pub enters_as : (place : Place) (below : Past) (connection : ConnectionName) (publish : Publish)
      (receiver : Client) →
      StandsAt story.past place below →
      place.command ≡ commands.Packet connection (packets.Publish publish) →
      place.mark ≡ Mark.Taken story.keeper.client →
      map publication_in
      (filter (is_from_publish (length below)) (entries_of limits (place ∷ below) receiver))
      ≡ queued_at (publication_of publish) (effective_qos below receiver (publication_of publish))
  -- one at QoS 1 that was answered is taken at the place that is answered
  pub acknowledged : (place : Place) (below : Past) (connection : ConnectionName) (id number : ℕ) →
      StandsAt story.past place below →
      carries story.connections place.command below ≡ Some number →
      IsAnsweredBy limits place below connection (packets.Puback id) →
      IsTakenAt story number place below

-- the publisher's publications
pub record PublishedOnce (limits : Limits) (story : Story) : Type 0 where
  pub each : EachPublished limits story
  -- those at QoS 2 are new in the list in the order of the calls, each at most once
  pub in_order : IsPrefixOf (new_numbers story.connections story.past)
      (own_qos2_numbers story.keeper.own)

-- ---- the whole

-- one story is exact: its client as a publisher, and as a subscriber
pub record ExactlyOnce (limits : Limits) (story : Story) : Type 0 where
  pub publishers : PublishedOnce limits story
  pub subscribers : AcceptedInOrder limits story

-- every story is exact
abbrev pub StoriesAreExact : Limits → Type 0
StoriesAreExact limits =
    (client : Client) (story : Story) → StoryTrace limits client story → ExactlyOnce limits story
