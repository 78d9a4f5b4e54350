-- The copies of publications that are added to a session's queue (MQTT 3.3.1.3, 3.3.5, 3.8.4), and
-- the states of an entry (MQTT 4.3).
use Rattle.std.specs.Prelude.{ℕ, Bool, true, false, if◌then◌else◌, List, [], ◌∷◌, ◌++◌, map, filter}
use Rattle.std.specs.Prelude.{Option, Some, None}
use Rattle.packet_base.specs.declared.qos.QoS.{QoS}
use Rattle.packet.specs.declared.subscribe.Subscription.{Subscription}
use Rattle.packet.specs.declared.packet.Packet.TheVariants as packets
use Rattle.retained.specs.declared.retained_publication.RetainedPublication.{RetainedPublication}
use Rattle.retained.specs.Retained.{RetainedTopics, matching_entries}
use Rattle.broker_spec.specs.Place.{Client, same_client, Mark, Place, Past}
use Rattle.session_base.specs.declared.publication.Publication.{Publication}
use Rattle.session_base.specs.Publication.{publication_of, is_answered}
use Rattle.packet_base.specs.QoS.{lower_qos}
use Rattle.broker_spec.specs.Subscriptions.{granted_of, effective_qos}
use Rattle.broker_spec.specs.Retained.{retained_publications}
use Rattle.broker_spec.specs.declared.command.Command.{Command}
use Rattle.broker_spec.specs.declared.command.Command.TheVariants as commands

-- ---- copies

-- the copy of a publication at this QoS, if there is one, with RETAIN 0 (MQTT 3.3.1.3)
abbrev pub copy_of : Publication → Option QoS → List Publication
copy_of publication (Some qos) =
    record { retain = false; qos = qos; topic = publication.topic; payload = publication.payload }
    ∷ []
copy_of publication None = []

-- the copy of a retained publication: with RETAIN 1, at the lower of its QoS and the requested one
abbrev pub retained_copy : QoS → List ℕ × RetainedPublication → Publication
retained_copy asked row =
    record {
      retain = true;
      qos = lower_qos asked row.1.qos;
      topic = row.0;
      payload = row.1.payload;
    }

-- the copies of the retained publications that a filter matches, by topic (MQTT 3.8.4)
abbrev pub copies_for : RetainedTopics → Subscription → List Publication
copies_for content subscription =
    map (retained_copy subscription.qos) (matching_entries content subscription.filter)

-- the copies for several filters, one filter after another
abbrev pub copies_for_all : RetainedTopics → List Subscription → List Publication
copies_for_all content (subscription ∷ more) =
    copies_for content subscription ++ copies_for_all content more
copies_for_all content [] = []

-- the copies that a command makes for a client's session, in order
abbrev pub copies_by : Command → Mark → Past → Client → List Publication
copies_by (commands.Packet connection (packets.Publish publish)) (Mark.Taken sender) past client =
    copy_of (publication_of publish) (effective_qos past client (publication_of publish))
copies_by (commands.Packet connection (packets.Subscribe subscribe)) (Mark.Granted sender which)
    past client =
    if same_client sender client
    then copies_for_all (retained_publications past) (granted_of subscribe.filters which) else []
copies_by _ _ past client = []

-- the copies that a place makes for a client's session
abbrev pub copies_at : Place → Past → Client → List Publication
copies_at place past client = copies_by place.command place.mark past client

-- the copies at QoS 1 and 2, which are queued
abbrev pub queued : List Publication → List Publication
queued = filter (λ publication. is_answered publication.qos)

-- ---- entries

-- A publication in a session's queue, with its state. The numbers are those of places: where the
-- entry was made, started, released (PUBREC, only at QoS 2) and finished (PUBACK or PUBCOMP).
pub data Entry : Type 0 where
  -- it was not sent yet
  Queued : (made : ℕ) → (publication : Publication) → Entry
  -- its PUBLISH was sent
  Sent : (made : ℕ) → (publication : Publication) → (id start : ℕ) → Entry
  -- PUBREC came
  Released : (made : ℕ) → (publication : Publication) → (id start release : ℕ) → Entry
  -- PUBACK or PUBCOMP came
  Done : (made : ℕ) → (publication : Publication) → (id start : ℕ) → (release : Option ℕ)
      → (finish : ℕ) → Entry

-- whether an entry takes room: all do until they are done
abbrev pub is_unfinished : Entry → Bool
is_unfinished (Entry.Done made publication id start release finish) = false
is_unfinished _ = true
