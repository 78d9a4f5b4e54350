-- Theorems about the places that take a publication (MQTT 3.3.5, 4.3.3).
use Rattle.std.specs.Prelude.{◌≡◌, Bool, true, false, List, [], ◌∷◌, length, filter, map}
use Rattle.std.specs.Prelude.{Option, Some}
use Rattle.packet_base.specs.declared.qos.QoS.{QoS}
use Rattle.packet_base.specs.declared.qos.QoS.TheVariants as qos_levels
use Rattle.packet.specs.declared.publish.Publish.{Publish}
use Rattle.session_base.specs.declared.publication.Publication.{Publication}
use Rattle.session_base.specs.Publication.{publication_of}
use Rattle.broker_spec.specs.Connection.{ConnectionName}
use Rattle.broker_spec.specs.Subscriptions.{effective_qos}
use Rattle.broker_spec.specs.Readings.{publication_in}
use Rattle.broker_spec.specs.EntryTheorems.{place_of_taken}
use Rattle.packet.specs.declared.packet.Packet.TheVariants as packets
use Rattle.broker_spec.specs.Place.{Client, Mark, Place, Past, Limits}
use Rattle.broker_spec.specs.Times.{entries_of}
use Rattle.broker_spec.specs.OriginTheorems.{is_from_publish}
use Rattle.broker_spec.specs.EndingTheorems.{StandsAt}
use Rattle.broker_spec.specs.declared.command.Command.{Command}
use Rattle.broker_spec.specs.declared.command.Command.TheVariants as commands

-- whether a publication is taken, at any QoS
abbrev pub takes_publication : Command → Mark → Bool
takes_publication (commands.Packet connection (packets.Publish publish)) (Mark.Taken client) = true
takes_publication _ _ = false

-- the copy of a publication at this QoS if it is queued: its topic and payload, and RETAIN 0 (MQTT
-- 3.3.1.3)
abbrev pub queued_at : Publication → Option QoS → List Publication
queued_at publication (Some qos_levels.AtLeastOnce) =
    record {
      retain = false;
      qos = qos_levels.AtLeastOnce;
      topic = publication.topic;
      payload = publication.payload;
    }
    ∷ []
queued_at publication (Some qos_levels.ExactlyOnce) =
    record {
      retain = false;
      qos = qos_levels.ExactlyOnce;
      topic = publication.topic;
      payload = publication.payload;
    }
    ∷ []
queued_at publication _ = []

-- at the place where it is taken a publication enters as it was published, at the effective QoS
abbrev pub EntersAsPublished : Type 0
EntersAsPublished =
    (limits : Limits) (past : Past) (connection : ConnectionName) (publish : Publish)
    (publisher receiver : Client)
    → map publication_in
    (filter (is_from_publish (length past))
    (entries_of limits (place_of_taken connection publish publisher ∷ past) receiver))
    ≡ queued_at (publication_of publish) (effective_qos past receiver (publication_of publish))

-- no session has an entry from a place that takes no publication, such as a repeat or a refused one
abbrev pub EntersWhereTaken : Type 0
EntersWhereTaken =
    (limits : Limits) (past : Past) (place : Place) (below : Past) (client : Client)
    → StandsAt past place below
    → takes_publication place.command place.mark ≡ false
    → length (filter (is_from_publish (length below)) (entries_of limits past client)) ≡ 0
