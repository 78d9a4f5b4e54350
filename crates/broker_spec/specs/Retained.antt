-- The retained publications (MQTT 3.3.1.3).
use Rattle.std.specs.Prelude.{Bool, not, ◌&&◌, nat_le, if◌then◌else◌, [], ◌∷◌, length, is_none}
use Rattle.packet.specs.declared.packet.Packet.TheVariants as packets
use Rattle.retained.specs.Retained.{RetainedTopics, after_put, is_empty, publication_on}
use Rattle.broker_spec.specs.Place.{Mark, Past, Limits}
use Rattle.session_base.specs.declared.publication.Publication.{Publication}
use Rattle.session_base.specs.Publication.{publication_of}
use Rattle.broker_spec.specs.declared.command.Command.{Command}
use Rattle.broker_spec.specs.declared.command.Command.TheVariants as commands

-- a publication with RETAIN 1 replaces the topic's last one, or removes it if its payload is empty
abbrev pub retains : Publication → RetainedTopics → RetainedTopics
retains publication content =
    if publication.retain
    then after_put content publication.topic publication.qos publication.payload else content

-- a taken publication is retained
abbrev pub retained_by : Command → Mark → RetainedTopics → RetainedTopics
retained_by (commands.Packet connection (packets.Publish publish)) (Mark.Taken client) content =
    retains (publication_of publish) content
retained_by _ _ content = content

-- for each topic, in the order of bytes, the last taken publication with RETAIN 1; none if its
-- payload is empty
unfoldable pub retained_publications : Past → RetainedTopics
retained_publications [] = []
retained_publications (place ∷ past) =
    retained_by place.command place.mark (retained_publications past)

-- whether retaining the publication would exceed the topic limit
abbrev pub is_retained_over : Limits → Past → Publication → Bool
is_retained_over limits past publication =
    publication.retain && not (is_empty publication.payload)
    && is_none (publication_on publication.topic (retained_publications past))
    && nat_le limits.retained (length (retained_publications past))
