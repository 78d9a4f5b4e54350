-- The identifiers of QoS 2 publications that a session received and for which it has no PUBREL yet
-- (MQTT 4.3.3).
use Rattle.std.specs.Prelude.{ℕ, Bool, true, false, if◌then◌else◌, List, [], ◌∷◌}
use Rattle.packet.specs.declared.delivery.Delivery.{Delivery}
use Rattle.packet.specs.declared.delivery.Delivery.TheVariants as deliveries
use Rattle.packet.specs.declared.packet.Packet.TheVariants as packets
use Rattle.lists.specs.Lists.{has_id}
use Rattle.session_base.specs.Identifiers.{with_id, without_id}
use Rattle.broker_spec.specs.Place.{Client, same_client, Mark, Past}
use Rattle.broker_spec.specs.Sessions.{clean_session_of, begins, in_session}
use Rattle.broker_spec.specs.declared.command.Command.{Command}
use Rattle.broker_spec.specs.declared.command.Command.TheVariants as commands

-- a publication at QoS 2 adds its identifier
abbrev pub receives : Delivery → List ℕ → List ℕ
receives (deliveries.ExactlyOnce dup id) ids = with_id id ids
receives _ ids = ids

-- a taken PUBLISH of the client adds its identifier, and a PUBREL removes it
abbrev pub received_by : Command → Mark → Client → List ℕ → List ℕ
received_by (commands.Packet connection (packets.Publish publish)) (Mark.Taken sender) client ids =
    if same_client sender client then receives publish.delivery ids else ids
received_by (commands.Packet connection (packets.Pubrel id)) (Mark.Handled sender) client ids =
    if same_client sender client then without_id id ids else ids
received_by _ _ client ids = ids

-- the identifiers with which the client's session took a PUBLISH at QoS 2 and no PUBREL since,
-- ascending
unfoldable pub received_of : Past → Client → List ℕ
received_of [] client = []
received_of (place ∷ past) client =
    in_session (clean_session_of (place ∷ past) client) (begins place past client) []
    (received_by place.command place.mark client (received_of past client))

-- whether a delivery repeats one that the client's session took, whatever its DUP flag says
abbrev pub is_repeat : Past → Client → Delivery → Bool
is_repeat past client (deliveries.ExactlyOnce dup id) = has_id id (received_of past client)
is_repeat past client _ = false

-- a delivery at QoS 2
abbrev pub is_exactly_once : Delivery → Bool
is_exactly_once (deliveries.ExactlyOnce dup id) = true
is_exactly_once _ = false

-- whether a command brings a new publication: a PUBLISH at QoS 2 that is taken (MQTT 4.3.3)
abbrev pub is_new : Command → Mark → Bool
is_new (commands.Packet connection (packets.Publish publish)) (Mark.Taken client) =
    is_exactly_once publish.delivery
is_new _ _ = false
