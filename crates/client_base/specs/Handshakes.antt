-- The effect of a packet from the server on the handshakes of a client with its history (MQTT 4.3).
use Rattle.std.specs.Prelude.{ℕ, Bool, false, not, ◌&&◌, ◌||◌, ◌==◌, if◌then◌else◌, List, [], ◌∷◌}
use Rattle.std.specs.Prelude.{◌++◌, map}
use Rattle.packet.specs.declared.delivery.Delivery.{Delivery}
use Rattle.packet.specs.declared.delivery.Delivery.TheVariants as deliveries
use Rattle.packet.specs.declared.packet.Packet.TheVariants as packets
use Rattle.session_base.specs.declared.publication.Publication.{Publication}
use Rattle.session_base.specs.Publication.{is_qos1}
use Rattle.lists.specs.Lists.{has_id}
use Rattle.client_base.specs.Keeper.{Own, Side}
use Rattle.client_base.specs.Written.{plain, writing}

-- a publication at PUBACK: one of QoS 1 with this identifier is done
abbrev pub own_at_puback : ℕ → Own → Own
own_at_puback given (Own.Sent number publication id) =
    if (given == id) && is_qos1 publication.qos
    then Own.Done number publication
    else Own.Sent number publication id
own_at_puback given own = own

-- at PUBREC: one of QoS 2 with this identifier is released
abbrev pub own_at_pubrec : ℕ → Own → Own
own_at_pubrec given (Own.Sent number publication id) =
    if (given == id) && not (is_qos1 publication.qos)
    then Own.Released number publication id
    else Own.Sent number publication id
own_at_pubrec given own = own

-- at PUBCOMP: a released one with this identifier is done
abbrev pub own_at_pubcomp : ℕ → Own → Own
own_at_pubcomp given (Own.Released number publication id) =
    if given == id then Own.Done number publication else Own.Released number publication id
own_at_pubcomp given own = own

-- whether a sent publication of QoS 2 has this identifier
abbrev pub is_sent_with : ℕ → List Own → Bool
is_sent_with given (Own.Sent number publication id ∷ own) =
    ((given == id) && not (is_qos1 publication.qos)) || is_sent_with given own
is_sent_with given (_ ∷ own) = is_sent_with given own
is_sent_with given [] = false

-- PUBREC is answered by PUBREL, each time
abbrev pub pubrec_answered : {Name : Type 0} → ℕ → Side Name → Side Name
pubrec_answered id side =
    if is_sent_with id side.keeper.own
    then writing (plain (packets.Pubrel id) ∷ [])
    (record side {
      keeper = record side.keeper {
        own = map (own_at_pubrec id) side.keeper.own;
        releases = side.keeper.releases ++ id ∷ [];
      };
    })
    else if has_id id side.keeper.releases then writing (plain (packets.Pubrel id) ∷ []) side
    else side

-- a publication from the server: at QoS 1 and 2 it is acknowledged, and a repeat at QoS 2 is not
-- accepted again
abbrev pub takes_in : {Name : Type 0} → Delivery → Publication → Side Name → Side Name
takes_in deliveries.AtMostOnce publication side = side
takes_in (deliveries.AtLeastOnce dup id) publication side =
    writing (plain (packets.Puback id) ∷ []) side
takes_in (deliveries.ExactlyOnce dup id) publication side =
    writing (plain (packets.Pubrec id) ∷ [])
    (if has_id id side.keeper.received then side
    else record {
      keeper = record side.keeper { received = id ∷ side.keeper.received };
      connection = record side.connection {
        accepted = side.connection.accepted ++ publication ∷ [];
      };
    })
