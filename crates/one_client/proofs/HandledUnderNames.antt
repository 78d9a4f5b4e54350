-- What a client does to a packet does not depend on the name of its connection.
use Rattle.std.proofs.Common.{◌≡◌, ℕ, suc, Bool, true, false, not, ◌&&◌, if◌then◌else◌, [], ◌∷◌, ◌++◌, map, refl}
use Rattle.packet.specs.declared.connack.Connack.TheVariants as connacks
use Rattle.packet.specs.declared.delivery.Delivery.{Delivery}
use Rattle.packet.specs.declared.delivery.Delivery.TheVariants as deliveries
use Rattle.packet.specs.declared.packet.Packet.{Packet}
use Rattle.packet.specs.declared.packet.Packet.TheVariants as packets
use Rattle.session_base.specs.declared.publication.Publication.{Publication}
use Rattle.session_base.specs.Publication.{publication_of}
use Rattle.broker_spec.specs.Connection.{ConnectionName}
use Rattle.lists.specs.Lists.{has_id}
use Rattle.client_base.specs.Handled.{confirmed, discarded, packet_handled, handled_first, handled_online}
use Rattle.client_base.specs.Handshakes.{own_at_pubrec, is_sent_with, pubrec_answered, takes_in}
use Rattle.client_base.specs.Keeper.{Keeper}
use Rattle.client_base.specs.Written.{plain, resent_written, sent_all, writing}
use Rattle.exactly_once.specs.Sides.{Side}

abbrev pub under_name : ConnectionName → Side → Side
under_name x side = record side { connection = record side.connection { name = x } }

-- ---- a PUBREC

abbrev releases : ℕ → Side → Side
releases id side =
    writing (plain (packets.Pubrel id) ∷ [])
    (record side { keeper = record side.keeper { own = map (own_at_pubrec id) side.keeper.own; releases = side.keeper.releases ++ id ∷ [] } })

abbrev releasing_by : Bool → Bool → ℕ → Side → Side
releasing_by sent kept id side = if sent then releases id side else if kept then writing (plain (packets.Pubrel id) ∷ []) side else side

releasing_under : (x : ConnectionName) (id : ℕ) (side : Side) → under_name x (pubrec_answered id side) ≡ pubrec_answered id (under_name x side)
releasing_under x id side = by (is_sent_with id side.keeper.own) (has_id id side.keeper.releases)
  where
    by : (sent kept : Bool) → under_name x (releasing_by sent kept id side) ≡ releasing_by sent kept id (under_name x side)
    by true kept = refl
    by false true = refl
    by false false = refl

-- ---- a PUBLISH

abbrev accepting_by : Bool → ℕ → Publication → Side → Side
accepting_by is_kept id p side =
    writing (plain (packets.Pubrec id) ∷ [])
    (if is_kept then side
    else record {
      keeper = record side.keeper { received = id ∷ side.keeper.received };
      connection = record side.connection { accepted = side.connection.accepted ++ p ∷ [] };
    })

taking_under : (x : ConnectionName) (d : Delivery) (p : Publication) (side : Side) → under_name x (takes_in d p side) ≡ takes_in d p (under_name x side)
taking_under x deliveries.AtMostOnce p side = refl
taking_under x (deliveries.AtLeastOnce dup id) p side = refl
taking_under x (deliveries.ExactlyOnce dup id) p side = by (has_id id side.keeper.received)
  where
    by : (is_kept : Bool) → under_name x (accepting_by is_kept id p side) ≡ accepting_by is_kept id p (under_name x side)
    by true = refl
    by false = refl

-- ---- a CONNACK

abbrev confirming_by : Keeper → Side → Side
confirming_by kept side =
    record {
      keeper = record kept { own = sent_all kept.own; is_online = true; was_served = true };
      connection = record side.connection { written = side.connection.written ++ resent_written kept; confirmed = true };
    }

confirmed_under : (x : ConnectionName) (present : Bool) (side : Side) → under_name x (confirmed present side) ≡ confirmed present (under_name x side)
confirmed_under x present side = by (not present && side.keeper.was_served)
  where
    by : (gone : Bool) → under_name x (confirming_by (if gone then discarded side.keeper else side.keeper) side)
        ≡ confirming_by (if gone then discarded side.keeper else side.keeper) (under_name x side)
    by true = refl
    by false = refl

-- ---- each packet

online_under : (x : ConnectionName) (packet : Packet) (side : Side) → under_name x (handled_online packet side) ≡ handled_online packet (under_name x side)
online_under x (packets.Publish p) side = taking_under x p.delivery (publication_of p) side
online_under x (packets.Pubrec id) side = releasing_under x id side
online_under x _ side = refl

first_under : (x : ConnectionName) (packet : Packet) (side : Side) → under_name x (handled_first packet side) ≡ handled_first packet (under_name x side)
first_under x (packets.Connack (connacks.Accepted present)) side = confirmed_under x present side
first_under x _ side = refl

abbrev counted : Side → Side
counted side = record side { connection = record side.connection { handled = suc side.connection.handled } }

pub handled_under : (x : ConnectionName) (packet : Packet) (side : Side) → under_name x (packet_handled packet side) ≡ packet_handled packet (under_name x side)
handled_under x packet side = by side.keeper.is_online
  where
    by : (online : Bool) → under_name x (if online then handled_online packet (counted side) else handled_first packet (counted side))
        ≡ (if online then handled_online packet (counted (under_name x side)) else handled_first packet (counted (under_name x side)))
    by true = online_under x packet (counted side)
    by false = first_under x packet (counted side)
