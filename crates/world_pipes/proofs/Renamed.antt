-- Renamed.antt: what a client does to a packet does not depend on the names of its connections.
use Rattle.std.proofs.Common.{◌≡◌, ℕ, suc, Bool, true, false, if◌then◌else◌, refl}
use Rattle.packet.specs.declared.connack.Connack.TheVariants as connacks
use Rattle.packet.specs.declared.delivery.Delivery.{Delivery}
use Rattle.packet.specs.declared.delivery.Delivery.TheVariants as deliveries
use Rattle.packet.specs.declared.packet.Packet.{Packet}
use Rattle.packet.specs.declared.packet.Packet.TheVariants as packets
use Rattle.session_base.specs.declared.publication.Publication.{Publication}
use Rattle.session_base.specs.Publication.{publication_of}
use Rattle.lists.specs.Lists.{has_id}
use Rattle.client_base.specs.Keeper as keepers
use Rattle.client_base.specs.Handled.{packet_handled, handled_first, handled_online}
use Rattle.client_base.specs.Handshakes.{is_sent_with, pubrec_answered, takes_in}
use Rattle.exactly_once.specs.Sides.{ClientConnection, Side}

-- a side whose connection has a number for a name
abbrev pub renamed_connection : ClientConnection → keepers.ClientConnection ℕ
renamed_connection κ =
    record { name = 0; written = κ.written; taken = κ.taken; handled = κ.handled; confirmed = κ.confirmed; accepted = κ.accepted }

abbrev pub renamed : Side → keepers.Side ℕ
renamed side = record { keeper = side.keeper; connection = renamed_connection side.connection }

either : (b : Bool) (one other : Side) → renamed (if b then one else other) ≡ (if b then renamed one else renamed other)
either true one other = refl
either false one other = refl

takes_in_renamed : (delivery : Delivery) (p : Publication) (side : Side) → takes_in delivery p (renamed side) ≡ renamed (takes_in delivery p side)
takes_in_renamed deliveries.AtMostOnce p side = refl
takes_in_renamed (deliveries.AtLeastOnce dup id) p side = refl
takes_in_renamed (deliveries.ExactlyOnce dup id) p side = by (has_id id side.keeper.received) refl
  where
    by : (b : Bool) → has_id id side.keeper.received ≡ b → takes_in (deliveries.ExactlyOnce dup id) p (renamed side) ≡ renamed (takes_in (deliveries.ExactlyOnce dup id) p side)
    by true e = rw e refl
    by false e = rw e refl

releasing_renamed : (id : ℕ) (side : Side) → pubrec_answered id (renamed side) ≡ renamed (pubrec_answered id side)
releasing_renamed id side = by (is_sent_with id side.keeper.own) refl (has_id id side.keeper.releases) refl
  where
    by : (b : Bool) → is_sent_with id side.keeper.own ≡ b → (c : Bool) → has_id id side.keeper.releases ≡ c → pubrec_answered id (renamed side) ≡ renamed (pubrec_answered id side)
    by true e c f = rw e refl
    by false e true f = rw (e, f) refl
    by false e false f = rw (e, f) refl

online_renamed : (packet : Packet) (side : Side) → handled_online packet (renamed side) ≡ renamed (handled_online packet side)
online_renamed (packets.Publish p) side = takes_in_renamed p.delivery (publication_of p) side
online_renamed (packets.Pubrec i) side = releasing_renamed i side
online_renamed (packets.Puback i) side = refl
online_renamed (packets.Pubcomp i) side = refl
online_renamed (packets.Pubrel i) side = refl
online_renamed (packets.Suback s) side = refl
online_renamed (packets.Unsuback i) side = refl
online_renamed packets.Pingresp side = refl
online_renamed packets.Pingreq side = refl
online_renamed packets.Disconnect side = refl
online_renamed (packets.Connect c) side = refl
online_renamed (packets.Connack c) side = refl
online_renamed (packets.Subscribe s) side = refl
online_renamed (packets.Unsubscribe s) side = refl

first_renamed : (packet : Packet) (side : Side) → handled_first packet (renamed side) ≡ renamed (handled_first packet side)
first_renamed (packets.Connack (connacks.Accepted present)) side = refl
first_renamed (packets.Connack (connacks.Refused code)) side = refl
first_renamed _ side = refl

handled_where : (b : Bool) (packet : Packet) (side : Side) →
    (if b then handled_online packet (renamed side) else handled_first packet (renamed side)) ≡ renamed (if b then handled_online packet side else handled_first packet side)
handled_where true packet side = online_renamed packet side
handled_where false packet side = first_renamed packet side

pub handled_renamed : (packet : Packet) (side : Side) → packet_handled packet (renamed side) ≡ renamed (packet_handled packet side)
handled_renamed packet side =
    handled_where side.keeper.is_online packet (record side { connection = record side.connection { handled = suc side.connection.handled } })
