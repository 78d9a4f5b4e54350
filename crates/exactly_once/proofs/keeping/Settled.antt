-- After each packet that it handles a client is online on its open connection, or has left it; and
-- what makes it served.
use Rattle.std.proofs.Common.{◌≡◌, ℕ, Bool, true, false, not, ◌&&◌, if◌then◌else◌, refl, sym, ◌∙◌, ◌⊎◌, inl, inr}
use Rattle.std.proofs.lemmas.Bool.{cases_Bool}
use Rattle.packet.specs.declared.connack.Connack.TheVariants as connacks
use Rattle.packet.specs.declared.delivery.Delivery.{Delivery}
use Rattle.packet.specs.declared.delivery.Delivery.TheVariants as deliveries
use Rattle.packet.specs.declared.packet.Packet.{Packet}
use Rattle.packet.specs.declared.packet.Packet.TheVariants as packets
use Rattle.session_base.specs.declared.publication.Publication.{Publication}
use Rattle.session_base.specs.Publication.{publication_of}
use Rattle.lists.specs.Lists.{has_id}
use Rattle.exactly_once.specs.Sides.{Side}
use Rattle.client_base.specs.Handled.{handled_online, handled_first, packet_handled}
use Rattle.client_base.specs.Handshakes.{is_sent_with, takes_in, pubrec_answered}
use Rattle.exactly_once.proofs.subscribing.Given.{one_handled}

-- online on an open connection that is confirmed
abbrev pub IsServedOn : Side → Type 0
IsServedOn side = (side.keeper.is_open ≡ true) × (side.keeper.is_online ≡ true) × (side.connection.confirmed ≡ true)

-- or it holds none
abbrev pub IsSettled : Side → Type 0
IsSettled side = IsServedOn side ⊎ ((side.keeper.is_open ≡ false) × (side.keeper.is_online ≡ false))

-- ---- online

-- what a packet leaves of it
pub record Leaves (before after : Side) : Type 0 where
  pub settled : IsServedOn before → IsSettled after
  pub served : after.keeper.was_served ≡ before.keeper.was_served

-- a PUBLISH
leaves_taking : (d : Delivery) (p : Publication) (side : Side) → Leaves side (takes_in d p side)
leaves_taking deliveries.AtMostOnce p side = record { settled = λ h. inl h; served = refl }
leaves_taking (deliveries.AtLeastOnce dup id) p side = record { settled = λ h. inl h; served = refl }
leaves_taking (deliveries.ExactlyOnce dup id) p side = by (cases_Bool (has_id id side.keeper.received))
  where
    by : (has_id id side.keeper.received ≡ true) ⊎ (has_id id side.keeper.received ≡ false) → Leaves side (takes_in (deliveries.ExactlyOnce dup id) p side)
    by (inl e) = rw e (record { settled = λ h. inl h; served = refl })
    by (inr e) = rw e (record { settled = λ h. inl h; served = refl })

-- a PUBREC
leaves_releasing : (id : ℕ) (side : Side) → Leaves side (pubrec_answered id side)
leaves_releasing id side = by (cases_Bool (is_sent_with id side.keeper.own)) (cases_Bool (has_id id side.keeper.releases))
  where
    by : (is_sent_with id side.keeper.own ≡ true) ⊎ (is_sent_with id side.keeper.own ≡ false) → (has_id id side.keeper.releases ≡ true) ⊎ (has_id id side.keeper.releases ≡ false) → Leaves side (pubrec_answered id side)
    by (inl e) f = rw e (record { settled = λ h. inl h; served = refl })
    by (inr e) (inl f) = rw (e, f) (record { settled = λ h. inl h; served = refl })
    by (inr e) (inr f) = rw (e, f) (record { settled = λ h. inl h; served = refl })

-- any packet
pub leaves_online : (packet : Packet) (side : Side) → Leaves side (handled_online packet side)
leaves_online (packets.Publish p) side = leaves_taking p.delivery (publication_of p) side
leaves_online (packets.Pubrec id) side = leaves_releasing id side
leaves_online (packets.Puback id) side = record { settled = λ h. inl h; served = refl }
leaves_online (packets.Pubcomp id) side = record { settled = λ h. inl h; served = refl }
leaves_online (packets.Pubrel id) side = record { settled = λ h. inl h; served = refl }
leaves_online (packets.Suback p) side = record { settled = λ h. inl h; served = refl }
leaves_online (packets.Unsuback id) side = record { settled = λ h. inl h; served = refl }
leaves_online packets.Pingresp side = record { settled = λ h. inl h; served = refl }
leaves_online _ side = record { settled = λ h. inr (refl, refl); served = refl }

-- ---- the first packet

-- it makes the client online, or ends the connection
pub settled_first : (packet : Packet) (side : Side) → side.keeper.is_open ≡ true → IsSettled (handled_first packet side)
settled_first (packets.Connack (connacks.Accepted present)) side opened = by (cases_Bool (not present && side.keeper.was_served))
  where
    by : ((not present && side.keeper.was_served) ≡ true) ⊎ ((not present && side.keeper.was_served) ≡ false) → IsSettled (handled_first (packets.Connack (connacks.Accepted present)) side)
    by (inl e) = rw e (inl (opened, refl, refl))
    by (inr e) = rw e (inl (opened, refl, refl))
settled_first _ side opened = inr (refl, refl)

-- only a CONNACK 0 makes it served
abbrev pub IsWelcome : Packet → Type 0
IsWelcome packet = (b : Bool) × (packet ≡ packets.Connack (connacks.Accepted b))

-- who is served was served, or is welcome
served_first : (packet : Packet) (side : Side) → (handled_first packet side).keeper.was_served ≡ true → (side.keeper.was_served ≡ true) ⊎ IsWelcome packet
served_first (packets.Connack (connacks.Accepted present)) side e = inr (present, refl)
served_first _ side e = inl e

-- ---- any packet that the client handles

-- if it is open, and online as far as its connection is confirmed
pub settled_handled : (packet : Packet) (side : Side) → side.keeper.is_open ≡ true → side.connection.confirmed ≡ side.keeper.is_online → IsSettled (packet_handled packet side)
settled_handled packet side opened same = by side.keeper.is_online refl
  where
    by : (b : Bool) → side.keeper.is_online ≡ b → IsSettled (if b then handled_online packet (one_handled side) else handled_first packet (one_handled side))
    by true e = (leaves_online packet (one_handled side)).settled (opened, e, same ∙ e)
    by false e = settled_first packet (one_handled side) opened

-- who is served was served, or is welcome
pub served_handled : (packet : Packet) (side : Side) → (packet_handled packet side).keeper.was_served ≡ true → (side.keeper.was_served ≡ true) ⊎ IsWelcome packet
served_handled packet side = by side.keeper.is_online
  where
    by : (b : Bool) → (if b then handled_online packet (one_handled side) else handled_first packet (one_handled side)).keeper.was_served ≡ true → (side.keeper.was_served ≡ true) ⊎ IsWelcome packet
    by true e = inl (sym (leaves_online packet (one_handled side)).served ∙ e)
    by false e = served_first packet (one_handled side) e
