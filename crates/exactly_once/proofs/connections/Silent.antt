-- A packet that the client handles leaves a confirmed connection confirmed; if it leaves one
-- unconfirmed, nothing is written.
use Rattle.std.proofs.Common.{◌≡◌, ℕ, Bool, true, false, if◌then◌else◌, [], ◌∷◌, ◌++◌, map, refl, sym, ◌∙◌}
use Rattle.std.proofs.lemmas.Bool.{both_ways}
use Rattle.packet.specs.declared.connack.Connack.TheVariants as connacks
use Rattle.packet.specs.declared.delivery.Delivery.{Delivery}
use Rattle.packet.specs.declared.delivery.Delivery.TheVariants as deliveries
use Rattle.packet.specs.declared.packet.Packet.{Packet}
use Rattle.packet.specs.declared.packet.Packet.TheVariants as packets
use Rattle.session_base.specs.declared.publication.Publication.{Publication}
use Rattle.lists.specs.Lists.{has_id}
use Rattle.session_base.specs.Publication.{publication_of}
use Rattle.exactly_once.specs.Sides.{ClientConnection, Side}
use Rattle.client_base.specs.Keeper.{Keeper}
use Rattle.client_base.specs.Written.{plain, writing}
use Rattle.client_base.specs.Handled.{packet_handled, handled_online, handled_first}
use Rattle.client_base.specs.Handshakes.{own_at_pubrec, is_sent_with, takes_in, pubrec_answered}
use Rattle.exactly_once.proofs.publishing.Answered.{counted_side}

-- ---- what is confirmed stays so

-- after a PUBLISH
taking_confirmed : (d : Delivery) (p : Publication) (side : Side) → (takes_in d p side).connection.confirmed ≡ side.connection.confirmed
taking_confirmed deliveries.AtMostOnce p side = refl
taking_confirmed (deliveries.AtLeastOnce dup id) p side = refl
taking_confirmed (deliveries.ExactlyOnce dup id) p side = by (has_id id side.keeper.received)
  where
    by : (b : Bool) → (writing (plain (packets.Pubrec id) ∷ []) (if b then side else record {
      keeper = record side.keeper { received = id ∷ side.keeper.received };
      connection = record side.connection { accepted = side.connection.accepted ++ p ∷ [] };
    })).connection.confirmed ≡ side.connection.confirmed
    by true = refl
    by false = refl

-- after a PUBREC
releasing_confirmed : (i : ℕ) (side : Side) → (pubrec_answered i side).connection.confirmed ≡ side.connection.confirmed
releasing_confirmed i side = by (is_sent_with i side.keeper.own) (has_id i side.keeper.releases)
  where
    by : (b r : Bool) → (if b then writing (plain (packets.Pubrel i) ∷ [])
        (record side { keeper = record side.keeper { own = map (own_at_pubrec i) side.keeper.own; releases = side.keeper.releases ++ i ∷ [] } })
        else if r then writing (plain (packets.Pubrel i) ∷ []) side else side).connection.confirmed ≡ side.connection.confirmed
    by true r = refl
    by false true = refl
    by false false = refl

-- after any packet
online_confirmed : (packet : Packet) (side : Side) → (handled_online packet side).connection.confirmed ≡ side.connection.confirmed
online_confirmed (packets.Publish p) side = taking_confirmed p.delivery (publication_of p) side
online_confirmed (packets.Pubrec i) side = releasing_confirmed i side
online_confirmed _ side = refl

-- one that is not confirmed after a packet was not before, and wrote nothing
abbrev pub StaysSilent : ClientConnection → ClientConnection → Type 0
StaysSilent κ after = after.confirmed ≡ false → (κ.confirmed ≡ false) × (after.written ≡ κ.written)

-- after a first packet
first_silent : (packet : Packet) (keeper : Keeper) (κ : ClientConnection) → StaysSilent κ (handled_first packet (counted_side keeper κ)).connection
first_silent (packets.Connack (connacks.Accepted present)) keeper κ e = absurd (both_ways true e refl)
first_silent (packets.Connack (connacks.Refused code)) keeper κ e = (e, refl)
first_silent _ keeper κ e = (e, refl)

-- after any
pub handled_silent : (packet : Packet) (keeper : Keeper) (κ : ClientConnection) → (keeper.is_online ≡ true → κ.confirmed ≡ true) → StaysSilent κ (packet_handled packet (record { keeper = keeper; connection = κ })).connection
handled_silent packet keeper κ on = by keeper.is_online on
  where
    by : (b : Bool) → (b ≡ true → κ.confirmed ≡ true) → StaysSilent κ (if b then handled_online packet (counted_side keeper κ) else handled_first packet (counted_side keeper κ)).connection
    by true on e = absurd (both_ways κ.confirmed (sym (online_confirmed packet (counted_side keeper κ)) ∙ e) (on refl))
    by false on e = first_silent packet keeper κ e
