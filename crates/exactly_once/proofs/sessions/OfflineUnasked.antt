-- A client that is offline after a packet asks for nothing.
use Rattle.std.proofs.Common.{◌≡◌, ℕ, Bool, true, false, if◌then◌else◌, [], ◌∷◌, ◌++◌, map, refl}
use Rattle.std.proofs.lemmas.Bool.{both_ways}
use Rattle.packet.specs.declared.connack.Connack.TheVariants as connacks
use Rattle.packet.specs.declared.delivery.Delivery.{Delivery}
use Rattle.packet.specs.declared.delivery.Delivery.TheVariants as deliveries
use Rattle.packet.specs.declared.packet.Packet.{Packet}
use Rattle.packet.specs.declared.packet.Packet.TheVariants as packets
use Rattle.session_base.specs.Publication.{publication_of}
use Rattle.lists.specs.Lists.{has_id}
use Rattle.client_base.specs.Keeper.{Keeper}
use Rattle.client_base.specs.Written.{plain, writing}
use Rattle.client_base.specs.Handled.{packet_handled, handled_online, handled_first}
use Rattle.client_base.specs.Handshakes.{own_at_pubrec, is_sent_with, takes_in}
use Rattle.exactly_once.specs.Sides.{Side}
use Rattle.exactly_once.proofs.subscribing.Given.{one_handled}

abbrev pub IsUnasked : Keeper → Type 0
IsUnasked keeper = keeper.is_online ≡ false → keeper.requests ≡ []

online_unasked : (packet : Packet) (side : Side) → side.keeper.is_online ≡ true → IsUnasked (handled_online packet side).keeper
online_unasked (packets.Publish p) side on = by p.delivery
  where
    two : (b : Bool) (id : ℕ) → IsUnasked (writing (plain (packets.Pubrec id) ∷ []) (if b then side else record {
      keeper = record side.keeper { received = id ∷ side.keeper.received };
      connection = record side.connection { accepted = side.connection.accepted ++ publication_of p ∷ [] };
    })).keeper
    two true id e = absurd (both_ways side.keeper.is_online e on)
    two false id e = absurd (both_ways side.keeper.is_online e on)

    by : (d : Delivery) → IsUnasked (takes_in d (publication_of p) side).keeper
    by deliveries.AtMostOnce e = absurd (both_ways side.keeper.is_online e on)
    by (deliveries.AtLeastOnce dup id) e = absurd (both_ways side.keeper.is_online e on)
    by (deliveries.ExactlyOnce dup id) e = two (has_id id side.keeper.received) id e
online_unasked (packets.Pubrec i) side on = by (is_sent_with i side.keeper.own) (has_id i side.keeper.releases)
  where
    by : (b r : Bool) → IsUnasked (if b then writing (plain (packets.Pubrel i) ∷ [])
        (record side { keeper = record side.keeper { own = map (own_at_pubrec i) side.keeper.own; releases = side.keeper.releases ++ i ∷ [] } })
        else if r then writing (plain (packets.Pubrel i) ∷ []) side else side).keeper
    by true r e = absurd (both_ways side.keeper.is_online e on)
    by false true e = absurd (both_ways side.keeper.is_online e on)
    by false false e = absurd (both_ways side.keeper.is_online e on)
online_unasked (packets.Puback i) side on = λ e. absurd (both_ways side.keeper.is_online e on)
online_unasked (packets.Pubcomp i) side on = λ e. absurd (both_ways side.keeper.is_online e on)
online_unasked (packets.Pubrel i) side on = λ e. absurd (both_ways side.keeper.is_online e on)
online_unasked (packets.Suback q) side on = λ e. absurd (both_ways side.keeper.is_online e on)
online_unasked (packets.Unsuback i) side on = λ e. absurd (both_ways side.keeper.is_online e on)
online_unasked packets.Pingresp side on = λ e. absurd (both_ways side.keeper.is_online e on)
online_unasked _ side on = λ e. refl

first_unasked : (packet : Packet) (side : Side) → IsUnasked (handled_first packet side).keeper
first_unasked (packets.Connack (connacks.Accepted present)) side e = absurd (both_ways true e refl)
first_unasked (packets.Connack (connacks.Refused code)) side e = refl
first_unasked _ side e = refl

pub unasked_handled : (packet : Packet) (side : Side) → IsUnasked (packet_handled packet side).keeper
unasked_handled packet side = by side.keeper.is_online refl
  where
    by : (b : Bool) → side.keeper.is_online ≡ b → IsUnasked (if b then handled_online packet (one_handled side) else handled_first packet (one_handled side)).keeper
    by true on = online_unasked packet (one_handled side) on
    by false off = first_unasked packet (one_handled side)
