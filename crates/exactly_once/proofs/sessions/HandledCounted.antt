-- What a client does to a packet does not depend on how many packets of its connection were taken.
use Rattle.std.proofs.Common.{◌≡◌, ℕ, Bool, true, false, if◌then◌else◌, [], ◌∷◌, ◌++◌, map, refl}
use Rattle.packet.specs.declared.connack.Connack.TheVariants as connacks
use Rattle.packet.specs.declared.delivery.Delivery.{Delivery}
use Rattle.packet.specs.declared.delivery.Delivery.TheVariants as deliveries
use Rattle.packet.specs.declared.packet.Packet.{Packet}
use Rattle.packet.specs.declared.packet.Packet.TheVariants as packets
use Rattle.session_base.specs.declared.publication.Publication.{Publication}
use Rattle.session_base.specs.Publication.{publication_of}
use Rattle.lists.specs.Lists.{has_id}
use Rattle.client_base.specs.Written.{plain, writing}
use Rattle.client_base.specs.Handled.{packet_handled, handled_online, handled_first}
use Rattle.client_base.specs.Handshakes.{own_at_pubrec, is_sent_with, takes_in, pubrec_answered}
use Rattle.exactly_once.specs.Sides.{Side}
use Rattle.exactly_once.proofs.subscribing.Given.{one_handled}

-- this many were taken
abbrev pub counting : ℕ → Side → Side
counting n side = record side { connection = record side.connection { taken = n } }

taking_counted : (n : ℕ) (d : Delivery) (p : Publication) (side : Side) → takes_in d p (counting n side) ≡ counting n (takes_in d p side)
taking_counted n deliveries.AtMostOnce p side = refl
taking_counted n (deliveries.AtLeastOnce dup id) p side = refl
taking_counted n (deliveries.ExactlyOnce dup id) p side = by (has_id id side.keeper.received)
  where
    by : (b : Bool) → writing (plain (packets.Pubrec id) ∷ []) (if b then counting n side else record {
      keeper = record side.keeper { received = id ∷ side.keeper.received };
      connection = record side.connection { taken = n; accepted = side.connection.accepted ++ p ∷ [] };
    })
        ≡ counting n (writing (plain (packets.Pubrec id) ∷ []) (if b then side else record {
          keeper = record side.keeper { received = id ∷ side.keeper.received };
          connection = record side.connection { accepted = side.connection.accepted ++ p ∷ [] };
        }))
    by true = refl
    by false = refl

releasing_counted : (n i : ℕ) (side : Side) → pubrec_answered i (counting n side) ≡ counting n (pubrec_answered i side)
releasing_counted n i side = by (is_sent_with i side.keeper.own) (has_id i side.keeper.releases)
  where
    by : (b r : Bool) → (if b then writing (plain (packets.Pubrel i) ∷ []) (record (counting n side) { keeper = record side.keeper { own = map (own_at_pubrec i) side.keeper.own; releases = side.keeper.releases ++ i ∷ [] } })
        else if r then writing (plain (packets.Pubrel i) ∷ []) (counting n side) else counting n side)
        ≡ counting n (if b then writing (plain (packets.Pubrel i) ∷ []) (record side { keeper = record side.keeper { own = map (own_at_pubrec i) side.keeper.own; releases = side.keeper.releases ++ i ∷ [] } })
        else if r then writing (plain (packets.Pubrel i) ∷ []) side else side)
    by true r = refl
    by false true = refl
    by false false = refl

online_counted : (n : ℕ) (packet : Packet) (side : Side) → handled_online packet (counting n side) ≡ counting n (handled_online packet side)
online_counted n (packets.Publish p) side = taking_counted n p.delivery (publication_of p) side
online_counted n (packets.Pubrec i) side = releasing_counted n i side
online_counted n _ side = refl

first_counted : (n : ℕ) (packet : Packet) (side : Side) → handled_first packet (counting n side) ≡ counting n (handled_first packet side)
first_counted n (packets.Connack (connacks.Accepted present)) side = refl
first_counted n (packets.Connack (connacks.Refused code)) side = refl
first_counted n _ side = refl

pub handled_counted : (n : ℕ) (packet : Packet) (side : Side) → packet_handled packet (counting n side) ≡ counting n (packet_handled packet side)
handled_counted n packet side = by side.keeper.is_online
  where
    by : (b : Bool) → (if b then handled_online packet (one_handled (counting n side)) else handled_first packet (one_handled (counting n side)))
        ≡ counting n (if b then handled_online packet (one_handled side) else handled_first packet (one_handled side))
    by true = online_counted n packet (one_handled side)
    by false = first_counted n packet (one_handled side)
