-- What the client handles keeps what it published, and all that it writes then is of it.
use Rattle.std.proofs.Common.{◌≡◌, ℕ, suc, Bool, true, false, not, ◌&&◌, if◌then◌else◌, [], ◌∷◌, ◌++◌, map, refl, ap, length}
use Rattle.packet.specs.declared.connack.Connack.TheVariants as connacks
use Rattle.packet.specs.declared.delivery.Delivery.{Delivery}
use Rattle.packet.specs.declared.delivery.Delivery.TheVariants as deliveries
use Rattle.packet.specs.declared.packet.Packet.{Packet}
use Rattle.packet.specs.declared.packet.Packet.TheVariants as packets
use Rattle.session_base.specs.declared.publication.Publication.{Publication}
use Rattle.session_base.specs.Publication.{publication_of}
use Rattle.lists.specs.Lists.{has_id, Each}
use Rattle.lists.proofs.OfEach.{each_append}
use Rattle.client_base.specs.Keeper.{Keeper, all_own}
use Rattle.client_base.specs.Written.{plain, writing, resent_written, sent_all}
use Rattle.client_base.specs.Handled.{discarded, confirmed, packet_handled, handled_online, handled_first}
use Rattle.client_base.specs.Handshakes.{own_at_pubrec, is_sent_with, takes_in, pubrec_answered, own_at_puback, own_at_pubcomp}
use Rattle.exactly_once.specs.Sides.{ClientConnection, Side}
use Rattle.exactly_once.specs.Carried.{own_publications}
use Rattle.client_base.specs.OrderTheorems.{AreNumbered}
use Rattle.std.proofs.lemmas.List.{append-nil}
use Rattle.exactly_once.proofs.publishing.Answered.{counted_side}
use Rattle.exactly_once.proofs.carrying.Publications.{IsOfOwn, plain_of, said_puback, said_pubrec, said_pubcomp, said_sent, resent_of, said_after}

pub record Handles (keeper : Keeper) (κ : ClientConnection) (side : Side) : Type 0 where
  pub said : own_publications (all_own side.keeper) ≡ own_publications (all_own keeper)
  pub of : Each (IsOfOwn (own_publications (all_own keeper))) κ.written → Each (IsOfOwn (own_publications (all_own keeper))) side.connection.written

-- one packet more is written
one_more : (keeper : Keeper) (κ : ClientConnection) (packet : Packet) → Each (IsOfOwn (own_publications (all_own keeper))) κ.written
    → Each (IsOfOwn (own_publications (all_own keeper))) (κ.written ++ plain packet ∷ [])
one_more keeper κ packet all = each_append (IsOfOwn (own_publications (all_own keeper))) κ.written (plain packet ∷ []) all (plain_of (own_publications (all_own keeper)) packet, tt)

-- after a PUBLISH
publish_handles : (keeper : Keeper) (κ : ClientConnection) (d : Delivery) (p : Publication) → Handles keeper κ (takes_in d p (counted_side keeper κ))
publish_handles keeper κ deliveries.AtMostOnce p = record { said = refl; of = λ all. all }
publish_handles keeper κ (deliveries.AtLeastOnce dup id) p = record { said = refl; of = one_more keeper κ (packets.Puback id) }
publish_handles keeper κ (deliveries.ExactlyOnce dup id) p = by (has_id id keeper.received)
  where
    by : (b : Bool) → Handles keeper κ (writing (plain (packets.Pubrec id) ∷ []) (if b then counted_side keeper κ else record {
      keeper = record keeper { received = id ∷ keeper.received };
      connection = record κ { handled = suc κ.handled; accepted = κ.accepted ++ p ∷ [] };
    }))
    by true = record { said = refl; of = one_more keeper κ (packets.Pubrec id) }
    by false = record { said = refl; of = one_more keeper κ (packets.Pubrec id) }

-- after a PUBREC
pubrec_handles : (keeper : Keeper) (κ : ClientConnection) (i : ℕ) → Handles keeper κ (pubrec_answered i (counted_side keeper κ))
pubrec_handles keeper κ i = by (is_sent_with i keeper.own) (has_id i keeper.releases)
  where
    by : (b r : Bool) → Handles keeper κ (if b then writing (plain (packets.Pubrel i) ∷ [])
        (counted_side (record keeper { own = map (own_at_pubrec i) keeper.own; releases = keeper.releases ++ i ∷ [] }) κ)
        else if r then writing (plain (packets.Pubrel i) ∷ []) (counted_side keeper κ) else counted_side keeper κ)
    by true r = record { said = said_after keeper.earlier keeper.own (map (own_at_pubrec i) keeper.own) (said_pubrec i keeper.own); of = one_more keeper κ (packets.Pubrel i) }
    by false true = record { said = refl; of = one_more keeper κ (packets.Pubrel i) }
    by false false = record { said = refl; of = λ all. all }

online_handles : (keeper : Keeper) (κ : ClientConnection) (packet : Packet) → Handles keeper κ (handled_online packet (counted_side keeper κ))
online_handles keeper κ (packets.Publish p) = publish_handles keeper κ p.delivery (publication_of p)
online_handles keeper κ (packets.Puback i) = record { said = said_after keeper.earlier keeper.own (map (own_at_puback i) keeper.own) (said_puback i keeper.own); of = λ all. all }
online_handles keeper κ (packets.Pubrec i) = pubrec_handles keeper κ i
online_handles keeper κ (packets.Pubcomp i) = record { said = said_after keeper.earlier keeper.own (map (own_at_pubcomp i) keeper.own) (said_pubcomp i keeper.own); of = λ all. all }
online_handles keeper κ (packets.Pubrel i) = record { said = refl; of = one_more keeper κ (packets.Pubcomp i) }
online_handles keeper κ _ = record { said = refl; of = λ all. all }

-- after a CONNACK 0, whether it discards what was kept or not
confirmed_handles : (keeper : Keeper) (κ : ClientConnection) (present : Bool) → AreNumbered (length keeper.earlier) keeper.own → Handles keeper κ (confirmed present (counted_side keeper κ))
confirmed_handles keeper κ present numbered = by (not present && keeper.was_served)
  where
    by : (gone : Bool) → Handles keeper κ (let kept = if gone then discarded keeper else keeper in record {
      keeper = record kept { own = sent_all kept.own; is_online = true; was_served = true };
      connection = record κ { written = κ.written ++ resent_written kept; handled = suc κ.handled; confirmed = true };
    })
    by true =
        record {
          said = ap own_publications (append-nil (all_own keeper));
          of = λ all. each_append (IsOfOwn (own_publications (all_own keeper))) κ.written [] all tt;
        }
    by false =
        record {
          said = said_after keeper.earlier keeper.own (sent_all keeper.own) (said_sent keeper.own);
          of = λ all. each_append (IsOfOwn (own_publications (all_own keeper))) κ.written (resent_written keeper) all (resent_of keeper numbered);
        }

first_handles : (keeper : Keeper) (κ : ClientConnection) (packet : Packet) → AreNumbered (length keeper.earlier) keeper.own → Handles keeper κ (handled_first packet (counted_side keeper κ))
first_handles keeper κ (packets.Connack (connacks.Accepted present)) numbered = confirmed_handles keeper κ present numbered
first_handles keeper κ (packets.Connack (connacks.Refused code)) numbered = record { said = refl; of = λ all. all }
first_handles keeper κ _ numbered = record { said = refl; of = λ all. all }

pub handles : (keeper : Keeper) (κ : ClientConnection) (packet : Packet) → AreNumbered (length keeper.earlier) keeper.own → Handles keeper κ (packet_handled packet (record { keeper = keeper; connection = κ }))
handles keeper κ packet numbered = by keeper.is_online
  where
    by : (b : Bool) → Handles keeper κ (if b then handled_online packet (counted_side keeper κ) else handled_first packet (counted_side keeper κ))
    by true = online_handles keeper κ packet
    by false = first_handles keeper κ packet numbered
