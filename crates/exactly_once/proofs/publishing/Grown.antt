-- What a packet that the client handles does to its newest connection: one more is handled, and
-- more may be written.
use Rattle.std.proofs.Common.{◌≡◌, ℕ, suc, Bool, true, false, not, ◌&&◌, if◌then◌else◌, List, [], ◌∷◌, ◌++◌, map, refl, sym}
use Rattle.std.proofs.lemmas.List.{append-nil}
use Rattle.packet.specs.declared.connack.Connack.TheVariants as connacks
use Rattle.packet.specs.declared.delivery.Delivery.{Delivery}
use Rattle.packet.specs.declared.delivery.Delivery.TheVariants as deliveries
use Rattle.packet.specs.declared.packet.Packet.{Packet}
use Rattle.packet.specs.declared.packet.Packet.TheVariants as packets
use Rattle.session_base.specs.declared.publication.Publication.{Publication}
use Rattle.lists.specs.Lists.{has_id, Each}
use Rattle.session_base.specs.Publication.{publication_of}
use Rattle.lists.proofs.OfEach.{each_append}
use Rattle.client_base.specs.Keeper.{Own, Written, Keeper}
use Rattle.exactly_once.specs.Sides.{ClientConnection, Side}
use Rattle.client_base.specs.Written.{plain, writing, written_again, written_first, resent_written}
use Rattle.client_base.specs.Handled.{discarded, confirmed, packet_handled, handled_online, handled_first}
use Rattle.client_base.specs.Handshakes.{pubrec_answered}
use Rattle.client_base.specs.Handshakes.{takes_in}
use Rattle.client_base.specs.Handshakes.{is_sent_with}
use Rattle.client_base.specs.Handshakes.{own_at_pubrec}
use Rattle.exactly_once.specs.Inside.ConnectionShape.{is_two_unnumbered, is_connect}
use Rattle.exactly_once.proofs.publishing.Answered.{counted_side}

-- a later packet: no CONNECT, and a PUBLISH of QoS 2 has its number
abbrev pub IsLater : Written → Type 0
IsLater w = (is_two_unnumbered w.packet w.number ≡ false) × (is_connect w ≡ false)

-- the connection with this many handled, and later packets written
pub record Grown (κ after : ClientConnection) (n : ℕ) : Type 0 where
  pub name : after.name ≡ κ.name
  pub taken : after.taken ≡ κ.taken
  pub handled : after.handled ≡ n
  pub more : List Written
  pub written : after.written ≡ κ.written ++ more
  pub later : Each IsLater more

-- nothing is written
same_written : (κ : ClientConnection) (keeper : Keeper) → Grown κ (counted_side keeper κ).connection (suc κ.handled)
same_written κ keeper = record { name = refl; taken = refl; handled = refl; more = []; written = sym (append-nil κ.written); later = tt }

-- one packet is written
one_written : (κ : ClientConnection) (side : Side) (w : Written) → side.connection.name ≡ κ.name → side.connection.taken ≡ κ.taken → side.connection.handled ≡ suc κ.handled
    → side.connection.written ≡ κ.written → IsLater w → Grown κ (writing (w ∷ []) side).connection (suc κ.handled)
one_written κ side w name taken packet_handled written later =
    record { name = name; taken = taken; handled = packet_handled; more = w ∷ []; written = λ i. written i ++ w ∷ []; later = (later, tt) }

-- PUBREL, PUBLISH with DUP 1 and PUBLISH are later packets
releases_later : (ids : List ℕ) → Each IsLater (map (λ id. plain (packets.Pubrel id)) ids)
releases_later [] = tt
releases_later (id ∷ ids) = ((refl, refl), releases_later ids)

again_later : (own : List Own) → Each IsLater (written_again own)
again_later [] = tt
again_later (Own.Queued k p id ∷ own) = again_later own
again_later (Own.Sent k p id ∷ own) = ((refl, refl), again_later own)
again_later (Own.Released k p id ∷ own) = again_later own
again_later (Own.Done k p ∷ own) = again_later own

first_later : (own : List Own) → Each IsLater (written_first own)
first_later [] = tt
first_later (Own.Queued k p id ∷ own) = ((refl, refl), first_later own)
first_later (Own.Sent k p id ∷ own) = first_later own
first_later (Own.Released k p id ∷ own) = first_later own
first_later (Own.Done k p ∷ own) = first_later own

resent_later : (keeper : Keeper) → Each IsLater (resent_written keeper)
resent_later keeper =
    each_append IsLater (map (λ id. plain (packets.Pubrel id)) keeper.releases ++ written_again keeper.own) (written_first keeper.own)
    (each_append IsLater (map (λ id. plain (packets.Pubrel id)) keeper.releases) (written_again keeper.own) (releases_later keeper.releases) (again_later keeper.own)) (first_later keeper.own)

-- after a CONNACK 0
confirmed_grows : (κ : ClientConnection) (keeper : Keeper) (present : Bool) → Grown κ (confirmed present (counted_side keeper κ)).connection (suc κ.handled)
confirmed_grows κ keeper present =
    let kept = if not present && keeper.was_served then discarded keeper else keeper in
    record { name = refl; taken = refl; handled = refl; more = resent_written kept; written = refl; later = resent_later kept }

-- after a PUBLISH
publish_grows : (κ : ClientConnection) (keeper : Keeper) (d : Delivery) (p : Publication) → Grown κ (takes_in d p (counted_side keeper κ)).connection (suc κ.handled)
publish_grows κ keeper deliveries.AtMostOnce p = same_written κ keeper
publish_grows κ keeper (deliveries.AtLeastOnce dup id) p = one_written κ (counted_side keeper κ) (plain (packets.Puback id)) refl refl refl refl (refl, refl)
publish_grows κ keeper (deliveries.ExactlyOnce dup id) p = by (has_id id keeper.received)
  where
    by : (b : Bool) → Grown κ (writing (plain (packets.Pubrec id) ∷ []) (if b then counted_side keeper κ else record {
      keeper = record keeper { received = id ∷ keeper.received };
      connection = record κ { handled = suc κ.handled; accepted = κ.accepted ++ p ∷ [] };
    })).connection (suc κ.handled)
    by true = one_written κ (counted_side keeper κ) (plain (packets.Pubrec id)) refl refl refl refl (refl, refl)
    by false = record { name = refl; taken = refl; handled = refl; more = plain (packets.Pubrec id) ∷ []; written = refl; later = ((refl, refl), tt) }

-- after a PUBREC
pubrec_grows : (κ : ClientConnection) (keeper : Keeper) (i : ℕ) → Grown κ (pubrec_answered i (counted_side keeper κ)).connection (suc κ.handled)
pubrec_grows κ keeper i = by (is_sent_with i keeper.own) (has_id i keeper.releases)
  where
    by : (b r : Bool) → Grown κ (if b then writing (plain (packets.Pubrel i) ∷ [])
        (counted_side (record keeper { own = map (own_at_pubrec i) keeper.own; releases = keeper.releases ++ i ∷ [] }) κ)
        else if r then writing (plain (packets.Pubrel i) ∷ []) (counted_side keeper κ) else counted_side keeper κ).connection (suc κ.handled)
    by true r = record { name = refl; taken = refl; handled = refl; more = plain (packets.Pubrel i) ∷ []; written = refl; later = ((refl, refl), tt) }
    by false true = one_written κ (counted_side keeper κ) (plain (packets.Pubrel i)) refl refl refl refl (refl, refl)
    by false false = same_written κ keeper

online_grows : (κ : ClientConnection) (keeper : Keeper) (packet : Packet) → Grown κ (handled_online packet (counted_side keeper κ)).connection (suc κ.handled)
online_grows κ keeper (packets.Publish p) = publish_grows κ keeper p.delivery (publication_of p)
online_grows κ keeper (packets.Pubrec i) = pubrec_grows κ keeper i
online_grows κ keeper (packets.Pubrel i) = one_written κ (counted_side keeper κ) (plain (packets.Pubcomp i)) refl refl refl refl (refl, refl)
online_grows κ keeper _ = same_written κ keeper

first_grows : (κ : ClientConnection) (keeper : Keeper) (packet : Packet) → Grown κ (handled_first packet (counted_side keeper κ)).connection (suc κ.handled)
first_grows κ keeper (packets.Connack (connacks.Accepted present)) = confirmed_grows κ keeper present
first_grows κ keeper (packets.Connack (connacks.Refused code)) = same_written κ keeper
first_grows κ keeper _ = same_written κ keeper

pub handled_grows : (κ : ClientConnection) (keeper : Keeper) (packet : Packet) → Grown κ (packet_handled packet (record { keeper = keeper; connection = κ })).connection (suc κ.handled)
handled_grows κ keeper packet = by keeper.is_online
  where
    by : (b : Bool) → Grown κ (if b then handled_online packet (counted_side keeper κ) else handled_first packet (counted_side keeper κ)).connection (suc κ.handled)
    by true = online_grows κ keeper packet
    by false = first_grows κ keeper packet
