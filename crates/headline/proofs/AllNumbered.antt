-- Every PUBLISH that a client writes has the number of its publication.
use Rattle.std.proofs.Common.{◌≡◌, ℕ, zero, suc, Bool, true, false, not, ◌&&◌, if◌then◌else◌, List, [], ◌∷◌, ◌++◌, map, Option, None, refl, subst}
use Rattle.packet.specs.declared.connack.Connack.TheVariants as connacks
use Rattle.packet.specs.declared.delivery.Delivery.{Delivery}
use Rattle.packet.specs.declared.delivery.Delivery.TheVariants as deliveries
use Rattle.packet.specs.declared.packet.Packet.{Packet}
use Rattle.packet.specs.declared.packet.Packet.TheVariants as packets
use Rattle.session_base.specs.Identifiers.{least_free}
use Rattle.session_base.specs.Publication.{publication_of}
use Rattle.session_base.specs.declared.publication.Publication.{Publication}
use Rattle.broker_spec.specs.Place.{Limits}
use Rattle.client_base.specs.Called.{written_for}
use Rattle.client_base.specs.Handled.{confirmed, discarded, packet_handled, handled_first, handled_online}
use Rattle.client_base.specs.Handshakes.{own_at_pubrec, is_sent_with, pubrec_answered, takes_in}
use Rattle.client_base.specs.Keeper.{Keeper, Own, Written, ids_in_use, next_own_number}
use Rattle.client_base.specs.Written.{plain, written_publish, resent_written, written_again, written_first, writes_first, writing}
use Rattle.lists.specs.Lists.{Each, has_id}
use Rattle.lists.proofs.OfEach.{each_append}
use Rattle.exactly_once.specs.Sides.{ClientConnection, Side}
use Rattle.exactly_once.specs.Story.{StoryStep, Story}
use Rattle.exactly_once.specs.StoryCommands.{with_one_counted}
use Rattle.exactly_once.specs.Story.StoryStep.{takes, others_take, receives, opens_anew, loses, disconnects, publishes_one, subscribes, unsubscribes}
use Rattle.exactly_once.proofs.publishing.Answered.{counted_side}

-- a PUBLISH of which it is not known which publication it is of
abbrev pub is_unnumbered : Packet → Option ℕ → Bool
is_unnumbered (packets.Publish p) None = true
is_unnumbered _ _ = false

abbrev pub IsNumbered : Written → Type 0
IsNumbered w = is_unnumbered w.packet w.number ≡ false

abbrev pub AreNumbered : List ClientConnection → Type 0
AreNumbered = Each (λ (κ : ClientConnection). Each IsNumbered κ.written)

-- ---- what is written

one_more : (κ : ClientConnection) (w : Written) → IsNumbered w → Each IsNumbered κ.written → Each IsNumbered (κ.written ++ w ∷ [])
one_more κ w numbered all = each_append IsNumbered κ.written (w ∷ []) all (numbered, tt)

releases_numbered : (ids : List ℕ) → Each IsNumbered (map (λ id. plain (packets.Pubrel id)) ids)
releases_numbered [] = tt
releases_numbered (id ∷ ids) = (refl, releases_numbered ids)

again_numbered : (own : List Own) → Each IsNumbered (written_again own)
again_numbered [] = tt
again_numbered (Own.Queued k p id ∷ own) = again_numbered own
again_numbered (Own.Sent k p id ∷ own) = (refl, again_numbered own)
again_numbered (Own.Released k p id ∷ own) = again_numbered own
again_numbered (Own.Done k p ∷ own) = again_numbered own

first_numbered : (own : List Own) → Each IsNumbered (written_first own)
first_numbered [] = tt
first_numbered (Own.Queued k p id ∷ own) = (refl, first_numbered own)
first_numbered (Own.Sent k p id ∷ own) = first_numbered own
first_numbered (Own.Released k p id ∷ own) = first_numbered own
first_numbered (Own.Done k p ∷ own) = first_numbered own

resent_numbered : (keeper : Keeper) → Each IsNumbered (resent_written keeper)
resent_numbered keeper =
    each_append IsNumbered (map (λ id. plain (packets.Pubrel id)) keeper.releases ++ written_again keeper.own) (written_first keeper.own)
    (each_append IsNumbered (map (λ id. plain (packets.Pubrel id)) keeper.releases) (written_again keeper.own) (releases_numbered keeper.releases) (again_numbered keeper.own))
    (first_numbered keeper.own)

-- ---- what a packet does to the newest connection

abbrev StaysNumbered : ClientConnection → Side → Type 0
StaysNumbered κ side = Each IsNumbered κ.written → Each IsNumbered side.connection.written

confirmed_numbered : (κ : ClientConnection) (keeper : Keeper) (present : Bool) → StaysNumbered κ (confirmed present (counted_side keeper κ))
confirmed_numbered κ keeper present all =
    let kept = if not present && keeper.was_served then discarded keeper else keeper in
    each_append IsNumbered κ.written (resent_written kept) all (resent_numbered kept)

publish_numbered : (κ : ClientConnection) (keeper : Keeper) (d : Delivery) (p : Publication) → StaysNumbered κ (takes_in d p (counted_side keeper κ))
publish_numbered κ keeper deliveries.AtMostOnce p all = all
publish_numbered κ keeper (deliveries.AtLeastOnce dup id) p all = one_more κ (plain (packets.Puback id)) refl all
publish_numbered κ keeper (deliveries.ExactlyOnce dup id) p all = by (has_id id keeper.received)
  where
    by : (b : Bool) → Each IsNumbered (writing (plain (packets.Pubrec id) ∷ []) (if b then counted_side keeper κ else record {
      keeper = record keeper { received = id ∷ keeper.received };
      connection = record κ { handled = suc κ.handled; accepted = κ.accepted ++ p ∷ [] };
    })).connection.written
    by true = one_more κ (plain (packets.Pubrec id)) refl all
    by false = one_more κ (plain (packets.Pubrec id)) refl all

pubrec_numbered : (κ : ClientConnection) (keeper : Keeper) (i : ℕ) → StaysNumbered κ (pubrec_answered i (counted_side keeper κ))
pubrec_numbered κ keeper i all = by (is_sent_with i keeper.own) (has_id i keeper.releases)
  where
    by : (b r : Bool) → Each IsNumbered (if b then writing (plain (packets.Pubrel i) ∷ [])
        (counted_side (record keeper { own = map (own_at_pubrec i) keeper.own; releases = keeper.releases ++ i ∷ [] }) κ)
        else if r then writing (plain (packets.Pubrel i) ∷ []) (counted_side keeper κ) else counted_side keeper κ).connection.written
    by true r = one_more κ (plain (packets.Pubrel i)) refl all
    by false true = one_more κ (plain (packets.Pubrel i)) refl all
    by false false = all

online_numbered : (κ : ClientConnection) (keeper : Keeper) (packet : Packet) → StaysNumbered κ (handled_online packet (counted_side keeper κ))
online_numbered κ keeper (packets.Publish p) all = publish_numbered κ keeper p.delivery (publication_of p) all
online_numbered κ keeper (packets.Pubrec i) all = pubrec_numbered κ keeper i all
online_numbered κ keeper (packets.Pubrel i) all = one_more κ (plain (packets.Pubcomp i)) refl all
online_numbered κ keeper _ all = all

handled_numbered : (κ : ClientConnection) (keeper : Keeper) (packet : Packet) → StaysNumbered κ (packet_handled packet (record { keeper = keeper; connection = κ }))
handled_numbered κ keeper packet all = by keeper.is_online
  where
    first : (q : Packet) → Each IsNumbered (handled_first q (counted_side keeper κ)).connection.written
    first (packets.Connack (connacks.Accepted present)) = confirmed_numbered κ keeper present all
    first (packets.Connack (connacks.Refused code)) = all
    first _ = all

    by : (b : Bool) → Each IsNumbered (if b then handled_online packet (counted_side keeper κ) else handled_first packet (counted_side keeper κ)).connection.written
    by true = online_numbered κ keeper packet all
    by false = first packet

-- ---- every event

counted_numbered : (i : ℕ) (connections : List ClientConnection) → AreNumbered connections → AreNumbered (with_one_counted i connections)
counted_numbered i [] all = tt
counted_numbered zero (κ ∷ connections) all = all
counted_numbered (suc i) (κ ∷ connections) all = (all.0, counted_numbered i connections all.1)

more_numbered : (more : List Written) (connections : List ClientConnection) → Each IsNumbered more → AreNumbered connections → AreNumbered (writes_first more connections)
more_numbered more [] of all = tt
more_numbered more (κ ∷ connections) of all = (each_append IsNumbered κ.written more all.0 of, all.1)

pub happens_numbered : (limits : Limits) (s t : Story) → StoryStep limits s t → AreNumbered s.connections → AreNumbered t.connections
happens_numbered limits s t (takes i κ w stands next) all = counted_numbered i s.connections all
happens_numbered limits s t (others_take command other none) all = all
happens_numbered limits s t (receives κ others packet are opened next) all =
    let mine = subst AreNumbered are all in (handled_numbered κ s.keeper packet mine.0, mine.1)
happens_numbered limits s t (opens_anew x fresh none uncounted) all = ((refl, tt), all)
happens_numbered limits s t loses all = all
happens_numbered limits s t disconnects all = by s.keeper.is_online
  where
    by : (b : Bool) → AreNumbered (if b then writes_first (plain packets.Disconnect ∷ []) s.connections else s.connections)
    by true = more_numbered (plain packets.Disconnect ∷ []) s.connections (refl, tt) all
    by false = all
happens_numbered limits s t (publishes_one p needs) all = more_numbered (written_for p s.keeper) s.connections (by s.keeper.is_online) all
  where
    by : (b : Bool) → Each IsNumbered (if b then written_publish false (next_own_number s.keeper) (least_free (ids_in_use s.keeper)) p ∷ [] else [])
    by true = (refl, tt)
    by false = tt
happens_numbered limits s t (subscribes p on id) all = more_numbered (plain (packets.Subscribe p) ∷ []) s.connections (refl, tt) all
happens_numbered limits s t (unsubscribes p on id) all = more_numbered (plain (packets.Unsubscribe p) ∷ []) s.connections (refl, tt) all
