-- The client receives a packet.
use Rattle.std.proofs.Common.{◌≡◌, ℕ, zero, suc, Bool, true, false, not, ◌&&◌, if◌then◌else◌, List, [], ◌∷◌, ◌++◌, map, filter, Option, Some, None, refl, ap, sym, ◌∙◌, subst, ◌⊎◌, inl, inr}
use Rattle.std.specs.Prelude.{slice_get}
use Rattle.std.proofs.lemmas.List.{append-nil}
use Rattle.std.proofs.lemmas.Bool.{both_ways, cases_Bool}
use Rattle.packet.specs.declared.connack.Connack.TheVariants as connacks
use Rattle.packet.specs.declared.packet.Packet.{Packet}
use Rattle.packet.specs.declared.packet.Packet.TheVariants as packets
use Rattle.lists.specs.Lists.{has_id, Each}
use Rattle.broker_spec.specs.Place.{Limits}
use Rattle.broker_spec.specs.Sessions.{current_connection}
use Rattle.exactly_once.specs.Sends.{put_to}
use Rattle.exactly_once.specs.Sides.{ClientConnection, Side}
use Rattle.client_base.specs.Keeper.{Keeper}
use Rattle.client_base.specs.Written.{plain, writing, resent_written, sent_all}
use Rattle.client_base.specs.Handled.{not_subscribes, not_unsubscribes, discarded, confirmed, lost, handled_online, handled_first, packet_handled}
use Rattle.client_base.specs.Handshakes.{own_at_puback, own_at_pubrec, own_at_pubcomp, is_sent_with, pubrec_answered}
use Rattle.session_base.specs.Identifiers.{without_id}
use Rattle.exactly_once.specs.Story.{Story, with_side}
use Rattle.exactly_once.specs.Acceptance.{accepted_on}
use Rattle.exactly_once.specs.Inside.Projections.{GoesTo}
use Rattle.exactly_once.specs.Inside.AsSubscriber.{left_behind, as_subscriber}
use Rattle.exactly_once.specs.Inside.Shape.{HeldInShape, HasShape}
use Rattle.exactly_once.specs.Inside.ConnectionShape.{ConnackFirst, ConnectionInShape}
use Rattle.exactly_once.proofs.subscribing.Written.{none_resent}
use Rattle.exactly_once.proofs.subscribing.events.Leaving.{leaves}
use Rattle.exactly_once.proofs.subscribing.events.Handling.{handles_other}
use Rattle.exactly_once.proofs.subscribing.events.Receiving.{IsNext, counted, next_quiet, next_other, next_pubrel}
use Rattle.exactly_once.proofs.subscribing.Accepting.{next_publish}

-- the client leaves
next_lost : (limits : Limits) (s : Story) (κ : ClientConnection) (others : List ClientConnection) → HasShape limits s → s.connections ≡ κ ∷ others
    → GoesTo (as_subscriber limits s) (as_subscriber limits (with_side s others (counted (lost s.keeper) κ)))
next_lost limits s κ others shape e =
    leaves limits s shape (record κ { handled = suc κ.handled } ∷ others) (lost s.keeper) refl refl refl (ap accepted_on (sym e))
    (counts_left (current_connection s.past s.keeper.client) ∙ ap (left_behind (current_connection s.past s.keeper.client)) (sym e))
  where
    counts_left : (current : Option _) → left_behind current (record κ { handled = suc κ.handled } ∷ others) ≡ left_behind current (κ ∷ others)
    counts_left None = refl
    counts_left (Some x) = refl

-- a PUBREC, by what the client has of it
next_pubrec : (limits : Limits) (s : Story) (κ : ClientConnection) (others : List ClientConnection) (id : ℕ) → IsNext limits s κ others (packets.Pubrec id)
    → GoesTo (as_subscriber limits s) (as_subscriber limits (with_side s others (pubrec_answered id (counted s.keeper κ))))
next_pubrec limits s κ others id i = by (is_sent_with id s.keeper.own) (has_id id s.keeper.releases)
  where
    by : (sent released : Bool)
        → GoesTo (as_subscriber limits s)
        (as_subscriber limits (with_side s others
        (if sent
        then writing (plain (packets.Pubrel id) ∷ []) (counted (record s.keeper { own = map (own_at_pubrec id) s.keeper.own; releases = s.keeper.releases ++ id ∷ [] }) κ)
        else if released then writing (plain (packets.Pubrel id) ∷ []) (counted s.keeper κ) else counted s.keeper κ)))
    by true released =
        next_other limits s κ others (packets.Pubrec id) i (map (own_at_pubrec id) s.keeper.own) (s.keeper.releases ++ id ∷ []) s.keeper.requests (plain (packets.Pubrel id) ∷ []) (λ f. refl) refl
    by false true = next_other limits s κ others (packets.Pubrec id) i s.keeper.own s.keeper.releases s.keeper.requests (plain (packets.Pubrel id) ∷ []) (λ f. refl) refl
    by false false = next_quiet limits s κ others (packets.Pubrec id) i s.keeper.own s.keeper.releases s.keeper.requests (λ f. refl)

-- on a confirmed connection
next_online : (limits : Limits) (s : Story) (κ : ClientConnection) (others : List ClientConnection) (packet : Packet) → HasShape limits s → IsNext limits s κ others packet
    → GoesTo (as_subscriber limits s) (as_subscriber limits (with_side s others (handled_online packet (counted s.keeper κ))))
next_online limits s κ others (packets.Publish p) shape i = next_publish limits s κ others p i
next_online limits s κ others (packets.Puback id) shape i = next_quiet limits s κ others (packets.Puback id) i (map (own_at_puback id) s.keeper.own) s.keeper.releases s.keeper.requests (λ f. refl)
next_online limits s κ others (packets.Pubrec id) shape i = next_pubrec limits s κ others id i
next_online limits s κ others (packets.Pubcomp id) shape i =
    next_quiet limits s κ others (packets.Pubcomp id) i (map (own_at_pubcomp id) s.keeper.own) (without_id id s.keeper.releases) s.keeper.requests (λ f. refl)
next_online limits s κ others (packets.Pubrel id) shape i = next_pubrel limits s κ others id i
next_online limits s κ others (packets.Suback p) shape i =
    next_quiet limits s κ others (packets.Suback p) i s.keeper.own s.keeper.releases (filter (not_subscribes p.id) s.keeper.requests) (λ f. refl)
next_online limits s κ others (packets.Unsuback id) shape i =
    next_quiet limits s κ others (packets.Unsuback id) i s.keeper.own s.keeper.releases (filter (not_unsubscribes id) s.keeper.requests) (λ f. refl)
next_online limits s κ others packets.Pingresp shape i = next_quiet limits s κ others packets.Pingresp i s.keeper.own s.keeper.releases s.keeper.requests (λ f. refl)
next_online limits s κ others _ shape i = next_lost limits s κ others shape i.first

-- a CONNACK 0, which takes nothing away
next_confirmed : (limits : Limits) (s : Story) (κ : ClientConnection) (others : List ClientConnection) (present : Bool) → IsNext limits s κ others (packets.Connack (connacks.Accepted present))
    → (not present && s.keeper.was_served) ≡ false
    → GoesTo (as_subscriber limits s) (as_subscriber limits (with_side s others (confirmed present (counted s.keeper κ))))
next_confirmed limits s κ others present i e = by (not present && s.keeper.was_served) e
  where
    side : Keeper → Side
    side kept =
        record {
          keeper = record kept { own = sent_all kept.own; is_online = true; was_served = true };
          connection = record κ { handled = suc κ.handled; written = κ.written ++ resent_written kept; confirmed = true };
        }

    by : (b : Bool) → b ≡ false → GoesTo (as_subscriber limits s) (as_subscriber limits (with_side s others (side (if b then discarded s.keeper else s.keeper))))
    by true e = absurd (both_ways true e refl)
    by false e =
        handles_other limits s κ others i.n (packets.Connack (connacks.Accepted present)) (side s.keeper) (resent_written s.keeper) i.shape i.first i.is_open i.taken i.next (λ f. refl) (none_resent s.keeper)
        (record { client = refl; name = refl; taken = refl; handled = refl; written = refl; accepted_is = sym (append-nil κ.accepted); received_is = λ id. refl; stays_open = i.is_open })

-- it holds for the one that is there
each_at : (P : Packet → Type 0) (xs : List Packet) (n : ℕ) (x : Packet) → Each P xs → slice_get xs n ≡ Some x → P x
each_at P [] n x h e = absurd (cc)
each_at P (y ∷ xs) zero x h e = let f : y ≡ x = cc in subst P f h.0
each_at P (y ∷ xs) (suc n) x h e = each_at P xs n x h.1 e

-- the session of a client that was served is there
present_still : (limits : Limits) (s : Story) (κ : ClientConnection) (others : List ClientConnection) (present : Bool) → HasShape limits s → IsNext limits s κ others (packets.Connack (connacks.Accepted present))
    → s.keeper.is_online ≡ false → (not present && s.keeper.was_served) ≡ false
present_still limits s κ others true shape i off = refl
present_still limits s κ others false shape i off = by (cases_Bool s.keeper.was_served)
  where
    by : (s.keeper.was_served ≡ true) ⊎ (s.keeper.was_served ≡ false) → s.keeper.was_served ≡ false
    by (inr e) = e
    by (inl e) =
        absurd (each_at (λ packet. (packet ≡ packets.Connack (connacks.Accepted false)) → ⊥) (put_to limits s.past κ.name) κ.handled (packets.Connack (connacks.Accepted false))
        ((subst (HeldInShape limits s.past s.keeper) i.first shape.held).2 i.is_open off e) i.next refl)

-- the first packet
next_first : (limits : Limits) (s : Story) (κ : ClientConnection) (others : List ClientConnection) (packet : Packet) → HasShape limits s → IsNext limits s κ others packet → s.keeper.is_online ≡ false
    → GoesTo (as_subscriber limits s) (as_subscriber limits (with_side s others (handled_first packet (counted s.keeper κ))))
next_first limits s κ others (packets.Connack (connacks.Accepted present)) shape i off = next_confirmed limits s κ others present i (present_still limits s κ others present shape i off)
next_first limits s κ others _ shape i off = next_lost limits s κ others shape i.first

-- a connection with a packet has its Connect taken
first_taken : (taken : ℕ) (put : List Packet) (n : ℕ) (packet : Packet) → ConnackFirst taken put → slice_get put n ≡ Some packet → (m : ℕ) × (taken ≡ suc m)
first_taken zero put n packet g e = absurd (let f : slice_get [] n ≡ Some packet = subst (λ (ps : List Packet). slice_get ps n ≡ Some packet) g e in cc)
first_taken (suc m) put n packet g e = (m, refl)

-- the client receives a packet
pub goes_received : (limits : Limits) (s : Story) → HasShape limits s → (κ : ClientConnection) (others : List ClientConnection) (packet : Packet) → s.connections ≡ κ ∷ others → s.keeper.is_open ≡ true
    → slice_get (put_to limits s.past κ.name) κ.handled ≡ Some packet
    → GoesTo (as_subscriber limits s) (as_subscriber limits (with_side s others (packet_handled packet (record { keeper = s.keeper; connection = κ }))))
goes_received limits s shape κ others packet e on next =
    by s.keeper.is_online (λ h. next_online limits s κ others packet shape here) (λ h. next_first limits s κ others packet shape here h)
  where
    of_first : ConnectionInShape limits s.past s.keeper.client κ
    of_first = (subst (Each (ConnectionInShape limits s.past s.keeper.client)) e shape.connections).0

    here : IsNext limits s κ others packet
    here =
        let taken = first_taken κ.taken (put_to limits s.past κ.name) κ.handled packet of_first.connack_first next in
        record { n = taken.0; shape = of_first; first = e; is_open = on; taken = taken.1; next = next }

    by : (b : Bool) → (b ≡ true → GoesTo (as_subscriber limits s) (as_subscriber limits (with_side s others (handled_online packet (counted s.keeper κ)))))
        → (b ≡ false → GoesTo (as_subscriber limits s) (as_subscriber limits (with_side s others (handled_first packet (counted s.keeper κ)))))
        → GoesTo (as_subscriber limits s) (as_subscriber limits (with_side s others (if b then handled_online packet (counted s.keeper κ) else handled_first packet (counted s.keeper κ))))
    by true f g = f refl
    by false f g = g refl
