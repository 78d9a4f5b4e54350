-- The list takes a packet of the client's current connection: a run of the handshake, by the kind of packet.
use Rattle.std.proofs.Common.{◌≡◌, ℕ, suc, true, false, List, [], ◌∷◌, Option, Some, None, refl, ap, sym, ◌∙◌, subst, inl, inr, ◌⊎◌}
use Rattle.std.specs.Prelude.{slice_get, is_some}
use Rattle.std.proofs.lemmas.Bool.{both_ways, cases_Bool}
use Rattle.packet.specs.declared.delivery.Delivery.{Delivery}
use Rattle.packet.specs.declared.delivery.Delivery.TheVariants as deliveries
use Rattle.packet.specs.declared.packet.Packet.{Packet}
use Rattle.packet.specs.declared.packet.Packet.TheVariants as packets
use Rattle.broker_spec.specs.Connection.{ConnectionName, same_connection}
use Rattle.broker_spec.specs.Place.{Client, Mark, Past, Limits}
use Rattle.broker_spec.specs.Sessions.{current_connection, clean_session_of}
use Rattle.broker_spec.specs.Received.{is_new, received_by, received_of}
use Rattle.broker_spec.specs.Marks.{packet_mark}
use Rattle.broker_spec.specs.declared.command.Command.TheVariants as commands
use Rattle.exactly_once.specs.Handshake.{Forward}
use Rattle.client_base.specs.Keeper.{Written, Keeper}
use Rattle.exactly_once.specs.Sides.{ClientConnection}
use Rattle.exactly_once.specs.StoryCommands.{with_one_counted}
use Rattle.client_base.specs.Connected.{opening_connect}
use Rattle.exactly_once.specs.Inside.Projections.{forward_of_one, last_confirmed, as_publisher, GoesTo}
use Rattle.exactly_once.specs.Inside.Shape.{HasShape, LastIsCurrent}
use Rattle.exactly_once.specs.Inside.ConnectionShape.{ConnectionInShape, is_two_unnumbered}
use Rattle.exactly_once.proofs.Packets.{at_packet}
use Rattle.broker_spec.proofs.ConnectionNames.{same_itself}
use Rattle.exactly_once.proofs.places.Sessions.{current_has_session}
use Rattle.exactly_once.proofs.places.After.{IsKeptSession}
use Rattle.exactly_once.proofs.publishing.First.{story_by}
use Rattle.exactly_once.proofs.publishing.events.Receives.{each_at}
use Rattle.exactly_once.proofs.publishing.Last.{each_there, taken_more, LastAfter, last_counted}
use Rattle.exactly_once.proofs.publishing.PacketAnswers.{IsOfHandshake, packet_none}
use Rattle.exactly_once.proofs.publishing.events.TakesOwn.{OnCurrent, after_place, passes, ends_current}
use Rattle.exactly_once.proofs.publishing.events.TakesPublish.{takes_pubrel, takes_low}
use Rattle.exactly_once.proofs.publishing.events.TakesTwo.{takes_two}
use Rattle.exactly_once.proofs.publishing.Elsewhere.{none_one}

-- a packet that is handled, and not of the handshake
handles : (limits : Limits) (past : Past) (keeper : Keeper) (connections : List ClientConnection) (i : ℕ) (κ : ClientConnection) (packet : Packet) (number : Option ℕ)
    → OnCurrent limits past keeper connections i κ (record { packet = packet; number = number }) → Mark.Handled keeper.client ≡ packet_mark limits past keeper.client packet
    → is_new (commands.Packet κ.name packet) (Mark.Handled keeper.client) ≡ false
    → received_by (commands.Packet κ.name packet) (Mark.Handled keeper.client) keeper.client (received_of past keeper.client) ≡ received_of past keeper.client
    → (IsOfHandshake packet → ⊥) → ((f : List (Forward ℕ)) → forward_of_one packet number f ≡ f)
    → GoesTo (as_publisher limits (story_by past connections keeper)) (after_place limits past keeper connections i (at_packet κ.name packet (packet_mark limits past keeper.client packet)))
handles limits past keeper connections i κ packet number o marked old same other quiet =
    subst (λ (m : Mark). GoesTo (as_publisher limits (story_by past connections keeper)) (after_place limits past keeper connections i (at_packet κ.name packet m))) marked
    (passes limits past keeper connections i κ (record { packet = packet; number = number }) (Mark.Handled keeper.client) o refl old same
    (packet_none κ.name limits (at_packet κ.name packet (Mark.Handled keeper.client)) past κ.name packet (Mark.Handled keeper.client) (λ h. absurd (other h))) quiet)

-- by the kind of packet
pub takes_own : (limits : Limits) (past : Past) (keeper : Keeper) (connections : List ClientConnection) (i : ℕ) (κ : ClientConnection) (packet : Packet) (number : Option ℕ)
    → OnCurrent limits past keeper connections i κ (record { packet = packet; number = number })
    → GoesTo (as_publisher limits (story_by past connections keeper)) (after_place limits past keeper connections i (at_packet κ.name packet (packet_mark limits past keeper.client packet)))
takes_own limits past keeper connections i κ (packets.Publish p) number o = by p.delivery number o
  where
    by : (d : Delivery) (number : Option ℕ) → OnCurrent limits past keeper connections i κ (record { packet = packets.Publish (record p { delivery = d }); number = number })
        → GoesTo (as_publisher limits (story_by past connections keeper))
        (after_place limits past keeper connections i (at_packet κ.name (packets.Publish (record p { delivery = d })) (packet_mark limits past keeper.client (packets.Publish (record p { delivery = d })))))
    by deliveries.AtMostOnce number o = takes_low limits past keeper connections i κ (record p { delivery = deliveries.AtMostOnce }) number o refl refl (λ ids. refl) refl (λ f. refl)
    by (deliveries.AtLeastOnce dup id) number o =
        takes_low limits past keeper connections i κ (record p { delivery = deliveries.AtLeastOnce dup id }) number o refl refl (λ ids. refl) (none_one κ.name κ.name (packets.Puback id) refl) (λ f. refl)
    by (deliveries.ExactlyOnce dup id) (Some k) o = takes_two limits past keeper connections i κ p dup id k o
    by (deliveries.ExactlyOnce dup id) None o =
        absurd (both_ways true (each_at (λ (w : Written). is_two_unnumbered w.packet w.number ≡ false) κ.taken κ.written _ o.next o.shape.numbers_known) refl)
takes_own limits past keeper connections i κ (packets.Pubrel id) number o = takes_pubrel limits past keeper connections i κ id number o
takes_own limits past keeper connections i κ (packets.Connect q) number o =
    ends_current limits past keeper connections i κ (record { packet = packets.Connect q; number = number }) (Mark.Leaves keeper.client) o refl refl refl refl
takes_own limits past keeper connections i κ (packets.Connack q) number o =
    ends_current limits past keeper connections i κ (record { packet = packets.Connack q; number = number }) (Mark.Leaves keeper.client) o refl refl refl refl
takes_own limits past keeper connections i κ (packets.Suback q) number o =
    ends_current limits past keeper connections i κ (record { packet = packets.Suback q; number = number }) (Mark.Leaves keeper.client) o refl refl refl refl
takes_own limits past keeper connections i κ (packets.Unsuback q) number o =
    ends_current limits past keeper connections i κ (record { packet = packets.Unsuback q; number = number }) (Mark.Leaves keeper.client) o refl refl refl refl
takes_own limits past keeper connections i κ packets.Pingresp number o =
    ends_current limits past keeper connections i κ (record { packet = packets.Pingresp; number = number }) (Mark.Leaves keeper.client) o refl refl refl refl
takes_own limits past keeper connections i κ packets.Disconnect number o =
    ends_current limits past keeper connections i κ (record { packet = packets.Disconnect; number = number }) (Mark.Leaves keeper.client) o refl refl refl refl
takes_own limits past keeper connections i κ (packets.Puback q) number o = handles limits past keeper connections i κ (packets.Puback q) number o refl refl refl (λ h. h) (λ f. refl)
takes_own limits past keeper connections i κ (packets.Pubrec q) number o = handles limits past keeper connections i κ (packets.Pubrec q) number o refl refl refl (λ h. h) (λ f. refl)
takes_own limits past keeper connections i κ (packets.Pubcomp q) number o = handles limits past keeper connections i κ (packets.Pubcomp q) number o refl refl refl (λ h. h) (λ f. refl)
takes_own limits past keeper connections i κ (packets.Unsubscribe q) number o = handles limits past keeper connections i κ (packets.Unsubscribe q) number o refl refl refl (λ h. h) (λ f. refl)
takes_own limits past keeper connections i κ packets.Pingreq number o = handles limits past keeper connections i κ packets.Pingreq number o refl refl refl (λ h. h) (λ f. refl)
takes_own limits past keeper connections i κ (packets.Subscribe q) number o =
    passes limits past keeper connections i κ (record { packet = packets.Subscribe q; number = number }) (packet_mark limits past keeper.client (packets.Subscribe q)) o refl refl refl
    (packet_none κ.name limits (at_packet κ.name (packets.Subscribe q) (packet_mark limits past keeper.client (packets.Subscribe q))) past κ.name (packets.Subscribe q)
    (packet_mark limits past keeper.client (packets.Subscribe q)) (λ h. absurd h))
    (λ f. refl)

-- ---- the event

-- an unconfirmed connection has nothing to be taken after its CONNECT
confirmed_there : (limits : Limits) (past : Past) (c : Client) (κ : ClientConnection) (n : ℕ) (w : Written) → ConnectionInShape limits past c κ → slice_get κ.written (suc n) ≡ Some w → κ.confirmed ≡ true
confirmed_there limits past c κ n w shape next = by (cases_Bool κ.confirmed)
  where
    by : (κ.confirmed ≡ true) ⊎ (κ.confirmed ≡ false) → κ.confirmed ≡ true
    by (inl e) = e
    by (inr e) =
        let one : slice_get (opening_connect c ∷ []) (suc n) ≡ Some w = sym (ap (λ ws. slice_get ws (suc n)) (shape.written ∙ ap (λ ws. opening_connect c ∷ ws) (shape.silent e))) ∙ next in
        cc

-- what is given of the current connection
pub on_current : (limits : Limits) (past : Past) (keeper : Keeper) (connections : List ClientConnection) (i : ℕ) (κ : ClientConnection) (n : ℕ) (w : Written) → HasShape limits (story_by past connections keeper)
    → slice_get connections i ≡ Some κ → slice_get κ.written κ.taken ≡ Some w → κ.taken ≡ suc n → current_connection past keeper.client ≡ Some κ.name
    → OnCurrent limits past keeper connections i κ w
on_current limits past keeper connections i κ n w shape stands next some current =
    let this = each_there (ConnectionInShape limits past keeper.client) i connections κ stands shape.connections in
    let confirmed = confirmed_there limits past keeper.client κ n w this (ap (slice_get κ.written) (sym some) ∙ next) in
    let lastly = subst (λ (o : Option ConnectionName). LastIsCurrent o connections) current shape.last_is_current in
    let last : last_confirmed connections ≡ Some κ =
    each_there (λ (μ : ClientConnection). same_connection κ.name μ.name ≡ true → μ.confirmed ≡ true → last_confirmed connections ≡ Some μ) i connections κ stands lastly.1 (same_itself κ.name) confirmed in
    record {
      whole = shape;
      shape = this;
      stands = stands;
      next = next;
      current = current;
      last = last;
      after = after last (last_counted i connections κ shape.names_apart stands);
      live = live shape.session;
    }
  where
    after : last_confirmed connections ≡ Some κ → LastAfter (last_confirmed connections) (last_confirmed (with_one_counted i connections)) κ → last_confirmed (with_one_counted i connections) ≡ Some (taken_more κ)
    after last (inl other) = absurd (both_ways (same_connection κ.name κ.name) (other.1 κ last) (same_itself κ.name))
    after last (inr this) = this.1

    live : IsKeptSession (clean_session_of past keeper.client) → clean_session_of past keeper.client ≡ Some false
    live (inl none) = absurd (both_ways (is_some (clean_session_of past keeper.client)) (ap is_some none) (current_has_session past keeper.client κ.name current))
    live (inr e) = e
