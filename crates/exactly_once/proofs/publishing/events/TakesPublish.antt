-- The list takes a PUBLISH or a PUBREL of the client's current connection.
use Rattle.std.proofs.Common.{◌≡◌, ℕ, Bool, true, false, if◌then◌else◌, List, [], ◌∷◌, Option, refl, ap, sym, ◌∙◌, subst}
use Rattle.std.specs.Prelude.{flat_map}
use Rattle.packet.specs.declared.publish.Publish.{Publish}
use Rattle.packet.specs.declared.packet.Packet.{Packet}
use Rattle.packet.specs.declared.packet.Packet.TheVariants as packets
use Rattle.lists.specs.Lists.{has_id}
use Rattle.session_base.specs.Publication.{publication_of}
use Rattle.broker_spec.specs.Connection.{ConnectionName}
use Rattle.broker_spec.specs.Place.{Mark, Past, Limits, same_client}
use Rattle.broker_spec.specs.Received.{receives, received_of, is_exactly_once, is_repeat}
use Rattle.session_base.specs.Identifiers.{without_id}
use Rattle.broker_spec.specs.Owner.{clients}
use Rattle.broker_spec.specs.Marks.{is_refused, packet_mark}
use Rattle.broker_spec.specs.Sends.{deliveries_to}
use Rattle.broker_spec.specs.Answers.{acknowledged}
use Rattle.broker_spec.specs.declared.command.Output.TheVariants.{Send}
use Rattle.broker_spec.proofs.ClientsInOrder.{same_self}
use Rattle.exactly_once.specs.Handshake.{Forward, Handshake}
use Rattle.exactly_once.specs.Sends.{sends_to}
use Rattle.client_base.specs.Keeper.{Written, Keeper}
use Rattle.exactly_once.specs.Sides.{ClientConnection}
use Rattle.exactly_once.specs.StoryCommands.{with_one_counted}
use Rattle.exactly_once.specs.Inside.Projections.{forward_of_one, backward_of_own, as_publisher, GoesTo}
use Rattle.exactly_once.proofs.Packets.{at_packet, copies_none}
use Rattle.broker_spec.proofs.ConnectionNames.{same_itself}
use Rattle.exactly_once.proofs.publishing.kept.Numbers.{same_counted}
use Rattle.exactly_once.proofs.publishing.First.{story_by}
use Rattle.exactly_once.proofs.publishing.Elsewhere.{NoneSent, none_both}
use Rattle.exactly_once.proofs.publishing.AtPlaces.{no_number}
use Rattle.exactly_once.proofs.publishing.events.TakesOwn.{OnCurrent, after_place, passes, ends_current, takes_one}
use Rattle.session_base.proofs.KeptIdentifiers.{has_without}

-- one packet to its own connection
pub own_send : (x : ConnectionName) (packet : Packet) → sends_to x (Send x packet ∷ []) ≡ packet ∷ []
own_send x packet = ap (λ b. if b then packet ∷ [] else []) (same_itself x)

-- ---- PUBREL

pub takes_pubrel : (limits : Limits) (past : Past) (keeper : Keeper) (connections : List ClientConnection) (i : ℕ) (κ : ClientConnection) (id : ℕ) (number : Option ℕ)
    → OnCurrent limits past keeper connections i κ (record { packet = packets.Pubrel id; number = number })
    → GoesTo (as_publisher limits (story_by past connections keeper)) (after_place limits past keeper connections i (at_packet κ.name (packets.Pubrel id) (Mark.Handled keeper.client)))
takes_pubrel limits past keeper connections i κ id number o =
    let place = at_packet κ.name (packets.Pubrel id) (Mark.Handled keeper.client) in
    let ids = received_of past keeper.client in
    takes_one limits past keeper connections i κ (record { packet = packets.Pubrel id; number = number }) (Mark.Handled keeper.client) (Forward.Pubrel id) o refl (λ f. refl)
    (ap backward_of_own (own_send κ.name (packets.Pubcomp id)))
    (λ l. no_number connections (with_one_counted i connections) place past refl (same_counted past i connections))
    (λ l j. sym (ap (λ b. has_id j (if b then without_id id ids else ids)) (same_self keeper.client) ∙ has_without j id ids))

-- ---- PUBLISH at QoS 0 and 1

pub takes_low : (limits : Limits) (past : Past) (keeper : Keeper) (connections : List ClientConnection) (i : ℕ) (κ : ClientConnection) (p : Publish) (number : Option ℕ)
    → OnCurrent limits past keeper connections i κ (record { packet = packets.Publish p; number = number }) → is_repeat past keeper.client p.delivery ≡ false
    → is_exactly_once p.delivery ≡ false → ((ids : List ℕ) → receives p.delivery ids ≡ ids) → NoneSent κ.name (acknowledged κ.name p.delivery)
    → ((f : List (Forward ℕ)) → forward_of_one (packets.Publish p) number f ≡ f)
    → GoesTo (as_publisher limits (story_by past connections keeper))
    (after_place limits past keeper connections i (at_packet κ.name (packets.Publish p) (packet_mark limits past keeper.client (packets.Publish p))))
takes_low limits past keeper connections i κ p number o first low same none quiet =
    subst (λ (b : Bool). GoesTo h (after (if b then Mark.Repeat keeper.client else if is_refused limits past (publication_of p) then Mark.Refused keeper.client else Mark.Taken keeper.client)))
    (sym first) (by (is_refused limits past (publication_of p)))
  where
    w : Written
    w = record { packet = packets.Publish p; number = number }

    h : Handshake ℕ
    h = as_publisher limits (story_by past connections keeper)

    after : Mark → Handshake ℕ
    after m = after_place limits past keeper connections i (at_packet κ.name (packets.Publish p) m)

    kept : (b : Bool) (ids : List ℕ) → (if b then receives p.delivery ids else ids) ≡ ids
    kept true ids = same ids
    kept false ids = refl

    by : (b : Bool) → GoesTo h (after (if b then Mark.Refused keeper.client else Mark.Taken keeper.client))
    by true = ends_current limits past keeper connections i κ w (Mark.Refused keeper.client) o refl refl refl refl
    by false =
        passes limits past keeper connections i κ w (Mark.Taken keeper.client) o refl low (kept (same_client keeper.client keeper.client) (received_of past keeper.client))
        (none_both κ.name (acknowledged κ.name p.delivery) (flat_map (deliveries_to limits (at_packet κ.name (packets.Publish p) (Mark.Taken keeper.client)) past) (clients past)) none
        (copies_none limits (at_packet κ.name (packets.Publish p) (Mark.Taken keeper.client)) past κ.name (clients past)))
        quiet
