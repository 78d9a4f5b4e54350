-- What a connection is sent at the place of a PUBLISH or of a SUBSCRIBE, read as the handshake: the copies for its client.
use Rattle.std.proofs.Common.{◌≡◌, Bool, true, false, if◌then◌else◌, List, [], ◌∷◌, ◌++◌, length, Option, Some, None, refl, ap, ap₂, sym, ◌∙◌, ◌⊎◌, inl, inr}
use Rattle.std.specs.Prelude.{flat_map}
use Rattle.std.proofs.lemmas.Bool.{both_ways, cases_Bool}
use Rattle.packet.specs.declared.delivery.Delivery.{Delivery}
use Rattle.packet.specs.declared.delivery.Delivery.TheVariants as deliveries
use Rattle.packet.specs.declared.publish.Publish.{Publish}
use Rattle.packet.specs.declared.subscribe.Subscribe.{Subscribe}
use Rattle.packet.specs.declared.packet.Packet.{Packet}
use Rattle.packet.specs.declared.packet.Packet.TheVariants as packets
use Rattle.session_base.specs.declared.publication.Publication.{Publication}
use Rattle.broker_spec.specs.Connection.{ConnectionName, same_connection}
use Rattle.broker_spec.specs.Place.{Client, same_client, Mark, Place, Past, Limits}
use Rattle.broker_spec.specs.Sessions.{current_connection}
use Rattle.broker_spec.specs.Owner.{clients}
use Rattle.broker_spec.specs.Entries.{copies_at}
use Rattle.broker_spec.specs.Readings.{made_at}
use Rattle.broker_spec.specs.Times.{entries_of}
use Rattle.broker_spec.specs.Sends.{handed_to, deliveries_to}
use Rattle.broker_spec.specs.Answers.{acknowledged, codes_of}
use Rattle.broker_spec.specs.AnswersInOrder.{answers_at}
use Rattle.broker_spec.specs.declared.command.Output.{Output}
use Rattle.broker_spec.specs.declared.command.Output.TheVariants.{Send}
use Rattle.broker_spec.proofs.ClientsInOrder.{same_self, same_is}
use Rattle.exactly_once.specs.Handshake.{Forward}
use Rattle.exactly_once.specs.Sends.{sends_to}
use Rattle.exactly_once.specs.Inside.AsSubscriber.{forward_of}
use Rattle.exactly_once.proofs.Deliveries.{sends_append, deliveries_elsewhere}
use Rattle.exactly_once.proofs.Packets.{at_packet}
use Rattle.exactly_once.proofs.subscribing.Forward.{forward_append}
use Rattle.exactly_once.proofs.subscribing.events.Handling.{forward_one, forward_first}
use Rattle.exactly_once.proofs.subscribing.places.Copies.{NoneElse, else_where, copies_to_one}

-- a place that makes no copies hands out none
pub none_handed : (limits : Limits) (place : Place) (past : Past) (c : Client) → copies_at place past c ≡ [] → deliveries_to limits place past c ≡ []
none_handed limits place past c e = by (current_connection past c)
  where
    by : (o : Option ConnectionName) → handed_to o (length past) (copies_at place past c) (made_at (length past) (entries_of limits (place ∷ past) c)) ≡ []
    by None = refl
    by (Some x) = ap (λ ps. handed_to (Some x) (length past) ps (made_at (length past) (entries_of limits (place ∷ past) c))) e

-- a packet that is not of the handshake
pub skips : (x y : ConnectionName) (packet : Packet) (more : List Output) → ((f : List (Forward Publication)) → forward_one packet f ≡ f) → forward_of (sends_to x (Send y packet ∷ more)) ≡ forward_of (sends_to x more)
skips x y packet more none = by (same_connection x y)
  where
    by : (b : Bool) → forward_of (if b then packet ∷ sends_to x more else sends_to x more) ≡ forward_of (sends_to x more)
    by true = forward_first packet (sends_to x more) ∙ none (forward_of (sends_to x more))
    by false = refl

-- an acknowledgement is no PUBLISH
pub acknowledged_none : (x y : ConnectionName) (d : Delivery) → forward_of (sends_to x (acknowledged y d)) ≡ []
acknowledged_none x y deliveries.AtMostOnce = refl
acknowledged_none x y (deliveries.AtLeastOnce dup id) = skips x y (packets.Puback id) [] (λ f. refl)
acknowledged_none x y (deliveries.ExactlyOnce dup id) = skips x y (packets.Pubrec id) [] (λ f. refl)

-- a taken PUBLISH
pub taken_sends : (limits : Limits) (past : Past) (y x : ConnectionName) (p : Publish) (d c : Client) → NoneElse past x c
    → forward_of (sends_to x (answers_at limits (at_packet y (packets.Publish p) (Mark.Taken d)) past)) ≡ forward_of (sends_to x (deliveries_to limits (at_packet y (packets.Publish p) (Mark.Taken d)) past c))
taken_sends limits past y x p d c none =
    let copies = flat_map (deliveries_to limits (at_packet y (packets.Publish p) (Mark.Taken d)) past) (clients past) in
    ap forward_of (sends_append x (acknowledged y p.delivery) copies)
    ∙ forward_append (sends_to x (acknowledged y p.delivery)) (sends_to x copies)
    ∙ ap₂ (λ a b. a ++ b) (acknowledged_none x y p.delivery) (ap forward_of (copies_to_one limits (at_packet y (packets.Publish p) (Mark.Taken d)) past x c none))

-- one that was taken before
pub repeat_sends : (limits : Limits) (past : Past) (y x : ConnectionName) (p : Publish) (d c : Client)
    → forward_of (sends_to x (answers_at limits (at_packet y (packets.Publish p) (Mark.Repeat d)) past)) ≡ forward_of (sends_to x (deliveries_to limits (at_packet y (packets.Publish p) (Mark.Repeat d)) past c))
repeat_sends limits past y x p d c =
    acknowledged_none x y p.delivery ∙ sym (ap (λ l. forward_of (sends_to x l)) (none_handed limits (at_packet y (packets.Publish p) (Mark.Repeat d)) past c refl))

-- one that is refused
pub refused_sends : (limits : Limits) (past : Past) (y x : ConnectionName) (p : Publish) (d c : Client)
    → forward_of (sends_to x (answers_at limits (at_packet y (packets.Publish p) (Mark.Refused d)) past)) ≡ forward_of (sends_to x (deliveries_to limits (at_packet y (packets.Publish p) (Mark.Refused d)) past c))
refused_sends limits past y x p d c = sym (ap (λ l. forward_of (sends_to x l)) (none_handed limits (at_packet y (packets.Publish p) (Mark.Refused d)) past c refl))

-- a SUBSCRIBE
pub granted_sends : (limits : Limits) (past : Past) (y x : ConnectionName) (p : Subscribe) (d c : Client) (which : List Bool) → NoneElse past x c
    → forward_of (sends_to x (answers_at limits (at_packet y (packets.Subscribe p) (Mark.Granted d which)) past))
    ≡ forward_of (sends_to x (deliveries_to limits (at_packet y (packets.Subscribe p) (Mark.Granted d which)) past c))
granted_sends limits past y x p d c which none =
    skips x y (packets.Suback (record { id = p.id; codes = codes_of p.filters which })) (deliveries_to limits place past d) (λ f. refl) ∙ by (cases_Bool (same_client d c))
  where
    place : Place
    place = at_packet y (packets.Subscribe p) (Mark.Granted d which)

    by : (same_client d c ≡ true) ⊎ (same_client d c ≡ false) → forward_of (sends_to x (deliveries_to limits place past d)) ≡ forward_of (sends_to x (deliveries_to limits place past c))
    by (inl e) = ap (λ (z : Client). forward_of (sends_to x (deliveries_to limits place past z))) (same_is d c e)
    by (inr e) =
        ap forward_of (deliveries_elsewhere limits place past x d (else_where past x c d none (λ f. both_ways (same_client d c) e (ap (same_client d) f ∙ same_self d))))
        ∙ sym (ap (λ l. forward_of (sends_to x l)) (none_handed limits place past c (rw e refl)))
