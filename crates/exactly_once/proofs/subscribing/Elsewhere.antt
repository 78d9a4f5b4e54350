-- A packet on a connection of another client makes copies for this one at most.
use Rattle.std.proofs.Common.{◌≡◌, ℕ, suc, Bool, true, false, ◌&&◌, if◌then◌else◌, List, [], ◌∷◌, length, map, Option, Some, None, refl, ap, sym, ◌∙◌}
use Rattle.std.proofs.lemmas.Bool.{both_ways}
use Rattle.packet.specs.declared.publish.Publish.{Publish}
use Rattle.packet.specs.declared.packet.Packet.{Packet}
use Rattle.packet.specs.declared.packet.Packet.TheVariants as packets
use Rattle.lists.specs.Lists.{has_id}
use Rattle.session_base.specs.Publication.{publication_of}
use Rattle.broker_spec.specs.Connection.{ConnectionName, same_connection}
use Rattle.broker_spec.specs.Place.{Client, same_client, Mark, Place, Past, Limits}
use Rattle.broker_spec.specs.Sessions.{is_leaving, ends_any}
use Rattle.broker_spec.specs.Subscriptions.{subscriptions_of}
use Rattle.broker_spec.specs.Received.{is_repeat}
use Rattle.broker_spec.specs.Retained.{retained_publications}
use Rattle.broker_spec.specs.Marks.{is_refused, grants, packet_mark}
use Rattle.broker_spec.specs.Entries.{Entry, copies_at}
use Rattle.broker_spec.specs.Readings.{released_below}
use Rattle.broker_spec.specs.Times.{at_puback, at_pubrec, at_pubcomp, answered_by, entries_of, room_of}
use Rattle.broker_spec.specs.Sends.{deliveries_to}
use Rattle.broker_spec.specs.AnswersInOrder.{answers_at}
use Rattle.broker_spec.specs.declared.command.Command.TheVariants as commands
use Rattle.broker_spec.specs.declared.command.Output.{Output}
use Rattle.broker_spec.specs.declared.command.Output.TheVariants.{Send}
use Rattle.exactly_once.specs.Sends.{sends_to}
use Rattle.exactly_once.specs.Inside.AsSubscriber.{forward_of}
use Rattle.exactly_once.proofs.Deliveries.{started_elsewhere}
use Rattle.exactly_once.proofs.Packets.{at_packet}
use Rattle.exactly_once.proofs.subscribing.places.Copies.{NoneElse}
use Rattle.exactly_once.proofs.subscribing.places.Publishes.{none_handed, skips, taken_sends, repeat_sends, refused_sends, granted_sends}

-- another client's packet answers none of this one's entries
reply_if : (b : Bool) (es fs : List Entry) → b ≡ false → (if b then fs else es) ≡ es
reply_if true es fs e = absurd (both_ways true e refl)
reply_if false es fs e = refl

-- by its kind
pub no_reply : (x : ConnectionName) (packet : Packet) (d c : Client) (limits : Limits) (past : Past) (n : ℕ) (es : List Entry) → same_client d c ≡ false
    → answered_by (commands.Packet x packet) (packet_mark limits past d packet) n c es ≡ es
no_reply x (packets.Puback i) d c limits past n es e = reply_if (same_client d c) es (map (at_puback n i) es) e
no_reply x (packets.Pubrec i) d c limits past n es e = reply_if (same_client d c) es (map (at_pubrec n i) es) e
no_reply x (packets.Pubcomp i) d c limits past n es e = reply_if (same_client d c) es (map (at_pubcomp n i) es) e
no_reply x _ d c limits past n es e = refl

-- a packet on a connection without a client answers none
pub nobodys_reply : (x : ConnectionName) (packet : Packet) (c : Client) (n : ℕ) (es : List Entry) → answered_by (commands.Packet x packet) Mark.Unmarked n c es ≡ es
nobodys_reply x (packets.Puback i) c n es = refl
nobodys_reply x (packets.Pubrec i) c n es = refl
nobodys_reply x (packets.Pubcomp i) c n es = refl
nobodys_reply x _ c n es = refl

-- and gives nothing
pub nobodys_sends : (limits : Limits) (past : Past) (y x : ConnectionName) (packet : Packet) (c : Client)
    → forward_of (sends_to x (answers_at limits (at_packet y packet Mark.Unmarked) past)) ≡ forward_of (sends_to x (deliveries_to limits (at_packet y packet Mark.Unmarked) past c))
nobodys_sends limits past y x (packets.Publish p) c = sym (ap (λ l. forward_of (sends_to x l)) (none_handed limits (at_packet y (packets.Publish p) Mark.Unmarked) past c refl))
nobodys_sends limits past y x (packets.Subscribe p) c = sym (ap (λ l. forward_of (sends_to x l)) (none_handed limits (at_packet y (packets.Subscribe p) Mark.Unmarked) past c refl))
nobodys_sends limits past y x packet c = sym (ap (λ l. forward_of (sends_to x l)) (none_handed limits (at_packet y packet Mark.Unmarked) past c refl))

-- it ends no other connection
pub ends_not : (y : ConnectionName) (packet : Packet) (mark : Mark) (current : Option ConnectionName) → ((x : ConnectionName) → current ≡ Some x → same_connection y x ≡ false) → ends_any (at_packet y packet mark) [] current ≡ false
ends_not y packet mark None h = refl
ends_not y packet mark (Some x) h = ap (λ b. b && is_leaving mark) (h x refl)

-- what goes to another connection
pub goes_elsewhere : (x y : ConnectionName) (packet : Packet) (more : List Output) → same_connection x y ≡ false → sends_to x (Send y packet ∷ more) ≡ sends_to x more
goes_elsewhere x y packet more e = rw e refl

-- a PUBREL to another connection
pubrel_elsewhere : (x y : ConnectionName) (b : Bool) (id : ℕ) → same_connection x y ≡ false → sends_to x (if b then Send y (packets.Pubrel id) ∷ [] else []) ≡ []
pubrel_elsewhere x y true id e = goes_elsewhere x y (packets.Pubrel id) [] e
pubrel_elsewhere x y false id e = refl

-- what is sent of a PUBLISH, by its mark
pub publish_sends : (limits : Limits) (past : Past) (y x : ConnectionName) (p : Publish) (d c : Client) → NoneElse past x c
    → forward_of (sends_to x (answers_at limits (at_packet y (packets.Publish p) (packet_mark limits past d (packets.Publish p))) past))
    ≡ forward_of (sends_to x (deliveries_to limits (at_packet y (packets.Publish p) (packet_mark limits past d (packets.Publish p))) past c))
publish_sends limits past y x p d c none = by (is_repeat past d p.delivery) (is_refused limits past (publication_of p))
  where
    by : (again refused : Bool)
        → forward_of (sends_to x (answers_at limits (at_packet y (packets.Publish p) (if again then Mark.Repeat d else if refused then Mark.Refused d else Mark.Taken d)) past))
        ≡ forward_of (sends_to x (deliveries_to limits (at_packet y (packets.Publish p) (if again then Mark.Repeat d else if refused then Mark.Refused d else Mark.Taken d)) past c))
    by true refused = repeat_sends limits past y x p d c
    by false true = refused_sends limits past y x p d c
    by false false = taken_sends limits past y x p d c none

-- if a packet gives the connection nothing and makes no copies
pub both_none : (limits : Limits) (place : Place) (past : Past) (x : ConnectionName) (c : Client) → forward_of (sends_to x (answers_at limits place past)) ≡ [] → copies_at place past c ≡ []
    → forward_of (sends_to x (answers_at limits place past)) ≡ forward_of (sends_to x (deliveries_to limits place past c))
both_none limits place past x c e f = e ∙ sym (ap (λ l. forward_of (sends_to x l)) (none_handed limits place past c f))

-- what another client's packet gives a connection of this one
pub other_sends : (limits : Limits) (past : Past) (y x : ConnectionName) (packet : Packet) (d c : Client) → NoneElse past x c → same_connection x y ≡ false
    → forward_of (sends_to x (answers_at limits (at_packet y packet (packet_mark limits past d packet)) past))
    ≡ forward_of (sends_to x (deliveries_to limits (at_packet y packet (packet_mark limits past d packet)) past c))
other_sends limits past y x (packets.Publish p) d c none e = publish_sends limits past y x p d c none
other_sends limits past y x (packets.Subscribe p) d c none e =
    granted_sends limits past y x p d c (grants limits (retained_publications past) (subscriptions_of past d) (room_of limits past d) p.filters) none
other_sends limits past y x (packets.Unsubscribe p) d c none e =
    both_none limits (at_packet y (packets.Unsubscribe p) (Mark.Handled d)) past x c (skips x y (packets.Unsuback p.id) [] (λ f. refl)) refl
other_sends limits past y x (packets.Pubrel id) d c none e =
    both_none limits (at_packet y (packets.Pubrel id) (Mark.Handled d)) past x c (skips x y (packets.Pubcomp id) [] (λ f. refl)) refl
other_sends limits past y x packets.Pingreq d c none e =
    both_none limits (at_packet y packets.Pingreq (Mark.Handled d)) past x c (skips x y packets.Pingresp [] (λ f. refl)) refl
other_sends limits past y x (packets.Puback id) d c none e =
    both_none limits (at_packet y (packets.Puback id) (Mark.Handled d)) past x c
    (ap forward_of (started_elsewhere x y (length past) (entries_of limits (at_packet y (packets.Puback id) (Mark.Handled d) ∷ past) d) e)) refl
other_sends limits past y x (packets.Pubcomp id) d c none e =
    both_none limits (at_packet y (packets.Pubcomp id) (Mark.Handled d)) past x c
    (ap forward_of (started_elsewhere x y (length past) (entries_of limits (at_packet y (packets.Pubcomp id) (Mark.Handled d) ∷ past) d) e)) refl
other_sends limits past y x (packets.Pubrec id) d c none e =
    both_none limits (at_packet y (packets.Pubrec id) (Mark.Handled d)) past x c
    (ap forward_of (pubrel_elsewhere x y (has_id id (released_below (suc (length past)) (entries_of limits (at_packet y (packets.Pubrec id) (Mark.Handled d) ∷ past) d))) id e)) refl
other_sends limits past y x packet d c none e = both_none limits (at_packet y packet (Mark.Leaves d)) past x c refl refl
