-- The list takes a packet of the client's current connection that answers none of its entries.
use Rattle.std.proofs.Common.{◌≡◌, ℕ, suc, Bool, true, false, ◌&&◌, if◌then◌else◌, List, [], ◌∷◌, length, Option, Some, None, refl, ap, ap₂, sym, ◌∙◌}
use Rattle.std.specs.Prelude.{slice_get}
use Rattle.packet.specs.declared.publish.Publish.{Publish}
use Rattle.packet.specs.declared.packet.Packet.{Packet}
use Rattle.packet.specs.declared.packet.Packet.TheVariants as packets
use Rattle.session_base.specs.Publication.{publication_of}
use Rattle.broker_spec.specs.Connection.{ConnectionName, same_connection}
use Rattle.broker_spec.specs.Place.{Client, Mark, Place, Limits}
use Rattle.broker_spec.specs.Sessions.{is_leaving, ends_any, current_connection}
use Rattle.broker_spec.specs.Received.{is_repeat}
use Rattle.broker_spec.specs.Marks.{is_refused, packet_mark}
use Rattle.broker_spec.specs.Entries.{copies_at}
use Rattle.broker_spec.specs.Times.{answered_by, entries_of}
use Rattle.broker_spec.specs.Sends.{deliveries_to}
use Rattle.broker_spec.specs.AnswersInOrder.{answers_at}
use Rattle.broker_spec.specs.NobodyTheorems.{IsSteady}
use Rattle.broker_spec.specs.declared.command.Command.TheVariants as commands
use Rattle.exactly_once.specs.Handshake.{Backward}
use Rattle.exactly_once.specs.Sends.{sends_to}
use Rattle.client_base.specs.Keeper.{Written}
use Rattle.exactly_once.specs.Sides.{ClientConnection}
use Rattle.exactly_once.specs.Story.{Story}
use Rattle.exactly_once.specs.StoryCommands.{any_named, with_one_counted}
use Rattle.exactly_once.specs.Inside.Projections.{GoesTo}
use Rattle.exactly_once.specs.Inside.AsSubscriber.{forward_of, left_behind, as_subscriber}
use Rattle.exactly_once.specs.Inside.Shape.{HasShape}
use Rattle.exactly_once.proofs.Packets.{at_packet}
use Rattle.exactly_once.proofs.Takes.{same_name_self}
use Rattle.exactly_once.proofs.subscribing.Written.{backward_one}
use Rattle.exactly_once.proofs.subscribing.Counted.{accepted_counted, view_counted, left_own, comes_back}
use Rattle.exactly_once.proofs.subscribing.Placed.{placed}
use Rattle.exactly_once.proofs.subscribing.Plain.{IsPlain, plain_goes}
use Rattle.exactly_once.proofs.subscribing.Parting.{SendsNone, place_parts}
use Rattle.exactly_once.proofs.subscribing.Elsewhere.{publish_sends}
use Rattle.exactly_once.proofs.subscribing.events.Others.{none_else}
use Rattle.exactly_once.proofs.subscribing.places.Over.{entries_over}
use Rattle.exactly_once.proofs.subscribing.places.Quiet.{current_over}

-- the next packet of the connection on which the client is served
pub record IsOwn (limits : Limits) (s : Story) (i : ℕ) (κ : ClientConnection) (w : Written) : Type 0 where
  pub n : ℕ
  pub shape : HasShape limits s
  pub steady : IsSteady limits
  pub at : slice_get s.connections i ≡ Some κ
  pub next : slice_get κ.written κ.taken ≡ Some w
  pub taken : κ.taken ≡ suc n
  pub current : current_connection s.past s.keeper.client ≡ Some κ.name

-- what comes back on it, before and after
pub own_left : (limits : Limits) (s : Story) (i : ℕ) (κ : ClientConnection) (w : Written) → IsOwn limits s i κ w
    → left_behind (current_connection s.past s.keeper.client) s.connections ≡ backward_one w.packet (left_behind (current_connection s.past s.keeper.client) (with_one_counted i s.connections))
own_left limits s i κ w o =
    let p = left_own κ.name s.connections i κ o.shape.names_apart o.at (same_name_self κ.name) in
    ap (λ c. left_behind c s.connections) o.current ∙ p.0 ∙ comes_back κ w o.next ∙ ap (backward_one w.packet) (sym (ap (λ c. left_behind c (with_one_counted i s.connections)) o.current ∙ p.1))

-- a plain place
pub own_plain : (limits : Limits) (s : Story) (i : ℕ) (κ : ClientConnection) (w : Written) (place : Place) → IsOwn limits s i κ w → IsPlain limits s place → ((b : List Backward) → backward_one w.packet b ≡ b)
    → GoesTo (as_subscriber limits s) (as_subscriber limits (placed s place (with_one_counted i s.connections)))
own_plain limits s i κ w place o p none =
    let current = current_connection s.past s.keeper.client in
    plain_goes limits s place (with_one_counted i s.connections) o.shape p (view_counted limits (place ∷ s.past) current s.keeper s.connections i o.n κ o.at o.taken) (accepted_counted i s.connections)
    (sym (own_left limits s i κ w o ∙ none (left_behind current (with_one_counted i s.connections))))

-- a packet that ends no connection
pub stays_on : (y : ConnectionName) (packet : Packet) (mark : Mark) (current : Option ConnectionName) → is_leaving mark ≡ false → ends_any (at_packet y packet mark) [] current ≡ false
stays_on y packet mark None e = refl
stays_on y packet mark (Some x) e = by (same_connection y x) (is_leaving mark) e
  where
    by : (a b : Bool) → b ≡ false → (a && b) ≡ false
    by true b e = e
    by false b e = refl

-- one that does neither, with the copies that it makes
packet_plain : (limits : Limits) (s : Story) (i : ℕ) (κ : ClientConnection) (w : Written) (packet : Packet) (mark : Mark) → IsOwn limits s i κ w → is_leaving mark ≡ false
    → answered_by (commands.Packet κ.name packet) mark (length s.past) s.keeper.client (entries_of limits s.past s.keeper.client) ≡ entries_of limits s.past s.keeper.client
    → ((x : ConnectionName) → any_named (same_connection x) s.connections ≡ true
    → forward_of (sends_to x (answers_at limits (at_packet κ.name packet mark) s.past)) ≡ forward_of (sends_to x (deliveries_to limits (at_packet κ.name packet mark) s.past s.keeper.client)))
    → IsPlain limits s (at_packet κ.name packet mark)
packet_plain limits s i κ w packet mark o leaving answers sends =
    record {
      opens = refl;
      goes = stays_on κ.name packet mark (current_connection s.past s.keeper.client) leaving;
      answers = answers;
      window = o.steady (at_packet κ.name packet mark) s.past refl;
      sends = sends;
    }

-- one that ends the connection
pub own_parts : (limits : Limits) (s : Story) (i : ℕ) (κ : ClientConnection) (w : Written) (packet : Packet) (mark : Mark) → IsOwn limits s i κ w → is_leaving mark ≡ true
    → answered_by (commands.Packet κ.name packet) mark (length s.past) s.keeper.client (entries_of limits s.past s.keeper.client) ≡ entries_of limits s.past s.keeper.client
    → copies_at (at_packet κ.name packet mark) s.past s.keeper.client ≡ [] → SendsNone limits (at_packet κ.name packet mark) s.past s.connections
    → GoesTo (as_subscriber limits s) (as_subscriber limits (placed s (at_packet κ.name packet mark) (with_one_counted i s.connections)))
own_parts limits s i κ w packet mark o leaving answers copies sends =
    let place = at_packet κ.name packet mark in
    let over = current_over place s.past s.keeper.client refl (ap (ends_any place s.keeper.client) o.current ∙ ap₂ (λ a b. a && b) (same_name_self κ.name) leaving) in
    place_parts limits s place (with_one_counted i s.connections) o.shape over (entries_over limits place s.past s.keeper.client o.shape.session refl refl over answers copies) sends
    (view_counted limits (place ∷ s.past) None s.keeper s.connections i o.n κ o.at o.taken) (accepted_counted i s.connections)

-- a PUBLISH, by what happens to it
pub own_publish : (limits : Limits) (s : Story) (i : ℕ) (κ : ClientConnection) (w : Written) (p : Publish) → IsOwn limits s i κ w → w.packet ≡ packets.Publish p
    → GoesTo (as_subscriber limits s) (as_subscriber limits (placed s (at_packet κ.name (packets.Publish p) (packet_mark limits s.past s.keeper.client (packets.Publish p))) (with_one_counted i s.connections)))
own_publish limits s i κ w p o e =
    by (is_repeat s.past s.keeper.client p.delivery) (is_refused limits s.past (publication_of p)) (λ x h. publish_sends limits s.past κ.name x p s.keeper.client s.keeper.client (none_else limits s o.shape x h))
  where
    c : Client
    c = s.keeper.client

    mark : Bool → Bool → Mark
    mark again refused = if again then Mark.Repeat c else if refused then Mark.Refused c else Mark.Taken c

    none : (b : List Backward) → backward_one w.packet b ≡ b
    none b = ap (λ (z : Packet). backward_one z b) e

    by : (again refused : Bool)
        → ((x : ConnectionName) → any_named (same_connection x) s.connections ≡ true
        → forward_of (sends_to x (answers_at limits (at_packet κ.name (packets.Publish p) (mark again refused)) s.past))
        ≡ forward_of (sends_to x (deliveries_to limits (at_packet κ.name (packets.Publish p) (mark again refused)) s.past c)))
        → GoesTo (as_subscriber limits s) (as_subscriber limits (placed s (at_packet κ.name (packets.Publish p) (mark again refused)) (with_one_counted i s.connections)))
    by true refused sends = own_plain limits s i κ w (at_packet κ.name (packets.Publish p) (Mark.Repeat c)) o (packet_plain limits s i κ w (packets.Publish p) (Mark.Repeat c) o refl refl sends) none
    by false true sends = own_parts limits s i κ w (packets.Publish p) (Mark.Refused c) o refl refl refl (λ x h. refl)
    by false false sends = own_plain limits s i κ w (at_packet κ.name (packets.Publish p) (Mark.Taken c)) o (packet_plain limits s i κ w (packets.Publish p) (Mark.Taken c) o refl refl sends) none

-- any other that is neither an answer nor the end
pub own_other : (limits : Limits) (s : Story) (i : ℕ) (κ : ClientConnection) (w : Written) (packet : Packet) (mark : Mark) → IsOwn limits s i κ w → w.packet ≡ packet → is_leaving mark ≡ false
    → answered_by (commands.Packet κ.name packet) mark (length s.past) s.keeper.client (entries_of limits s.past s.keeper.client) ≡ entries_of limits s.past s.keeper.client
    → ((x : ConnectionName) → any_named (same_connection x) s.connections ≡ true
    → forward_of (sends_to x (answers_at limits (at_packet κ.name packet mark) s.past)) ≡ forward_of (sends_to x (deliveries_to limits (at_packet κ.name packet mark) s.past s.keeper.client)))
    → ((b : List Backward) → backward_one packet b ≡ b)
    → GoesTo (as_subscriber limits s) (as_subscriber limits (placed s (at_packet κ.name packet mark) (with_one_counted i s.connections)))
own_other limits s i κ w packet mark o e leaving answers sends none =
    own_plain limits s i κ w (at_packet κ.name packet mark) o (packet_plain limits s i κ w packet mark o leaving answers sends) (λ b. ap (λ (z : Packet). backward_one z b) e ∙ none b)
