-- The list takes a packet of one of the client's connections, after its CONNECT.
use Rattle.std.proofs.Common.{◌≡◌, ℕ, suc, Bool, true, false, if◌then◌else◌, List, [], ◌∷◌, length, Option, Some, None, refl, ap, sym, ◌∙◌, subst, ◌⊎◌, inl, inr}
use Rattle.std.specs.Prelude.{slice_get}
use Rattle.std.proofs.lemmas.Bool.{both_ways, cases_Bool}
use Rattle.packet.specs.declared.packet.Packet.{Packet}
use Rattle.packet.specs.declared.packet.Packet.TheVariants as packets
use Rattle.broker_spec.specs.Connection.{ConnectionName, same_connection}
use Rattle.broker_spec.specs.Place.{Client, Mark, Past, Limits}
use Rattle.broker_spec.specs.Sessions.{any_connection, current_connection}
use Rattle.broker_spec.specs.Owner.{clients, first_client, owner_of}
use Rattle.broker_spec.specs.Subscriptions.{subscriptions_of}
use Rattle.broker_spec.specs.Retained.{retained_publications}
use Rattle.broker_spec.specs.Marks.{grants, packet_mark, packet_mark_of}
use Rattle.broker_spec.specs.Times.{entries_of, room_of}
use Rattle.broker_spec.specs.NobodyTheorems.{IsSteady}
use Rattle.broker_spec.proofs.ClientsInOrder.{same_is, IsNamed}
use Rattle.exactly_once.specs.HandshakeInvariant.{IsGood}
use Rattle.client_base.specs.Keeper.{Written}
use Rattle.exactly_once.specs.Sides.{ClientConnection}
use Rattle.exactly_once.specs.Story.{Story}
use Rattle.exactly_once.specs.StoryCommands.{any_named, with_one_counted}
use Rattle.exactly_once.specs.Inside.Projections.{GoesTo}
use Rattle.exactly_once.specs.Inside.AsSubscriber.{left_behind, as_subscriber}
use Rattle.exactly_once.specs.Inside.Shape.{HasShape}
use Rattle.exactly_once.proofs.Packets.{at_packet}
use Rattle.exactly_once.proofs.Takes.{same_name_self}
use Rattle.exactly_once.proofs.subscribing.events.Leaving.{same_name}
use Rattle.exactly_once.proofs.subscribing.Counted.{named_at, accepted_counted, view_counted, left_other}
use Rattle.exactly_once.proofs.subscribing.Placed.{placed}
use Rattle.exactly_once.proofs.subscribing.Plain.{plain_goes}
use Rattle.exactly_once.proofs.subscribing.Parting.{nothing_behind}
use Rattle.exactly_once.proofs.subscribing.Elsewhere.{nobodys_reply, nobodys_sends, both_none}
use Rattle.exactly_once.proofs.subscribing.events.Others.{none_else}
use Rattle.exactly_once.proofs.subscribing.Own.{IsOwn, stays_on, own_parts, own_publish, own_other}
use Rattle.exactly_once.proofs.subscribing.Answering.{own_puback, own_pubcomp}
use Rattle.exactly_once.proofs.subscribing.Pubrecs.{own_pubrec}
use Rattle.exactly_once.proofs.subscribing.places.Owners.{owner_is, served_named}
use Rattle.exactly_once.proofs.subscribing.places.Publishes.{skips, granted_sends}

-- one of the current connection, by its kind
own_packet : (limits : Limits) (s : Story) (i : ℕ) (κ : ClientConnection) (w : Written) (packet : Packet) → IsOwn limits s i κ w → IsGood (as_subscriber limits s) → w.packet ≡ packet
    → GoesTo (as_subscriber limits s) (as_subscriber limits (placed s (at_packet κ.name packet (packet_mark limits s.past s.keeper.client packet)) (with_one_counted i s.connections)))
own_packet limits s i κ w (packets.Publish p) o good e = own_publish limits s i κ w p o e
own_packet limits s i κ w (packets.Puback id) o good e = own_puback limits s i κ w id o e
own_packet limits s i κ w (packets.Pubrec id) o good e = own_pubrec limits s i κ w id o good e
own_packet limits s i κ w (packets.Pubcomp id) o good e = own_pubcomp limits s i κ w id o e
own_packet limits s i κ w (packets.Subscribe p) o good e =
    let c = s.keeper.client in
    let which = grants limits (retained_publications s.past) (subscriptions_of s.past c) (room_of limits s.past c) p.filters in
    own_other limits s i κ w (packets.Subscribe p) (Mark.Granted c which) o e refl refl (λ x h. granted_sends limits s.past κ.name x p c c which (none_else limits s o.shape x h)) (λ b. refl)
own_packet limits s i κ w (packets.Unsubscribe p) o good e =
    let c = s.keeper.client in
    own_other limits s i κ w (packets.Unsubscribe p) (Mark.Handled c) o e refl refl
    (λ x h. both_none limits (at_packet κ.name (packets.Unsubscribe p) (Mark.Handled c)) s.past x c (skips x κ.name (packets.Unsuback p.id) [] (λ f. refl)) refl) (λ b. refl)
own_packet limits s i κ w (packets.Pubrel id) o good e =
    let c = s.keeper.client in
    own_other limits s i κ w (packets.Pubrel id) (Mark.Handled c) o e refl refl
    (λ x h. both_none limits (at_packet κ.name (packets.Pubrel id) (Mark.Handled c)) s.past x c (skips x κ.name (packets.Pubcomp id) [] (λ f. refl)) refl) (λ b. refl)
own_packet limits s i κ w packets.Pingreq o good e =
    let c = s.keeper.client in
    own_other limits s i κ w packets.Pingreq (Mark.Handled c) o e refl refl
    (λ x h. both_none limits (at_packet κ.name packets.Pingreq (Mark.Handled c)) s.past x c (skips x κ.name packets.Pingresp [] (λ f. refl)) refl) (λ b. refl)
own_packet limits s i κ w packet o good e = own_parts limits s i κ w packet (Mark.Leaves s.keeper.client) o refl refl refl (λ x h. refl)

-- if no client is found, none passes the test
none_found : (test : Client → Bool) (ds : List Client) (c : Client) → first_client test ds ≡ None → IsNamed c ds → test c ≡ true → ⊥
none_found test [] c e n t = n
none_found test (d ∷ ds) c e n t = by (cases_Bool (test d)) n (λ f m. none_found test ds c f m t)
  where
    by : (test d ≡ true) ⊎ (test d ≡ false) → (c ≡ d) ⊎ IsNamed c ds → (first_client test ds ≡ None → IsNamed c ds → ⊥) → ⊥
    by (inl p) m ih = let f : Some d ≡ None = sym (ap (λ z. if z then Some d else first_client test ds) p) ∙ e in cc
    by (inr p) (inl q) ih = both_ways (test d) p (ap test (sym q) ∙ t)
    by (inr p) (inr m) ih = ih (sym (ap (λ z. if z then Some d else first_client test ds) p) ∙ e) m

-- a connection on which a client is served has an owner
not_nobodys : (past : Past) (c : Client) (x : ConnectionName) → current_connection past c ≡ Some x → owner_of past x ≡ None → ⊥
not_nobodys past c x e n =
    none_found (λ d. any_connection (same_connection x) (current_connection past d)) (clients past) c n (served_named past c x e) (ap (any_connection (same_connection x)) e ∙ same_name_self x)

-- one of a connection that is not current
nobodys_packet : (limits : Limits) (s : Story) (i n : ℕ) (κ : ClientConnection) (packet : Packet) → HasShape limits s → IsSteady limits → slice_get s.connections i ≡ Some κ → κ.taken ≡ suc n → owner_of s.past κ.name ≡ None
    → GoesTo (as_subscriber limits s) (as_subscriber limits (placed s (at_packet κ.name packet Mark.Unmarked) (with_one_counted i s.connections)))
nobodys_packet limits s i n κ packet shape steady at taken none =
    let current = current_connection s.past s.keeper.client in
    let place = at_packet κ.name packet Mark.Unmarked in
    plain_goes limits s place (with_one_counted i s.connections) shape
    (record {
      opens = refl;
      goes = stays_on κ.name packet Mark.Unmarked current refl;
      answers = nobodys_reply κ.name packet s.keeper.client (length s.past) (entries_of limits s.past s.keeper.client);
      window = steady place s.past refl;
      sends = λ x h. nobodys_sends limits s.past κ.name x packet s.keeper.client;
    })
    (view_counted limits (place ∷ s.past) current s.keeper s.connections i n κ at taken) (accepted_counted i s.connections) (left current refl)
  where
    left : (current : Option ConnectionName) → current_connection s.past s.keeper.client ≡ current → left_behind current (with_one_counted i s.connections) ≡ left_behind current s.connections
    left None e = nothing_behind (with_one_counted i s.connections) ∙ sym (nothing_behind s.connections)
    left (Some x) e = by (cases_Bool (same_connection x κ.name))
      where
        by : (same_connection x κ.name ≡ true) ⊎ (same_connection x κ.name ≡ false) → left_behind (Some x) (with_one_counted i s.connections) ≡ left_behind (Some x) s.connections
        by (inl f) = absurd (not_nobodys s.past s.keeper.client κ.name (e ∙ ap (λ z. Some z) (same_name x κ.name f)) none)
        by (inr f) = left_other x s.connections i κ at f

-- a packet of one of the client's connections
pub takes_packet : (limits : Limits) (s : Story) (i n : ℕ) (κ : ClientConnection) (w : Written) → HasShape limits s → IsSteady limits → IsGood (as_subscriber limits s)
    → slice_get s.connections i ≡ Some κ → slice_get κ.written κ.taken ≡ Some w → κ.taken ≡ suc n
    → GoesTo (as_subscriber limits s) (as_subscriber limits (placed s (at_packet κ.name w.packet (packet_mark_of limits s.past w.packet (owner_of s.past κ.name))) (with_one_counted i s.connections)))
takes_packet limits s i n κ w shape steady good at next taken = by (owner_of s.past κ.name) refl
  where
    named : any_named (same_connection κ.name) s.connections ≡ true
    named = named_at (same_connection κ.name) s.connections i κ at (same_name_self κ.name)

    by : (owner : Option Client) → owner_of s.past κ.name ≡ owner
        → GoesTo (as_subscriber limits s) (as_subscriber limits (placed s (at_packet κ.name w.packet (packet_mark_of limits s.past w.packet owner)) (with_one_counted i s.connections)))
    by None e = nobodys_packet limits s i n κ w.packet shape steady at taken e
    by (Some d) e =
        let served = owner_is s.past κ.name d e in
        let same : d ≡ s.keeper.client = same_is d s.keeper.client (shape.nobody_else d κ.name served named) in
        subst (λ (z : Client). GoesTo (as_subscriber limits s) (as_subscriber limits (placed s (at_packet κ.name w.packet (packet_mark limits s.past z w.packet)) (with_one_counted i s.connections)))) (sym same)
        (own_packet limits s i κ w w.packet
        (record { n = n; shape = shape; steady = steady; at = at; next = next; taken = taken; current = subst (λ (z : Client). current_connection s.past z ≡ Some κ.name) same served }) good refl)
