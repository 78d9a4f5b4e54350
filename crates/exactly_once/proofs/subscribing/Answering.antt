-- The list takes a PUBACK or a PUBCOMP of the client's current connection.
use Rattle.std.proofs.Common.{◌≡◌, ℕ, List, [], ◌∷◌, ◌++◌, length, map, refl, ap, ap₂, sym, ◌∙◌, subst}
use Rattle.packet.specs.declared.packet.Packet.{Packet}
use Rattle.packet.specs.declared.packet.Packet.TheVariants as packets
use Rattle.broker_spec.specs.Place.{Limits}
use Rattle.broker_spec.specs.Sessions.{current_connection}
use Rattle.broker_spec.specs.Times.{at_puback, at_pubcomp, window_at, entries_of}
use Rattle.exactly_once.specs.Handshake.{Backward, sender_hears, reply, with_items}
use Rattle.exactly_once.specs.HandshakeSteps.HandshakeTrace.{stays}
use Rattle.client_base.specs.Keeper.{Written}
use Rattle.exactly_once.specs.Sides.{ClientConnection}
use Rattle.exactly_once.specs.Story.{Story}
use Rattle.exactly_once.specs.StoryCommands.{with_one_counted}
use Rattle.exactly_once.specs.Inside.Projections.{GoesTo}
use Rattle.exactly_once.specs.Inside.AsSubscriber.{items_of_entries, left_behind, as_subscriber}
use Rattle.exactly_once.proofs.Items.{items_pubcomp}
use Rattle.exactly_once.proofs.subscribing.Written.{backward_one}
use Rattle.exactly_once.proofs.subscribing.Standing.{Stands, stands}
use Rattle.exactly_once.proofs.subscribing.Views.{view, link_as, link_is, grown}
use Rattle.exactly_once.proofs.subscribing.Placed.{GoesOn, placed, place_goes}
use Rattle.exactly_once.proofs.subscribing.Plain.{grown_none}
use Rattle.exactly_once.proofs.subscribing.Heard.{hears_view}
use Rattle.exactly_once.proofs.subscribing.Counted.{accepted_counted, view_counted}
use Rattle.exactly_once.proofs.subscribing.Own.{IsOwn, own_left}
use Rattle.exactly_once.proofs.subscribing.places.Answered.{items_puback}
use Rattle.exactly_once.proofs.subscribing.Answers.{at_own, answered, none_started, started_sends, entries_answered, answers_on, own_if}

-- a PUBACK
pub own_puback : (limits : Limits) (s : Story) (i : ℕ) (κ : ClientConnection) (w : Written) (id : ℕ) → IsOwn limits s i κ w → w.packet ≡ packets.Puback id
    → GoesTo (as_subscriber limits s) (as_subscriber limits (placed s (at_own s κ.name (packets.Puback id)) (with_one_counted i s.connections)))
own_puback limits s i κ w id o e =
    let place = at_own s κ.name (packets.Puback id) in
    let current = current_connection s.past s.keeper.client in
    let es = entries_of limits s.past s.keeper.client in
    let v = view limits s.past current s.keeper s.connections in
    let all = answered s limits κ.name (packets.Puback id) in
    let g = answers_on limits s κ.name (packets.Puback id) [] o.current refl
    (λ x h. started_sends (window_at limits (place ∷ s.past)) (length s.past) κ.name x current (all ++ []) (entries_of limits (place ∷ s.past) s.keeper.client) o.current
    (entries_answered limits s κ.name (packets.Puback id) o.current refl) (none_started limits s κ.name (packets.Puback id))) in
    place_goes limits s place (with_one_counted i s.connections) all [] [] (as_subscriber limits s) o.shape g
    (view_counted limits (place ∷ s.past) current s.keeper s.connections i o.n κ o.at o.taken) (accepted_counted i s.connections) stays
    (sym (ap items_of_entries (own_if s (map (at_puback (length s.past) id) es) es) ∙ items_puback (length s.past) id es)) refl (λ j. refl)
    (link_is limits s.past current s.keeper s.connections
    ∙ ap₂ link_as (sym (grown_none v)) (own_left limits s i κ w o ∙ ap (λ (z : Packet). backward_one z (left_behind current (with_one_counted i s.connections))) e))

-- the sender receives the answer
pub own_hears : (limits : Limits) (s : Story) (i : ℕ) (κ : ClientConnection) (w : Written) (packet : Packet) (m : Backward) → IsOwn limits s i κ w → w.packet ≡ packet → ((b : List Backward) → backward_one packet b ≡ m ∷ b)
    → GoesOn limits s (at_own s κ.name packet) (answered s limits κ.name packet) [] (reply m) → sender_hears m (items_of_entries (entries_of limits s.past s.keeper.client)) ≡ items_of_entries (answered s limits κ.name packet)
    → GoesTo (as_subscriber limits s) (as_subscriber limits (placed s (at_own s κ.name packet) (with_one_counted i s.connections)))
own_hears limits s i κ w packet m o e first g items =
    let current = current_connection s.past s.keeper.client in
    let v = view limits s.past current s.keeper s.connections in
    let b = left_behind current (with_one_counted i s.connections) in
    let left : left_behind current s.connections ≡ m ∷ b = own_left limits s i κ w o ∙ ap (λ (z : Packet). backward_one z b) e ∙ first b in
    let h = as_subscriber limits s in
    place_goes limits s (at_own s κ.name packet) (with_one_counted i s.connections) (answered s limits κ.name packet) [] (reply m) (with_items (sender_hears m h.items) (link_as (grown (reply m) v) b) h) o.shape g
    (view_counted limits (at_own s κ.name packet ∷ s.past) current s.keeper s.connections i o.n κ o.at o.taken) (accepted_counted i s.connections)
    (hears_view h v m b (link_is limits s.past current s.keeper s.connections ∙ ap (link_as v) left)
    (subst (Stands h.transit) left (stands limits s.past s.keeper.client s.keeper s.connections current o.shape.connections o.shape.newest_is_served)))
    items refl (λ j. refl) refl

-- a PUBCOMP
pub own_pubcomp : (limits : Limits) (s : Story) (i : ℕ) (κ : ClientConnection) (w : Written) (id : ℕ) → IsOwn limits s i κ w → w.packet ≡ packets.Pubcomp id
    → GoesTo (as_subscriber limits s) (as_subscriber limits (placed s (at_own s κ.name (packets.Pubcomp id)) (with_one_counted i s.connections)))
own_pubcomp limits s i κ w id o e =
    let place = at_own s κ.name (packets.Pubcomp id) in
    let es = entries_of limits s.past s.keeper.client in
    own_hears limits s i κ w (packets.Pubcomp id) (Backward.Pubcomp id) o e (λ b. refl)
    (answers_on limits s κ.name (packets.Pubcomp id) [] o.current refl
    (λ x h. started_sends (window_at limits (place ∷ s.past)) (length s.past) κ.name x (current_connection s.past s.keeper.client) (answered s limits κ.name (packets.Pubcomp id) ++ [])
    (entries_of limits (place ∷ s.past) s.keeper.client) o.current (entries_answered limits s κ.name (packets.Pubcomp id) o.current refl) (none_started limits s κ.name (packets.Pubcomp id))))
    (sym (ap items_of_entries (own_if s (map (at_pubcomp (length s.past) id) es) es) ∙ items_pubcomp (length s.past) id es))
