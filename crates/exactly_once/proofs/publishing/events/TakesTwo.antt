-- The list takes a PUBLISH of QoS 2 of the client's current connection: a new one, another try, or one that is refused.
use Rattle.std.proofs.Common.{◌≡◌, ℕ, zero, suc, Bool, true, false, ◌||◌, ◌==◌, if◌then◌else◌, List, [], ◌∷◌, ◌++◌, Some, refl, ap, ap₂, sym, ◌∙◌, subst, inl, inr, ◌⊎◌}
use Rattle.std.specs.Prelude.{slice_get, flat_map}
use Rattle.std.proofs.lemmas.Bool.{both_ways, cases_Bool}
use Rattle.packet.specs.declared.delivery.Delivery.TheVariants as deliveries
use Rattle.packet.specs.declared.publish.Publish.{Publish}
use Rattle.packet.specs.declared.packet.Packet.TheVariants as packets
use Rattle.lists.specs.Lists.{has_id}
use Rattle.session_base.specs.Publication.{publication_of}
use Rattle.broker_spec.specs.Connection.{same_connection}
use Rattle.broker_spec.specs.Place.{Client, Mark, Past, Limits}
use Rattle.broker_spec.specs.Received.{receives, received_of}
use Rattle.broker_spec.specs.Owner.{clients}
use Rattle.broker_spec.specs.Marks.{is_refused, packet_mark}
use Rattle.broker_spec.specs.Sends.{deliveries_to}
use Rattle.broker_spec.specs.declared.command.Output.TheVariants.{Send}
use Rattle.broker_spec.proofs.ClientsInOrder.{same_self}
use Rattle.exactly_once.specs.Handshake.{Forward, Transit, Handshake, receiver_accepts}
use Rattle.exactly_once.specs.Sends.{sends_to}
use Rattle.client_base.specs.Keeper.{Written, Keeper}
use Rattle.exactly_once.specs.Sides.{ClientConnection}
use Rattle.exactly_once.specs.StoryCommands.{with_one_counted, packet_count}
use Rattle.exactly_once.specs.Carried.{connection_named, written_number_at, written_number, more_by}
use Rattle.exactly_once.specs.Inside.Projections.{backward_of_own, as_publisher, GoesTo}
use Rattle.exactly_once.specs.Inside.Shape.{NamesApart}
use Rattle.exactly_once.proofs.Packets.{at_packet, copies_none}
use Rattle.session_base.proofs.KeptIdentifiers.{has_with}
use Rattle.broker_spec.proofs.ConnectionNames.{same_itself}
use Rattle.exactly_once.proofs.places.Counts.{counted_here}
use Rattle.exactly_once.proofs.publishing.Last.{each_there, none_named}
use Rattle.exactly_once.proofs.Deliveries.{sends_append}
use Rattle.exactly_once.proofs.publishing.Written.{backward_both}
use Rattle.broker_base.proofs.ConnectionsOfSessions.{same_turned}
use Rattle.exactly_once.proofs.publishing.kept.Numbers.{same_numbers, same_counted}
use Rattle.exactly_once.proofs.publishing.First.{story_by}
use Rattle.exactly_once.proofs.publishing.AtPlaces.{no_number}
use Rattle.exactly_once.proofs.publishing.events.TakesPublish.{own_send}
use Rattle.exactly_once.proofs.publishing.events.TakesOwn.{OnCurrent, after_place, ends_current, takes_one}

-- the connection of this name
pub connection_at : (i : ℕ) (connections : List ClientConnection) (κ : ClientConnection) → NamesApart connections → slice_get connections i ≡ Some κ → connection_named κ.name connections ≡ Some κ
connection_at i [] κ apart e = cc
connection_at zero (μ ∷ connections) κ apart e =
    let same : μ ≡ κ = cc in
    ap (λ b. if b then Some μ else connection_named κ.name connections) (ap (λ (ν : ClientConnection). same_connection κ.name ν.name) same ∙ same_itself κ.name) ∙ ap (λ ν. Some ν) same
connection_at (suc i) (μ ∷ connections) κ apart e =
    let other = same_turned κ.name μ.name ∙ each_there (λ (ξ : ClientConnection). same_connection μ.name ξ.name ≡ false) i connections κ e (none_named (same_connection μ.name) connections apart.0) in
    ap (λ b. if b then Some μ else connection_named κ.name connections) other ∙ connection_at i connections κ apart.1 e

-- the place carries the publication of the packet that is taken
pub carries_it : (past : Past) (i : ℕ) (connections : List ClientConnection) (κ : ClientConnection) (w : Written) (mark : Mark) → NamesApart connections → slice_get connections i ≡ Some κ
    → slice_get κ.written κ.taken ≡ Some w → packet_count κ.name past ≡ κ.taken → written_number_at (packet_count κ.name past) (connection_named κ.name (with_one_counted i connections)) ≡ w.number
carries_it past i connections κ w mark apart stands next counted =
    same_counted (at_packet κ.name packets.Pingreq mark ∷ past) i connections κ.name (packet_count κ.name past) (counted_here κ.name (at_packet κ.name packets.Pingreq mark) past (same_itself κ.name))
    ∙ ap₂ written_number_at counted (connection_at i connections κ apart stands) ∙ ap written_number next

-- after an acceptance
accepted_by : (b : Bool) (id k : ℕ) (h : Handshake ℕ) (l : Transit ℕ) → b ≡ false → (receiver_accepts id k b h l).accepted ≡ h.accepted ++ k ∷ []
accepted_by true id k h l e = absurd (both_ways true e refl)
accepted_by false id k h l e = refl

received_then : (b : Bool) (id k : ℕ) (h : Handshake ℕ) (l : Transit ℕ) (j : ℕ) → b ≡ false → (receiver_accepts id k b h l).received j ≡ ((j == id) || h.received j)
received_then true id k h l j e = absurd (both_ways true e refl)
received_then false id k h l j e = refl

-- and after another try
accepted_again : (b : Bool) (id k : ℕ) (h : Handshake ℕ) (l : Transit ℕ) → b ≡ true → (receiver_accepts id k b h l).accepted ≡ h.accepted
accepted_again true id k h l e = refl
accepted_again false id k h l e = absurd (both_ways false refl e)

received_again : (b : Bool) (id k : ℕ) (h : Handshake ℕ) (l : Transit ℕ) (j : ℕ) → b ≡ true → (receiver_accepts id k b h l).received j ≡ h.received j
received_again true id k h l j e = refl
received_again false id k h l j e = absurd (both_ways false refl e)

-- with this delivery
abbrev pub at_two : Publish → Bool → ℕ → Publish
at_two p dup id = record p { delivery = deliveries.ExactlyOnce dup id }

pub takes_two : (limits : Limits) (past : Past) (keeper : Keeper) (connections : List ClientConnection) (i : ℕ) (κ : ClientConnection) (p : Publish) (dup : Bool) (id k : ℕ)
    → OnCurrent limits past keeper connections i κ (record { packet = packets.Publish (at_two p dup id); number = Some k })
    → GoesTo (as_publisher limits (story_by past connections keeper))
    (after_place limits past keeper connections i (at_packet κ.name (packets.Publish (at_two p dup id)) (packet_mark limits past keeper.client (packets.Publish (at_two p dup id)))))
takes_two limits past keeper connections i κ p dup id k o = by (cases_Bool (has_id id (received_of past keeper.client))) (is_refused limits past (publication_of q))
  where
    q : Publish
    q = at_two p dup id

    c : Client
    c = keeper.client

    w : Written
    w = record { packet = packets.Publish (at_two p dup id); number = Some k }

    h : Handshake ℕ
    h = as_publisher limits (story_by past connections keeper)

    after : Mark → Handshake ℕ
    after m = after_place limits past keeper connections i (at_packet κ.name (packets.Publish q) m)

    -- another try
    again : has_id id (received_of past keeper.client) ≡ true → GoesTo h (after (Mark.Repeat keeper.client))
    again known =
        takes_one limits past keeper connections i κ w (Mark.Repeat keeper.client) (Forward.Publish id k) o refl (λ f. refl) (ap backward_of_own (own_send κ.name (packets.Pubrec id)))
        (λ l. accepted_again (h.received id) id k h l known
        ∙ no_number connections (with_one_counted i connections) (at_packet κ.name (packets.Publish q) (Mark.Repeat keeper.client)) past refl (same_counted past i connections))
        (λ l j. received_again (h.received id) id k h l j known)

    -- a new one
    new : has_id id (received_of past keeper.client) ≡ false → GoesTo h (after (Mark.Taken keeper.client))
    new unknown =
        let place = at_packet κ.name (packets.Publish q) (Mark.Taken keeper.client) in
        let copies = flat_map (deliveries_to limits place past) (clients past) in
        let ids = received_of past keeper.client in
        takes_one limits past keeper connections i κ w (Mark.Taken keeper.client) (Forward.Publish id k) o refl (λ f. refl)
        (ap backward_of_own (sends_append κ.name (Send κ.name (packets.Pubrec id) ∷ []) copies) ∙ backward_both (sends_to κ.name (Send κ.name (packets.Pubrec id) ∷ [])) (sends_to κ.name copies)
        ∙ ap₂ (λ a b. a ++ b) (ap backward_of_own (own_send κ.name (packets.Pubrec id))) (copies_none limits place past κ.name (clients past)))
        (λ l. accepted_by (h.received id) id k h l unknown
        ∙ sym (ap₂ (λ xs number. xs ++ more_by true number) (same_numbers connections (with_one_counted i connections) past (same_counted past i connections))
        (carries_it past i connections κ w (Mark.Taken keeper.client) o.whole.names_apart o.stands o.next o.shape.counted)))
        (λ l j. received_then (h.received id) id k h l j unknown ∙ sym (ap (λ b. has_id j (if b then receives (deliveries.ExactlyOnce dup id) ids else ids)) (same_self keeper.client) ∙ has_with j id ids))

    by : (has_id id (received_of past keeper.client) ≡ true) ⊎ (has_id id (received_of past keeper.client) ≡ false) → (refused : Bool)
        → GoesTo h (after (if has_id id (received_of past keeper.client) then Mark.Repeat keeper.client else if refused then Mark.Refused keeper.client else Mark.Taken keeper.client))
    by (inl known) refused = subst (λ (b : Bool). GoesTo h (after (if b then Mark.Repeat c else if refused then Mark.Refused c else Mark.Taken c))) (sym known) (again known)
    by (inr unknown) true =
        subst (λ (b : Bool). GoesTo h (after (if b then Mark.Repeat c else Mark.Refused c))) (sym unknown)
        (ends_current limits past keeper connections i κ w (Mark.Refused keeper.client) o refl refl refl refl)
    by (inr unknown) false = subst (λ (b : Bool). GoesTo h (after (if b then Mark.Repeat c else Mark.Taken c))) (sym unknown) (new unknown)
