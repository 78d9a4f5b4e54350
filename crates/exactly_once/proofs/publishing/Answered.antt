-- A PUBREC or a PUBCOMP that the client handles is a move of the handshake in which it publishes.
use Rattle.std.proofs.Common.{◌≡◌, ℕ, suc, Bool, true, false, ◌==◌, if◌then◌else◌, List, [], ◌∷◌, ◌++◌, map, drop, Some, refl, ap, sym, ◌∙◌, subst}
use Rattle.std.specs.Prelude.{slice_get}
use Rattle.std.proofs.lemmas.List.{append-nil}
use Rattle.std.proofs.lemmas.Bool.{both_ways}
use Rattle.packet.specs.declared.packet.Packet.TheVariants as packets
use Rattle.lists.specs.Lists.{has_id}
use Rattle.broker_spec.specs.Place.{Past, Limits}
use Rattle.broker_spec.specs.Sessions.{current_connection}
use Rattle.exactly_once.specs.Items.{SenderItem, has_sent}
use Rattle.exactly_once.specs.Handshake.{Forward, Backward, Transit, Handshake, sender_hears, reply}
use Rattle.exactly_once.specs.HandshakeInvariant.{IsGood, IsDue, FitsTransit}
use Rattle.lists.proofs.Tests.{or_then}
use Rattle.exactly_once.specs.Sends.{put_to}
use Rattle.exactly_once.specs.Sides.{ClientConnection, Side}
use Rattle.client_base.specs.Keeper.{Keeper}
use Rattle.client_base.specs.Written.{plain, writing}
use Rattle.client_base.specs.Handled.{handled_online}
use Rattle.client_base.specs.Handshakes.{own_at_pubrec, own_at_pubcomp, is_sent_with}
use Rattle.session_base.specs.Identifiers.{without_id}
use Rattle.exactly_once.specs.Story.{with_side}
use Rattle.exactly_once.specs.Inside.Projections.{forward_of_own, backward_of_own, to_be_taken, is_current, as_publisher, GoesTo}
use Rattle.exactly_once.specs.Inside.ConnectionShape.{ConnectionInShape}
use Rattle.exactly_once.proofs.publishing.Links.{link_by, Reaches, hears_one}
use Rattle.exactly_once.proofs.publishing.Own.{items_released, items_finished, sent_then}
use Rattle.exactly_once.proofs.publishing.Written.{dropped_next}
use Rattle.exactly_once.proofs.publishing.First.{story_by, first_link, goes_first}

-- the first answer in transit is due
pub due_first : (h : Handshake ℕ) (good : IsGood h) (cur : Bool) (m : Backward) (f : List (Forward ℕ)) (b : List Backward) → h.transit ≡ link_by cur true f (m ∷ b)
    → IsDue h.received good.old m
due_first h good true m f b e = (subst (λ (l : Transit ℕ). FitsTransit h.received good.old good.new l) e good.transit).due.0
due_first h good false m f b e = (subst (λ (l : Transit ℕ). FitsTransit h.received good.old good.new l) e good.transit).due.0

-- one that is sent among the first is sent among all
pub sent_among : (i : ℕ) (old new : List (SenderItem ℕ)) → has_sent i old ≡ true → has_sent i (old ++ new) ≡ true
sent_among i [] new e = absurd (both_ways false refl e)
sent_among i (SenderItem.Queued v ∷ old) new e = sent_among i old new e
sent_among i (SenderItem.Sent v id ∷ old) new e = or_then (i == id) (has_sent i old) (has_sent i (old ++ new)) e (sent_among i old new)
sent_among i (SenderItem.Released v id ∷ old) new e = sent_among i old new e
sent_among i (SenderItem.Done v ∷ old) new e = sent_among i old new e

-- the client's side of its newest connection, this packet counted
abbrev pub counted_side : Keeper → ClientConnection → Side
counted_side keeper κ = record { keeper = keeper; connection = record κ { handled = suc κ.handled } }

-- what a PUBREC does, by whether it is of a publication that is sent
abbrev pub releasing_by : Bool → ℕ → Keeper → ClientConnection → Side
releasing_by has i keeper κ =
    if has
    then writing (plain (packets.Pubrel i) ∷ []) (counted_side (record keeper { own = map (own_at_pubrec i) keeper.own; releases = keeper.releases ++ i ∷ [] }) κ)
    else if has_id i keeper.releases then writing (plain (packets.Pubrel i) ∷ []) (counted_side keeper κ) else counted_side keeper κ

-- the transit with the answer that comes in front
pub answer_link : (limits : Limits) (past : Past) (keeper : Keeper) (κ : ClientConnection) (others : List ClientConnection) (m : Backward) (b : List Backward) → keeper.is_online ≡ true → κ.confirmed ≡ true
    → backward_of_own (drop κ.handled (put_to limits past κ.name)) ≡ m ∷ b
    → (as_publisher limits (story_by past (κ ∷ others) keeper)).transit ≡ link_by (is_current (current_connection past keeper.client) κ.name) true (forward_of_own (to_be_taken κ)) (m ∷ b)
answer_link limits past keeper κ others m b on conf come =
    let cur = is_current (current_connection past keeper.client) κ.name in
    let f = forward_of_own (to_be_taken κ) in
    first_link limits past keeper κ others conf
    ∙ ap (λ online. link_by cur online f (backward_of_own (drop κ.handled (put_to limits past κ.name)))) on ∙ ap (λ l. link_by cur true f l) come

pub hears_pubrec : (limits : Limits) (past : Past) (keeper : Keeper) (κ : ClientConnection) (others : List ClientConnection) (i : ℕ) → ConnectionInShape limits past keeper.client κ
    → keeper.is_online ≡ true → κ.confirmed ≡ true → slice_get (put_to limits past κ.name) κ.handled ≡ Some (packets.Pubrec i)
    → IsGood (as_publisher limits (story_by past (κ ∷ others) keeper))
    → GoesTo (as_publisher limits (story_by past (κ ∷ others) keeper))
    (as_publisher limits (with_side (story_by past (κ ∷ others) keeper) others (handled_online (packets.Pubrec i) (counted_side keeper κ))))
hears_pubrec limits past keeper κ others i shape on conf next good =
    let s = story_by past (κ ∷ others) keeper in
    let h = as_publisher limits s in
    let cur = is_current (current_connection past keeper.client) κ.name in
    let f = forward_of_own (to_be_taken κ) in
    let b = backward_of_own (drop (suc κ.handled) (put_to limits past κ.name)) in
    let transit : h.transit ≡ link_by cur true f (Backward.Pubrec i ∷ b) =
    answer_link limits past keeper κ others (Backward.Pubrec i) b on conf (ap backward_of_own (dropped_next κ.handled (put_to limits past κ.name) (packets.Pubrec i) next)) in
    let has : is_sent_with i keeper.own ≡ true =
    sent_then i keeper.own (ap (has_sent i) good.sides.is ∙ sent_among i good.old good.new (due_first h good cur (Backward.Pubrec i) f b transit)) in
    let more = plain (packets.Pubrel i) ∷ [] in
    let later : Keeper = record keeper { own = map (own_at_pubrec i) keeper.own; releases = keeper.releases ++ i ∷ [] } in
    let goes =
    goes_first limits past keeper later κ others (κ.written ++ more) more (suc κ.handled) κ.confirmed κ.accepted (sender_hears (Backward.Pubrec i) h.items) (f ++ reply (Backward.Pubrec i)) b
    shape refl conf refl
    (subst (λ (online : Bool). Reaches h (sender_hears (Backward.Pubrec i) h.items) (link_by cur online (f ++ reply (Backward.Pubrec i)) b)) (sym on) (hears_one h cur (Backward.Pubrec i) f b transit))
    (sym (items_released i keeper.own)) refl refl in
    subst (λ (z : Bool). GoesTo h (as_publisher limits (with_side s others (releasing_by z i keeper κ)))) (sym has) goes

pub hears_pubcomp : (limits : Limits) (past : Past) (keeper : Keeper) (κ : ClientConnection) (others : List ClientConnection) (i : ℕ) → ConnectionInShape limits past keeper.client κ
    → keeper.is_online ≡ true → κ.confirmed ≡ true → slice_get (put_to limits past κ.name) κ.handled ≡ Some (packets.Pubcomp i)
    → GoesTo (as_publisher limits (story_by past (κ ∷ others) keeper))
    (as_publisher limits (with_side (story_by past (κ ∷ others) keeper) others (handled_online (packets.Pubcomp i) (counted_side keeper κ))))
hears_pubcomp limits past keeper κ others i shape on conf next =
    let h = as_publisher limits (story_by past (κ ∷ others) keeper) in
    let cur = is_current (current_connection past keeper.client) κ.name in
    let f = forward_of_own (to_be_taken κ) in
    let b = backward_of_own (drop (suc κ.handled) (put_to limits past κ.name)) in
    let transit : h.transit ≡ link_by cur true f (Backward.Pubcomp i ∷ b) =
    answer_link limits past keeper κ others (Backward.Pubcomp i) b on conf (ap backward_of_own (dropped_next κ.handled (put_to limits past κ.name) (packets.Pubcomp i) next)) in
    let later : Keeper = record keeper { own = map (own_at_pubcomp i) keeper.own; releases = without_id i keeper.releases } in
    goes_first limits past keeper later κ others κ.written [] (suc κ.handled) κ.confirmed κ.accepted (sender_hears (Backward.Pubcomp i) h.items) (f ++ []) b
    shape refl conf (sym (append-nil κ.written))
    (subst (λ (online : Bool). Reaches h (sender_hears (Backward.Pubcomp i) h.items) (link_by cur online (f ++ []) b)) (sym on) (hears_one h cur (Backward.Pubcomp i) f b transit))
    (sym (items_finished i keeper.own)) refl refl
