-- A publication of the client is one more item of the handshake, and starts at once while it is online.
use Rattle.std.proofs.Common.{◌≡◌, ℕ, Bool, true, false, if◌then◌else◌, List, [], ◌∷◌, ◌++◌, refl, ap, sym, ◌∙◌, subst, inl, inr, ◌⊎◌}
use Rattle.std.proofs.lemmas.List.{append-nil}
use Rattle.std.proofs.lemmas.Bool.{cases_Bool, both_ways}
use Rattle.packet_base.specs.declared.qos.QoS.{QoS}
use Rattle.packet_base.specs.declared.qos.QoS.TheVariants as qos_levels
use Rattle.session_base.specs.declared.publication.Publication.{Publication}
use Rattle.session_base.specs.Publication.{is_answered}
use Rattle.session_base.specs.Identifiers.{least_free}
use Rattle.broker_spec.specs.Place.{Past, Limits}
use Rattle.broker_spec.specs.Sessions.{current_connection}
use Rattle.lists.specs.Lists.{Each}
use Rattle.exactly_once.specs.Items.{SenderItem}
use Rattle.exactly_once.specs.Handshake.{Forward, Backward, Handshake}
use Rattle.exactly_once.specs.HandshakeSteps.HandshakeStep.{adds}
use Rattle.client_base.specs.Keeper.{Own, Keeper, ids_in_use, next_own_number}
use Rattle.exactly_once.specs.Sides.{ClientConnection}
use Rattle.client_base.specs.Written.{written_publish}
use Rattle.client_base.specs.Written.{writes_first}
use Rattle.client_base.specs.Called.{adds_own, written_for}
use Rattle.exactly_once.specs.Carried.{is_qos2}
use Rattle.exactly_once.specs.Inside.Projections.{items_of_own, forward_of_own, backward_of_own, to_come, to_be_taken, is_current, as_publisher, GoesTo}
use Rattle.exactly_once.specs.Inside.Shape.{HeldInShape}
use Rattle.exactly_once.specs.Inside.OwnShape.{OwnInShape, none_queued}
use Rattle.exactly_once.specs.Inside.ConnectionShape.{ConnectionInShape}
use Rattle.exactly_once.proofs.publishing.Links.{link_by, Reaches, reaches_itself, reaches_by, reaches_then, goes_of}
use Rattle.exactly_once.proofs.publishing.Publishes.{forward_publishes}
use Rattle.exactly_once.proofs.publishing.Starting.{starts_one}
use Rattle.exactly_once.proofs.publishing.kept.NewItem.{items_more, none_waits, new_is_free}
use Rattle.exactly_once.proofs.publishing.First.{story_by, first_link, goes_first}
use Rattle.exactly_once.proofs.publishing.Calls.{holds_of}

-- one of QoS 2 is answered
two_answered : (q : QoS) → is_answered q ≡ false → is_qos2 q ≡ false
two_answered qos_levels.AtMostOnce e = refl
two_answered qos_levels.AtLeastOnce e = refl
two_answered qos_levels.ExactlyOnce e = e

-- what the new publication is as an item, if it is sent and if it is not
sent_item : (a : Bool) (n id : ℕ) (p : Publication) → (a ≡ false → is_qos2 p.qos ≡ false)
    → items_of_own ((if a then Own.Sent n p id else Own.Done n p) ∷ []) ≡ (if is_qos2 p.qos then SenderItem.Sent n id ∷ [] else [])
sent_item true n id p none = refl
sent_item false n id p none = rw (none refl) refl

-- what the handshake does
runs_online : (h : Handshake ℕ) (cur two : Bool) (f : List (Forward ℕ)) (b : List Backward) (keeper : Keeper) (n : ℕ) → h.items ≡ items_of_own keeper.own → none_queued keeper.own ≡ true
    → h.transit ≡ link_by cur true f b
    → Reaches h (h.items ++ (if two then SenderItem.Sent n (least_free (ids_in_use keeper)) ∷ [] else []))
    (link_by cur true (f ++ (if two then Forward.Publish (least_free (ids_in_use keeper)) n ∷ [] else [])) b)
runs_online h cur false f b keeper n e queued l =
    subst (λ (items : List (SenderItem ℕ)). Reaches h items (link_by cur true (f ++ []) b)) (sym (append-nil h.items))
    (reaches_itself h (link_by cur true (f ++ []) b) (l ∙ ap (λ g. link_by cur true g b) (sym (append-nil f))))
runs_online h cur true f b keeper n e queued l =
    let id = least_free (ids_in_use keeper) in
    let own = items_of_own keeper.own in
    let goal = link_by cur true (f ++ Forward.Publish id n ∷ []) b in
    reaches_then h (h.items ++ SenderItem.Queued n ∷ []) (h.items ++ SenderItem.Sent n id ∷ []) (link_by cur true f b) goal
    (reaches_by h (h.items ++ SenderItem.Queued n ∷ []) h.transit (link_by cur true f b) (adds n) l)
    (λ k i m.
    subst (λ (items : List (SenderItem ℕ)). Reaches k items goal) (append-nil (own ++ SenderItem.Sent n id ∷ []) ∙ ap (λ items. items ++ SenderItem.Sent n id ∷ []) (sym e))
    (starts_one k own [] n id cur f b (i ∙ ap (λ items. items ++ SenderItem.Queued n ∷ []) e) (none_waits keeper.own queued) (new_is_free keeper) refl m))

runs_offline : (h : Handshake ℕ) (two : Bool) (n : ℕ) → Reaches h (h.items ++ (if two then SenderItem.Queued n ∷ [] else [])) h.transit
runs_offline h true n = reaches_by h (h.items ++ SenderItem.Queued n ∷ []) h.transit h.transit (adds n) refl
runs_offline h false n = subst (λ (items : List (SenderItem ℕ)). Reaches h items h.transit) (sym (append-nil h.items)) (reaches_itself h h.transit refl)

-- nothing is written
writes_none : (connections : List ClientConnection) → writes_first [] connections ≡ connections
writes_none [] = refl
writes_none (κ ∷ others) = λ i. record κ { written = append-nil κ.written i } ∷ others

-- what is written of it
forward_one : (n id : ℕ) (p : Publication) → forward_of_own (written_publish false n id p ∷ []) ≡ (if is_qos2 p.qos then Forward.Publish id n ∷ [] else [])
forward_one n id p = forward_publishes false n id p []

-- ---- the event

-- the keeper with this publication after the others
abbrev pub with_own : Own → Keeper → Keeper
with_own o keeper = record keeper { own = keeper.own ++ o ∷ [] }

online_one : (limits : Limits) (past : Past) (keeper : Keeper) (connections : List ClientConnection) (p : Publication) (o : Own) → OwnInShape keeper
    → Each (ConnectionInShape limits past keeper.client) connections → HeldInShape limits past keeper connections → keeper.is_online ≡ true
    → items_of_own (o ∷ []) ≡ (if is_qos2 p.qos then SenderItem.Sent (next_own_number keeper) (least_free (ids_in_use keeper)) ∷ [] else [])
    → GoesTo (as_publisher limits (story_by past connections keeper))
    (as_publisher limits (story_by past (writes_first (written_publish false (next_own_number keeper) (least_free (ids_in_use keeper)) p ∷ []) connections) (with_own o keeper)))
online_one limits past keeper [] p o own each held on item =
    let h = as_publisher limits (story_by past [] keeper) in
    let id = least_free (ids_in_use keeper) in
    let n = next_own_number keeper in
    goes_of h (as_publisher limits (story_by past [] (with_own o keeper))) (h.items ++ (if is_qos2 p.qos then SenderItem.Sent n id ∷ [] else [])) h.transit
    (runs_online h false (is_qos2 p.qos) [] [] keeper n refl (own.online_sent on) refl)
    (ap (λ l. items_of_own keeper.own ++ l) (sym item) ∙ sym (items_more keeper.own (o ∷ []))) refl (λ j. refl) refl
online_one limits past keeper (κ ∷ others) p o own each held on item =
    let h = as_publisher limits (story_by past (κ ∷ others) keeper) in
    let id = least_free (ids_in_use keeper) in
    let n = next_own_number keeper in
    let ws = written_publish false n id p ∷ [] in
    let holds = holds_of limits past keeper κ others each held in
    let cur = is_current (current_connection past keeper.client) κ.name in
    let f = forward_of_own (to_be_taken κ) in
    let b = backward_of_own (to_come limits past κ) in
    let more = if is_qos2 p.qos then Forward.Publish id n ∷ [] else [] in
    let items = h.items ++ (if is_qos2 p.qos then SenderItem.Sent n id ∷ [] else []) in
    goes_first limits past keeper (with_own o keeper) κ others (κ.written ++ ws) ws κ.handled κ.confirmed κ.accepted items (f ++ more) b holds.shape refl (holds.confirmed on) refl
    (subst (λ (online : Bool). Reaches h items (link_by cur online (f ++ more) b)) (sym on)
    (runs_online h cur (is_qos2 p.qos) f b keeper n refl (own.online_sent on) (first_link limits past keeper κ others (holds.confirmed on) ∙ ap (λ online. link_by cur online f b) on)))
    (ap (λ l. items_of_own keeper.own ++ l) (sym item) ∙ sym (items_more keeper.own (o ∷ []))) (ap (λ l. f ++ l) (sym (forward_one n id p))) refl

offline_one : (limits : Limits) (past : Past) (keeper : Keeper) (connections : List ClientConnection) (p : Publication) (o : Own)
    → items_of_own (o ∷ []) ≡ (if is_qos2 p.qos then SenderItem.Queued (next_own_number keeper) ∷ [] else [])
    → GoesTo (as_publisher limits (story_by past connections keeper)) (as_publisher limits (story_by past (writes_first [] connections) (with_own o keeper)))
offline_one limits past keeper connections p o item =
    let h = as_publisher limits (story_by past connections keeper) in
    let n = next_own_number keeper in
    subst (λ (later : List ClientConnection). GoesTo h (as_publisher limits (story_by past later (with_own o keeper)))) (sym (writes_none connections))
    (goes_of h (as_publisher limits (story_by past connections (with_own o keeper))) (h.items ++ (if is_qos2 p.qos then SenderItem.Queued n ∷ [] else [])) h.transit (runs_offline h (is_qos2 p.qos) n)
    (ap (λ l. items_of_own keeper.own ++ l) (sym item) ∙ sym (items_more keeper.own (o ∷ []))) refl (λ j. refl) refl)

pub publishes_it : (limits : Limits) (past : Past) (keeper : Keeper) (connections : List ClientConnection) (p : Publication) → OwnInShape keeper
    → Each (ConnectionInShape limits past keeper.client) connections → HeldInShape limits past keeper connections → (is_answered p.qos ≡ false → keeper.is_online ≡ true)
    → GoesTo (as_publisher limits (story_by past connections keeper)) (as_publisher limits (story_by past (writes_first (written_for p keeper) connections) (adds_own p keeper)))
publishes_it limits past keeper connections p own each held needs = by (cases_Bool keeper.is_online) (cases_Bool (is_answered p.qos))
  where
    id : ℕ
    id = least_free (ids_in_use keeper)

    n : ℕ
    n = next_own_number keeper

    h : Handshake ℕ
    h = as_publisher limits (story_by past connections keeper)

    after : Bool → Bool → Handshake ℕ
    after on answered =
        as_publisher limits (story_by past (writes_first (if on then written_publish false n id p ∷ [] else []) connections)
        (with_own (if answered then (if on then Own.Sent n p id else Own.Queued n p id) else Own.Done n p) keeper))

    by : (keeper.is_online ≡ true) ⊎ (keeper.is_online ≡ false) → (is_answered p.qos ≡ true) ⊎ (is_answered p.qos ≡ false) → GoesTo h (after keeper.is_online (is_answered p.qos))
    by (inl on) a =
        subst (λ (b : Bool). GoesTo h (after b (is_answered p.qos))) (sym on)
        (online_one limits past keeper connections p (if is_answered p.qos then Own.Sent n p id else Own.Done n p) own each held on (sent_item (is_answered p.qos) n id p (two_answered p.qos)))
    by (inr off) (inl a) =
        subst (λ (b : Bool). GoesTo h (after b (is_answered p.qos))) (sym off)
        (subst (λ (b : Bool). GoesTo h (after false b)) (sym a) (offline_one limits past keeper connections p (Own.Queued n p id) refl))
    by (inr off) (inr a) = absurd (both_ways keeper.is_online off (needs a))
