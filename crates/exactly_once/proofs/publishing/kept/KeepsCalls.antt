-- Each event keeps the shape of the client's publications.
use Rattle.std.proofs.Common.{◌≡◌, ℕ, Bool, true, false, if◌then◌else◌, List, [], ◌∷◌, ◌++◌, length, map, Some, refl, ap, sym, ◌∙◌, subst, append_assoc, inl, inr, ◌⊎◌}
use Rattle.std.specs.Prelude.{slice_get}
use Rattle.std.proofs.lemmas.List.{map-append, append-nil}
use Rattle.std.proofs.lemmas.Bool.{both_ways}
use Rattle.packet.specs.declared.packet.Packet.{Packet}
use Rattle.session_base.specs.declared.publication.Publication.{Publication}
use Rattle.session_base.specs.Identifiers.{least_free}
use Rattle.session_base.specs.Publication.{is_answered}
use Rattle.broker_spec.specs.Place.{Limits}
use Rattle.lists.specs.Lists.{has_id, IsDistinct}
use Rattle.broker_spec.proofs.LeastFree.{least-is-free}
use Rattle.exactly_once.specs.Items.{SenderItem, has_released}
use Rattle.exactly_once.specs.HandshakeInvariant.{IsGood}
use Rattle.lists.proofs.Identifiers.{has_split, distinct_insert, distinct_push}
use Rattle.exactly_once.specs.Sends.{put_to}
use Rattle.client_base.specs.Keeper.{Own, Keeper, ids_of_own, ids_in_use, next_own_number}
use Rattle.client_base.specs.declared.request.Request.{Request}
use Rattle.client_base.specs.declared.request.Request.TheVariants as requests
use Rattle.exactly_once.specs.Sides.{ClientConnection}
use Rattle.client_base.specs.State.{id_of_request}
use Rattle.client_base.specs.Handled.{packet_handled}
use Rattle.exactly_once.specs.Story.{Story, StoryStep}
use Rattle.client_base.specs.Called.{adds_own}
use Rattle.exactly_once.specs.Story.StoryStep.{takes, others_take, receives, opens_anew, loses, disconnects, publishes_one, subscribes, unsubscribes}
use Rattle.exactly_once.specs.Carried.{is_qos2}
use Rattle.exactly_once.specs.Inside.Projections.{items_of_own, as_publisher}
use Rattle.exactly_once.specs.Inside.Shape.{HeldInShape, HasShape, IsSoundStory}
use Rattle.exactly_once.specs.Inside.OwnShape.{OwnInShape, AreNumberedFrom, none_queued}
use Rattle.exactly_once.proofs.publishing.kept.MoreOwn.{ids_more, numbered_more, queued_more, released_front}
use Rattle.exactly_once.proofs.publishing.kept.NewItem.{items_more}
use Rattle.exactly_once.proofs.publishing.kept.KeepsOwn.{lost_keeps}
use Rattle.exactly_once.proofs.publishing.kept.KeepsPackets.{receives_keeps}

-- ---- one more publication

-- a publication with the next number, whose identifiers are the free one or none, and that is not released
pub record IsNext (keeper : Keeper) (o : Own) : Type 0 where
  pub ids : (ids_of_own (o ∷ []) ≡ least_free (ids_in_use keeper) ∷ []) ⊎ (ids_of_own (o ∷ []) ≡ [])
  pub numbered : AreNumberedFrom (next_own_number keeper) (o ∷ [])
  pub unreleased : (j : ℕ) → has_released j (items_of_own (o ∷ [])) ≡ false
  pub online_sent : keeper.is_online ≡ true → none_queued (o ∷ []) ≡ true

pub ids_next : (keeper : Keeper) (o : Own) → IsDistinct (ids_in_use keeper) → (ids_of_own (o ∷ []) ≡ least_free (ids_in_use keeper) ∷ []) ⊎ (ids_of_own (o ∷ []) ≡ [])
    → IsDistinct (ids_of_own (keeper.own ++ o ∷ []) ++ map id_of_request keeper.requests)
ids_next keeper o apart (inl e) =
    let own = ids_of_own keeper.own in
    let requests = map id_of_request keeper.requests in
    let id = least_free (ids_in_use keeper) in
    let free = has_split id own requests (least-is-free (ids_in_use keeper)) in
    subst (λ (ids : List ℕ). IsDistinct (ids ++ requests)) (sym (ids_more keeper.own (o ∷ []) ∙ ap (λ l. own ++ l) e))
    (subst IsDistinct (sym (append_assoc own (id ∷ []) requests)) (distinct_insert own id requests apart free.0 free.1))
ids_next keeper o apart (inr e) =
    subst (λ (ids : List ℕ). IsDistinct (ids ++ map id_of_request keeper.requests))
    (sym (ids_more keeper.own (o ∷ []) ∙ ap (λ l. ids_of_own keeper.own ++ l) e ∙ append-nil (ids_of_own keeper.own))) apart

next_keeps : (keeper : Keeper) (o : Own) → OwnInShape keeper → IsNext keeper o → OwnInShape (record keeper { own = keeper.own ++ o ∷ [] })
next_keeps keeper o s next =
    record {
      ids_apart = ids_next keeper o s.ids_apart next.ids;
      numbered = numbered_more (length keeper.earlier) keeper.own (o ∷ []) s.numbered next.numbered;
      releases_apart = s.releases_apart;
      releases_are = λ j. s.releases_are j ∙ sym (ap (has_released j) (items_more keeper.own (o ∷ [])) ∙ released_front j (items_of_own keeper.own) (items_of_own (o ∷ [])) (next.unreleased j));
      online_sent = λ on. queued_more keeper.own (o ∷ []) (s.online_sent on) (next.online_sent on);
    }

-- an item that is not released, if it is one
no_release : (b : Bool) (j : ℕ) (item : SenderItem ℕ) → has_released j (item ∷ []) ≡ false → has_released j (if b then item ∷ [] else []) ≡ false
no_release true j item e = e
no_release false j item e = refl

publishes_keeps : (keeper : Keeper) (p : Publication) → OwnInShape keeper → OwnInShape (adds_own p keeper)
publishes_keeps keeper p s = by keeper.is_online refl (is_answered p.qos)
  where
    id : ℕ
    id = least_free (ids_in_use keeper)

    n : ℕ
    n = next_own_number keeper

    same : n ≡ n
    same = refl

    by : (on : Bool) → keeper.is_online ≡ on → (a : Bool)
        → OwnInShape (record keeper { own = keeper.own ++ (if a then (if on then Own.Sent n p id else Own.Queued n p id) else Own.Done n p) ∷ [] })
    by true e true =
        next_keeps keeper (Own.Sent n p id) s
        (record { ids = inl refl; numbered = (same, tt); unreleased = λ j. no_release (is_qos2 p.qos) j (SenderItem.Sent n id) refl; online_sent = λ on. refl })
    by false e true =
        next_keeps keeper (Own.Queued n p id) s
        (record { ids = inl refl; numbered = (same, tt); unreleased = λ j. no_release (is_qos2 p.qos) j (SenderItem.Queued n) refl; online_sent = λ on. absurd (both_ways keeper.is_online e on) })
    by on e false =
        next_keeps keeper (Own.Done n p) s
        (record { ids = inr refl; numbered = (same, tt); unreleased = λ j. no_release (is_qos2 p.qos) j (SenderItem.Done n) refl; online_sent = λ on. refl })

-- ---- one more request

asks_keeps : (keeper : Keeper) (r : Request) → id_of_request r ≡ least_free (ids_in_use keeper) → OwnInShape keeper → OwnInShape (record keeper { requests = keeper.requests ++ r ∷ [] })
asks_keeps keeper r e s =
    let own = ids_of_own keeper.own in
    let requests = map id_of_request keeper.requests in
    let free : has_id (id_of_request r) (ids_in_use keeper) ≡ false =
    ap (λ id. has_id id (ids_in_use keeper)) e ∙ least-is-free (ids_in_use keeper) in
    record {
      ids_apart = subst IsDistinct (append_assoc own requests (id_of_request r ∷ []) ∙ ap (λ l. own ++ l) (sym (map-append id_of_request keeper.requests (r ∷ []))))
          ((distinct_push (ids_in_use keeper) (id_of_request r) (s.ids_apart) free));
      numbered = s.numbered;
      releases_apart = s.releases_apart;
      releases_are = s.releases_are;
      online_sent = s.online_sent;
    }

-- ---- the events

receives_there : (limits : Limits) (s : Story) (connections others : List ClientConnection) (κ : ClientConnection) (packet : Packet) → connections ≡ κ ∷ others → HasShape limits (record s { connections = connections })
    → IsGood (as_publisher limits (record s { connections = connections })) → s.keeper.is_open ≡ true → slice_get (put_to limits s.past κ.name) κ.handled ≡ Some packet
    → OwnInShape (packet_handled packet (record { keeper = s.keeper; connection = κ })).keeper
receives_there limits s connections others κ packet are shape good opened next =
    receives_keeps limits s.past s.keeper κ others packet shape.own (subst (λ (cs : List ClientConnection). HeldInShape limits s.past s.keeper cs) are shape.held) opened next
    (subst (λ (cs : List ClientConnection). IsGood (as_publisher limits (record s { connections = cs }))) are good)

pub events_keep_own : (limits : Limits) (s t : Story) → IsSoundStory limits s → StoryStep limits s t → OwnInShape t.keeper
events_keep_own limits s t sound (takes i κ w stands next) = sound.shape.own
events_keep_own limits s t sound (others_take command other none) = sound.shape.own
events_keep_own limits s t sound (receives κ others packet are opened next) = receives_there limits s s.connections others κ packet are sound.shape sound.publisher opened next
events_keep_own limits s t sound (opens_anew x fresh none uncounted) = lost_keeps s.keeper true sound.shape.own
events_keep_own limits s t sound loses = lost_keeps s.keeper false sound.shape.own
events_keep_own limits s t sound disconnects = lost_keeps s.keeper false sound.shape.own
events_keep_own limits s t sound (publishes_one p needs) = publishes_keeps s.keeper p sound.shape.own
events_keep_own limits s t sound (subscribes p on id) = asks_keeps s.keeper (requests.Subscribes p.id) id sound.shape.own
events_keep_own limits s t sound (unsubscribes p on id) = asks_keeps s.keeper (requests.Unsubscribes p.id) id sound.shape.own
