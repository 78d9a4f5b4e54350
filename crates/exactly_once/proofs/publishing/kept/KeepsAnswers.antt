-- PUBACK, PUBREC and PUBCOMP keep the shape of a client's publications.
use Rattle.std.proofs.Common.{◌≡◌, ℕ, Bool, true, false, not, ◌&&◌, ◌||◌, ◌==◌, if◌then◌else◌, List, [], ◌∷◌, ◌++◌, map, refl, ap, sym, ◌∙◌, inl, length}
use Rattle.std.proofs.lemmas.Bool.{both_ways}
use Rattle.session_base.specs.Publication.{is_qos1}
use Rattle.lists.specs.Lists.{IsDistinct}
use Rattle.exactly_once.specs.Items.{busy, has_sent, has_released}
use Rattle.lists.proofs.Identifiers.{has_append, distinct_front, distinct_push}
use Rattle.exactly_once.proofs.BusyIdentifiers.{sent_not_released}
use Rattle.client_base.specs.Keeper.{Own, Keeper, ids_of_own, ids_in_use}
use Rattle.client_base.specs.State.{id_of_request}
use Rattle.client_base.specs.Handshakes.{own_at_puback, own_at_pubrec, own_at_pubcomp}
use Rattle.session_base.specs.Identifiers.{without_id}
use Rattle.exactly_once.specs.Inside.Projections.{items_of_own}
use Rattle.exactly_once.specs.Inside.OwnShape.{OwnInShape, none_queued}
use Rattle.exactly_once.proofs.publishing.Own.{items_acknowledged, items_released, items_finished}
use Rattle.exactly_once.proofs.publishing.kept.Fewer.{fewer_itself, fewer_both, fewer_distinct, fewer_puback, fewer_pubrec, fewer_pubcomp, fewer_filtered, IsFewer}
use Rattle.exactly_once.proofs.publishing.Releases.{released_finished, released_more}
use Rattle.exactly_once.proofs.publishing.kept.Numbered.{numbered_puback, numbered_pubcomp, numbered_pubrec}
use Rattle.session_base.proofs.KeptIdentifiers.{has_without}

-- an answer makes none unsent
queued_by : (g : Own → Own) (own : List Own) → ((o : Own) → none_queued (o ∷ []) ≡ true → none_queued (g o ∷ []) ≡ true) → none_queued own ≡ true → none_queued (map g own) ≡ true
queued_by g [] h e = refl
queued_by g (o ∷ own) h e = joined (g o) (map g own) (h o (front o own e)) (queued_by g own h (behind o own e))
  where
    front : (o : Own) (own : List Own) → none_queued (o ∷ own) ≡ true → none_queued (o ∷ []) ≡ true
    front (Own.Queued k p id) own e = absurd (both_ways false refl e)
    front (Own.Sent k p id) own e = refl
    front (Own.Released k p id) own e = refl
    front (Own.Done k p) own e = refl

    behind : (o : Own) (own : List Own) → none_queued (o ∷ own) ≡ true → none_queued own ≡ true
    behind (Own.Queued k p id) own e = absurd (both_ways false refl e)
    behind (Own.Sent k p id) own e = e
    behind (Own.Released k p id) own e = e
    behind (Own.Done k p) own e = e

    joined : (o : Own) (own : List Own) → none_queued (o ∷ []) ≡ true → none_queued own ≡ true → none_queued (o ∷ own) ≡ true
    joined (Own.Queued k p id) own e f = absurd (both_ways false refl e)
    joined (Own.Sent k p id) own e f = f
    joined (Own.Released k p id) own e f = f
    joined (Own.Done k p) own e f = f

-- of two that are not unsent
either_sent : (b : Bool) (x y : Own) → none_queued (x ∷ []) ≡ true → none_queued (y ∷ []) ≡ true → none_queued ((if b then x else y) ∷ []) ≡ true
either_sent true x y e f = e
either_sent false x y e f = f

puback_sent : (i : ℕ) (o : Own) → none_queued (o ∷ []) ≡ true → none_queued (own_at_puback i o ∷ []) ≡ true
puback_sent i (Own.Sent k p id) e = either_sent ((i == id) && is_qos1 p.qos) (Own.Done k p) (Own.Sent k p id) refl refl
puback_sent i (Own.Queued k p id) e = e
puback_sent i (Own.Released k p id) e = e
puback_sent i (Own.Done k p) e = e

pubrec_sends : (i : ℕ) (o : Own) → none_queued (o ∷ []) ≡ true → none_queued (own_at_pubrec i o ∷ []) ≡ true
pubrec_sends i (Own.Sent k p id) e = either_sent ((i == id) && not (is_qos1 p.qos)) (Own.Released k p id) (Own.Sent k p id) refl refl
pubrec_sends i (Own.Queued k p id) e = e
pubrec_sends i (Own.Released k p id) e = e
pubrec_sends i (Own.Done k p) e = e

pubcomp_sent : (i : ℕ) (o : Own) → none_queued (o ∷ []) ≡ true → none_queued (own_at_pubcomp i o ∷ []) ≡ true
pubcomp_sent i (Own.Released k p id) e = either_sent (i == id) (Own.Done k p) (Own.Released k p id) refl refl
pubcomp_sent i (Own.Queued k p id) e = e
pubcomp_sent i (Own.Sent k p id) e = e
pubcomp_sent i (Own.Done k p) e = e

-- fewer publications' identifiers
fewer_own : (keeper : Keeper) (own : List Own) → IsFewer (ids_of_own own) (ids_of_own keeper.own) → OwnInShape keeper → IsDistinct (ids_of_own own ++ map id_of_request keeper.requests)
fewer_own keeper own f s =
    fewer_distinct (ids_of_own own ++ map id_of_request keeper.requests) (ids_in_use keeper)
    (fewer_both (ids_of_own own) (ids_of_own keeper.own) (map id_of_request keeper.requests) (map id_of_request keeper.requests) f (fewer_itself (map id_of_request keeper.requests))) s.ids_apart

pub puback_keeps : (keeper : Keeper) (i : ℕ) → OwnInShape keeper → OwnInShape (record keeper { own = map (own_at_puback i) keeper.own })
puback_keeps keeper i s =
    record {
      ids_apart = fewer_own keeper (map (own_at_puback i) keeper.own) (fewer_puback i keeper.own) s;
      numbered = numbered_puback i (length keeper.earlier) keeper.own s.numbered;
      releases_apart = s.releases_apart;
      releases_are = λ j. s.releases_are j ∙ ap (has_released j) (sym (items_acknowledged i keeper.own));
      online_sent = λ on. queued_by (own_at_puback i) keeper.own (puback_sent i) (s.online_sent on);
    }

pub pubcomp_keeps : (keeper : Keeper) (i : ℕ) → OwnInShape keeper → OwnInShape (record keeper { own = map (own_at_pubcomp i) keeper.own; releases = without_id i keeper.releases })
pubcomp_keeps keeper i s =
    record {
      ids_apart = fewer_own keeper (map (own_at_pubcomp i) keeper.own) (fewer_pubcomp i keeper.own) s;
      numbered = numbered_pubcomp i (length keeper.earlier) keeper.own s.numbered;
      releases_apart = fewer_distinct (without_id i keeper.releases) keeper.releases (fewer_filtered (λ other. not (i == other)) keeper.releases) s.releases_apart;
      releases_are = λ j. has_without j i keeper.releases ∙ ap (λ b. not (j == i) && b) (s.releases_are j) ∙ sym (released_finished j i (items_of_own keeper.own))
          ∙ ap (has_released j) (sym (items_finished i keeper.own));
      online_sent = λ on. queued_by (own_at_pubcomp i) keeper.own (pubcomp_sent i) (s.online_sent on);
    }

pub pubrec_keeps : (keeper : Keeper) (i : ℕ) → OwnInShape keeper → has_sent i (items_of_own keeper.own) ≡ true → IsDistinct (busy (items_of_own keeper.own))
    → OwnInShape (record keeper { own = map (own_at_pubrec i) keeper.own; releases = keeper.releases ++ i ∷ [] })
pubrec_keeps keeper i s has apart =
    let items = items_of_own keeper.own in
    let ids = distinct_front (ids_of_own keeper.own) (map id_of_request keeper.requests) (s.ids_apart) in
    record {
      ids_apart = fewer_own keeper (map (own_at_pubrec i) keeper.own) (fewer_pubrec i keeper.own) s;
      numbered = numbered_pubrec i (length keeper.earlier) keeper.own s.numbered ids (inl has);
      releases_apart = (distinct_push keeper.releases i (s.releases_apart) (s.releases_are i ∙ sent_not_released i items apart has));
      releases_are = λ j. has_append j keeper.releases (i ∷ [])
          ∙ ap (λ b. b || ((j == i) || false)) (s.releases_are j) ∙ released_more j i items has ∙ ap (has_released j) (sym (items_released i keeper.own));
      online_sent = λ on. queued_by (own_at_pubrec i) keeper.own (pubrec_sends i) (s.online_sent on);
    }
