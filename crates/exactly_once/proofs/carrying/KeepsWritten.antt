-- Each event keeps it so that every PUBLISH that is written is of a publication of the client, and none of these is lost.
use Rattle.std.proofs.Common.{◌≡◌, ℕ, zero, suc, Bool, true, false, if◌then◌else◌, List, [], ◌∷◌, ◌++◌, length, Some, refl, ap, sym, ◌∙◌, subst, append_assoc}
use Rattle.std.specs.Prelude.{slice_get}
use Rattle.std.proofs.lemmas.List.{map-append, length-map, length-append}
use Rattle.packet.specs.declared.packet.Packet.TheVariants as packets
use Rattle.session_base.specs.declared.publication.Publication.{Publication}
use Rattle.session_base.specs.Publication.{is_answered, publication_of, publish_for}
use Rattle.session_base.specs.Identifiers.{least_free}
use Rattle.broker_spec.specs.Place.{Limits}
use Rattle.lists.specs.Lists.{Each, IsPrefixOf}
use Rattle.lists.proofs.Prefixes.{prefix_same}
use Rattle.lists.proofs.OfEach.{each_append, each_then}
use Rattle.lists.proofs.Places.{get_pushed}
use Rattle.client_base.specs.Keeper.{Own, Written, Keeper, ids_in_use, all_own, next_own_number}
use Rattle.client_base.specs.Written.{plain, written_publish, writes_first}
use Rattle.client_base.specs.Called.{adds_own, written_for}
use Rattle.exactly_once.specs.Sides.{ClientConnection}
use Rattle.exactly_once.specs.Carried.{own_publication, own_publications}
use Rattle.exactly_once.specs.Story.{Story, StoryStep}
use Rattle.exactly_once.specs.StoryCommands.{with_one_counted}
use Rattle.exactly_once.specs.Story.StoryStep.{takes, others_take, receives, opens_anew, loses, disconnects, publishes_one, subscribes, unsubscribes}
use Rattle.client_base.specs.OrderTheorems.{AreNumbered}
use Rattle.exactly_once.proofs.carrying.Publications.{IsOfOwn, AreOfOwn, of_more, carried_is}
use Rattle.exactly_once.proofs.carrying.Handles.{handles}

-- ---- what is published

said_more : (keeper : Keeper) (p : Publication) → own_publications (all_own (adds_own p keeper)) ≡ own_publications (all_own keeper) ++ p ∷ []
said_more keeper p =
    ap own_publications (sym (append_assoc keeper.earlier keeper.own (new (is_answered p.qos) keeper.is_online ∷ [])))
    ∙ map-append own_publication (all_own keeper) (new (is_answered p.qos) keeper.is_online ∷ []) ∙ ap (λ q. own_publications (all_own keeper) ++ q ∷ []) (same (is_answered p.qos) keeper.is_online)
  where
    new : Bool → Bool → Own
    new a on =
        if a then (if on then Own.Sent (next_own_number keeper) p (least_free (ids_in_use keeper)) else Own.Queued (next_own_number keeper) p (least_free (ids_in_use keeper)))
        else Own.Done (next_own_number keeper) p

    same : (a on : Bool) → own_publication (new a on) ≡ p
    same true true = refl
    same true false = refl
    same false on = refl

-- the number of each publication that it keeps
abbrev pub IsNumbered : Keeper → Type 0
IsNumbered keeper = AreNumbered (length keeper.earlier) keeper.own

same_said : (ps qs : List Publication) → qs ≡ ps → IsPrefixOf ps qs
same_said ps qs e = subst (λ (rs : List Publication). IsPrefixOf ps rs) (sym e) (prefix_same ps)

-- no event loses what was published
pub events_say : (limits : Limits) (s t : Story) → IsNumbered s.keeper → StoryStep limits s t → IsPrefixOf (own_publications (all_own s.keeper)) (own_publications (all_own t.keeper))
events_say limits s t numbered (takes i κ w stands next) = prefix_same (own_publications (all_own s.keeper))
events_say limits s t numbered (others_take command other none) = prefix_same (own_publications (all_own s.keeper))
events_say limits s t numbered (receives κ others packet are opened next) =
    same_said (own_publications (all_own s.keeper)) (own_publications (all_own t.keeper)) (handles s.keeper κ packet numbered).said
events_say limits s t numbered (opens_anew x fresh none uncounted) = prefix_same (own_publications (all_own s.keeper))
events_say limits s t numbered loses = prefix_same (own_publications (all_own s.keeper))
events_say limits s t numbered disconnects = prefix_same (own_publications (all_own s.keeper))
events_say limits s t numbered (publishes_one p needs) = record { rest = p ∷ []; is = said_more s.keeper p }
events_say limits s t numbered (subscribes p on id) = prefix_same (own_publications (all_own s.keeper))
events_say limits s t numbered (unsubscribes p on id) = prefix_same (own_publications (all_own s.keeper))

-- ---- what is written

-- more is published
more_published : (ps qs : List Publication) (connections : List ClientConnection) → IsPrefixOf ps qs → AreOfOwn ps connections → AreOfOwn qs connections
more_published ps qs connections front all =
    each_then (λ (κ : ClientConnection). Each (IsOfOwn ps) κ.written) (λ (κ : ClientConnection). Each (IsOfOwn qs) κ.written) connections
    (λ κ each. each_then (IsOfOwn ps) (IsOfOwn qs) κ.written (λ w. of_more ps qs front w.packet w.number) each) all

-- more is written
more_written : (ps : List Publication) (more : List Written) (connections : List ClientConnection) → Each (IsOfOwn ps) more → AreOfOwn ps connections → AreOfOwn ps (writes_first more connections)
more_written ps more [] of all = tt
more_written ps more (κ ∷ connections) of all = (each_append (IsOfOwn ps) κ.written more all.0 of, all.1)

-- one more is taken
counted_of : (ps : List Publication) (i : ℕ) (connections : List ClientConnection) → AreOfOwn ps connections → AreOfOwn ps (with_one_counted i connections)
counted_of ps i [] all = tt
counted_of ps zero (κ ∷ connections) all = all
counted_of ps (suc i) (κ ∷ connections) all = (all.0, counted_of ps i connections all.1)

published_of : (keeper : Keeper) (p : Publication) → Each (IsOfOwn (own_publications (all_own (adds_own p keeper)))) (written_for p keeper)
published_of keeper p = by keeper.is_online
  where
    id : ℕ
    id = least_free (ids_in_use keeper)

    there' : slice_get (own_publications (all_own (adds_own p keeper))) (next_own_number keeper) ≡ Some (publication_of (publish_for false (least_free (ids_in_use keeper)) p))
    there' =
        ap (λ ps. slice_get ps (next_own_number keeper)) (said_more keeper p)
        ∙ ap (λ n. slice_get (own_publications (all_own keeper) ++ p ∷ []) n) (sym (length-map (all_own keeper) own_publication ∙ length-append keeper.earlier keeper.own))
        ∙ get_pushed (own_publications (all_own keeper)) p ∙ ap (λ q. Some q) (sym (carried_is false id p))

    by : (b : Bool) → Each (IsOfOwn (own_publications (all_own (adds_own p keeper)))) (if b then written_publish false (next_own_number keeper) (least_free (ids_in_use keeper)) p ∷ [] else [])
    by true = (there', tt)
    by false = tt

pub events_keep_of : (limits : Limits) (s t : Story) → IsNumbered s.keeper → StoryStep limits s t → AreOfOwn (own_publications (all_own s.keeper)) s.connections → AreOfOwn (own_publications (all_own t.keeper)) t.connections
events_keep_of limits s t numbered (takes i κ w stands next) all = counted_of (own_publications (all_own s.keeper)) i s.connections all
events_keep_of limits s t numbered (others_take command other none) all = all
events_keep_of limits s t numbered (receives κ others packet are opened next) all =
    let mine = subst (AreOfOwn (own_publications (all_own s.keeper))) are all in
    let h = handles s.keeper κ packet numbered in
    subst (λ (ps : List Publication). AreOfOwn ps t.connections) (sym h.said) (h.of mine.0, mine.1)
events_keep_of limits s t numbered (opens_anew x fresh none uncounted) all = ((tt, tt), all)
events_keep_of limits s t numbered loses all = all
events_keep_of limits s t numbered disconnects all = by s.keeper.is_online
  where
    by : (b : Bool) → AreOfOwn (own_publications (all_own s.keeper)) (if b then writes_first (plain packets.Disconnect ∷ []) s.connections else s.connections)
    by true = more_written (own_publications (all_own s.keeper)) (plain packets.Disconnect ∷ []) s.connections (tt, tt) all
    by false = all
events_keep_of limits s t numbered (publishes_one p needs) all =
    more_written (own_publications (all_own t.keeper)) (written_for p s.keeper) s.connections (published_of s.keeper p)
    (more_published (own_publications (all_own s.keeper)) (own_publications (all_own t.keeper)) s.connections (events_say limits s t numbered (publishes_one p needs)) all)
events_keep_of limits s t numbered (subscribes p on id) all = more_written (own_publications (all_own s.keeper)) (plain (packets.Subscribe p) ∷ []) s.connections (tt, tt) all
events_keep_of limits s t numbered (unsubscribes p on id) all = more_written (own_publications (all_own s.keeper)) (plain (packets.Unsubscribe p) ∷ []) s.connections (tt, tt) all
