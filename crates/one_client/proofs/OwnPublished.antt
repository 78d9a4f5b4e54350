-- What a client published, over all its sessions, is what it was asked for.
use Rattle.std.proofs.Common.{◌≡◌, Bool, true, false, if◌then◌else◌, ℕ, List, [], ◌∷◌, ◌++◌, refl, sym, ap, ◌∙◌}
use Rattle.std.proofs.lemmas.Bool.{both_ways}
use Rattle.std.proofs.lemmas.List.{append_assoc, append-nil, map-append}
use Rattle.session_base.specs.Identifiers.{least_free}
use Rattle.session_base.specs.Publication.{is_answered}
use Rattle.session_base.specs.declared.publication.Publication.{Publication}
use Rattle.ballot_base.specs.declared.config.Config.{Config}
use Rattle.broker_spec.specs.Commands.{usual_limits}
use Rattle.broker_spec.specs.Place.{Client}
use Rattle.client_base.specs.Called.{adds_own}
use Rattle.client_base.specs.Keeper.{Keeper, Own, all_own, ids_in_use, next_own_number}
use Rattle.client_base.proofs.NumbersStay.{AreAllNumbered, handled_numbers, publishes_numbers}
use Rattle.exactly_once.specs.Carried.{own_publication, own_publications}
use Rattle.exactly_once.specs.Sides.{Side}
use Rattle.exactly_once.specs.Story.{Story, StoryStep}
use Rattle.exactly_once.specs.Story.StoryStep.{takes, others_take, receives, opens_anew, loses, disconnects, publishes_one, subscribes, unsubscribes}
use Rattle.exactly_once.proofs.carrying.Handles.{handles as handles_kept}
use Rattle.headline.specs.packet_world.Steps.{is_call}
use Rattle.headline.specs.byte_world.Published.{published_by_call}
use Rattle.headline.specs.byte_world.World.{ClientPipes}
use Rattle.headline.specs.node_group.Group.{Group}
use Rattle.headline.specs.node_group.Steps.{GroupTrace}
use Rattle.one_client.specs.Along.{Along, published_along}
use Rattle.one_client.specs.Along.Along.{opens, goes, calls, connects, reads, handles}

-- ---- a call

said_more : (keeper : Keeper) (p : Publication) → own_publications (all_own (adds_own p keeper)) ≡ own_publications (all_own keeper) ++ p ∷ []
said_more keeper p =
    ap own_publications (sym (append_assoc keeper.earlier keeper.own (new (is_answered p.qos) keeper.is_online ∷ [])))
    ∙ map-append own_publication (all_own keeper) (new (is_answered p.qos) keeper.is_online ∷ [])
    ∙ ap (λ q. own_publications (all_own keeper) ++ q ∷ []) (same (is_answered p.qos) keeper.is_online)
  where
    new : Bool → Bool → Own
    new a on =
        if a then (if on then Own.Sent (next_own_number keeper) p (least_free (ids_in_use keeper)) else Own.Queued (next_own_number keeper) p (least_free (ids_in_use keeper)))
        else Own.Done (next_own_number keeper) p

    same : (a on : Bool) → own_publication (new a on) ≡ p
    same true true = refl
    same true false = refl
    same false on = refl

call_says : {s t : Story} (h : StoryStep usual_limits s t) → is_call h ≡ true → own_publications (all_own t.keeper) ≡ own_publications (all_own s.keeper) ++ published_by_call h
call_says (takes i κ w stands next) call = absurd (both_ways false refl call)
call_says (others_take command other none) call = absurd (both_ways false refl call)
call_says (receives κ others packet are opened next) call = absurd (both_ways false refl call)
call_says (opens_anew x fresh none uncounted) call = absurd (both_ways false refl call)
call_says {s = s} loses call = sym (append-nil (own_publications (all_own s.keeper)))
call_says {s = s} disconnects call = sym (append-nil (own_publications (all_own s.keeper)))
call_says {s = s} (publishes_one p needs) call = said_more s.keeper p
call_says {s = s} (subscribes p on id) call = sym (append-nil (own_publications (all_own s.keeper)))
call_says {s = s} (unsubscribes p on id) call = sym (append-nil (own_publications (all_own s.keeper)))

call_numbers : {s t : Story} (h : StoryStep usual_limits s t) → is_call h ≡ true → AreAllNumbered s.keeper → AreAllNumbered t.keeper
call_numbers (takes i κ w stands next) call all = absurd (both_ways false refl call)
call_numbers (others_take command other none) call all = absurd (both_ways false refl call)
call_numbers (receives κ others packet are opened next) call all = absurd (both_ways false refl call)
call_numbers (opens_anew x fresh none uncounted) call all = absurd (both_ways false refl call)
call_numbers loses call all = all
call_numbers disconnects call all = all
call_numbers {s = s} (publishes_one p needs) call all = publishes_numbers p s.keeper all
call_numbers (subscribes p on id) call all = all
call_numbers (unsubscribes p on id) call all = all

-- ---- all that happens

record HasSaid (keeper : Keeper) (published : List Publication) : Type 0 where
  numbers : AreAllNumbered keeper
  said : own_publications (all_own keeper) ≡ published

said_along : {nodes : ℕ} {config : Config} (client : Client) (g : Group) (went : GroupTrace nodes config g) (one : ClientPipes) (along : Along nodes config client g went one)
    → HasSaid one.keeper (published_along along)
said_along client g went one (opens greatest can) = record { numbers = (tt, tt); said = refl }
said_along client h next later (goes {group = g} {went = went} {one = one} along step faithful brings written) =
    let s = said_along client g went one along in record { numbers = s.numbers; said = s.said }
said_along client g went later (calls {one = one} along after step call whole) =
    let s = said_along client g went one along in
    record { numbers = call_numbers step call s.numbers; said = call_says step call ∙ ap (λ l. l ++ published_by_call step) s.said }
said_along client g went later (connects {one = one} along x n port fresh nothing whole) =
    let s = said_along client g went one along in record { numbers = s.numbers; said = s.said }
said_along client g went later (reads {one = one} along nth p piece rest at cut) =
    let s = said_along client g went one along in record { numbers = s.numbers; said = s.said }
said_along client g went later (handles {one = one} along κ others p pipes packet left are piped is_open cut whole) =
    let s = said_along client g went one along in
    record {
      numbers = handled_numbers packet (let side : Side = record { keeper = one.keeper; connection = κ } in side) s.numbers;
      said = (handles_kept one.keeper κ packet s.numbers.1).said ∙ s.said;
    }

pub own_published : {nodes : ℕ} {config : Config} (client : Client) (g : Group) (went : GroupTrace nodes config g) (one : ClientPipes) (along : Along nodes config client g went one)
    → own_publications (all_own one.keeper) ≡ published_along along
own_published client g went one along = (said_along client g went one along).said
