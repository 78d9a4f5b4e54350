-- While the first session of a client lasts, it still keeps those of its QoS 2 publications that are not new yet.
use Rattle.std.proofs.Common.{◌≡◌, ℕ, List, ◌++◌, length, map, Option, Some, sym, ap, ◌∙◌, subst}
use Rattle.std.specs.Prelude.{slice_get}
use Rattle.std.proofs.lemmas.List.{map-append}
use Rattle.session_base.specs.declared.publication.Publication.{Publication}
use Rattle.broker_spec.specs.Commands.{usual_limits}
use Rattle.broker_spec.proofs.PacketOfNobody.{window_is_steady}
use Rattle.client_base.specs.History as history
use Rattle.client_base.specs.Keeper.{Own, all_own}
use Rattle.client_base.specs.State.{ClientState}
use Rattle.exactly_once.specs.Items.{SenderItem, value_of}
use Rattle.exactly_once.specs.HandshakeInvariant.{IsGood}
use Rattle.exactly_once.specs.Carried.{new_numbers, own_publications}
use Rattle.exactly_once.specs.Inside.Projections.{as_publisher}
use Rattle.exactly_once.specs.Inside.Shape.{IsSoundStory}
use Rattle.exactly_once.specs.Inside.OwnShape.{AreNumberedFrom}
use Rattle.exactly_once.specs.InStep.{IsFirstSession, IsInStep}
use Rattle.exactly_once.specs.Lives.{Lived}
use Rattle.exactly_once.specs.Story.{Story}
use Rattle.exactly_once.proofs.Ends.{split_map}
use Rattle.exactly_once.proofs.keeping.StoryTrace.{told_stories_are_sound}
use Rattle.exactly_once.proofs.sessions.Beside.{beside}
use Rattle.exactly_once.proofs.sessions.LivesExact.{HasOneStory, first_has_story}
use Rattle.headline.specs.Shown.{AreUnacknowledged, at_qos2, unacknowledged_of}
use Rattle.headline.proofs.NewNumbered.{same_some}
use Rattle.headline.proofs.StillKept.{kept_both, kept_values, new_kept, some_of, two_kept, two_published}

module _ (s : Story) (state : ClientState) (lived : Lived usual_limits s.keeper.client s) (step : IsInStep s) (first : IsFirstSession s.past s.keeper.client) where
  abbrev qs : List Publication
  qs = own_publications s.keeper.own

  -- the story of the session
  one : HasOneStory usual_limits s.keeper.client s
  one = first_has_story usual_limits window_is_steady.0 s.keeper.client s lived step first

  sound : IsSoundStory usual_limits (beside one.flags s)
  sound = told_stories_are_sound usual_limits window_is_steady.0 s.keeper.client (beside one.flags s) one.told

  numbered : AreNumberedFrom 0 s.keeper.own
  numbered = subst (λ (earlier : List Own). AreNumberedFrom (length earlier) s.keeper.own) one.alone sound.shape.own.numbered

  all_said : own_publications (all_own s.keeper) ≡ qs
  all_said = ap (λ (earlier : List Own). own_publications (earlier ++ s.keeper.own)) one.alone

  -- the two sides of its handshake
  good : IsGood (as_publisher usual_limits (beside one.flags s))
  good = sound.publisher

  abbrev rest : List (Option Publication)
  rest = map (slice_get qs) (map value_of good.new)

  new_old : (new : List Publication) → map (slice_get (own_publications (all_own s.keeper))) (new_numbers s.connections s.past) ≡ some_of new
      → map (slice_get qs) (map value_of good.old) ≡ some_of new
  new_old new are =
      ap (map (slice_get qs)) (sym good.sides.accepted_is ∙ sym one.same)
      ∙ ap (λ (ps : List Publication). map (slice_get ps) (new_numbers s.connections s.past)) (sym all_said) ∙ are

  published_parts : (new : List Publication) → map (slice_get qs) (map value_of good.old) ≡ some_of new → some_of (at_qos2 qs) ≡ some_of new ++ rest
  published_parts new are =
      sym (two_published s.keeper.own numbered) ∙ ap (λ (l : List (SenderItem ℕ)). map (slice_get qs) (map value_of l)) good.sides.is
      ∙ ap (map (slice_get qs)) (map-append value_of good.old good.new) ∙ map-append (slice_get qs) (map value_of good.old) (map value_of good.new)
      ∙ ap (λ (l : List (Option Publication)). l ++ rest) are

  kept_parts : history.KeeperStandsFor s.keeper state → some_of (at_qos2 (unacknowledged_of state)) ≡ map (slice_get qs) (kept_values good.old) ++ rest
  kept_parts stands =
      sym (two_kept s.keeper state stands numbered) ∙ ap (λ (l : List (SenderItem ℕ)). map (slice_get qs) (kept_values l)) good.sides.is
      ∙ ap (map (slice_get qs)) (kept_both good.old good.new ∙ ap (λ (l : List ℕ). kept_values good.old ++ l) (new_kept _ good.new good.sides.news))
      ∙ map-append (slice_get qs) (kept_values good.old) (map value_of good.new)

  pub first_kept : history.KeeperStandsFor s.keeper state → (new : List Publication)
      → map (slice_get (own_publications (all_own s.keeper))) (new_numbers s.connections s.past) ≡ some_of new
      → AreUnacknowledged (at_qos2 (own_publications (all_own s.keeper))) new (at_qos2 (unacknowledged_of state))
  first_kept stands new are =
      let cut = split_map (λ (p : Publication). Some p) (at_qos2 qs) (some_of new) rest (published_parts new (new_old new are)) in
      let kept = split_map (λ (p : Publication). Some p) (at_qos2 (unacknowledged_of state)) (map (slice_get qs) (kept_values good.old)) rest (kept_parts stands) in
      record {
        waiting = cut.behind;
        published_are = ap at_qos2 all_said ∙ cut.is ∙ ap (λ (l : List Publication). l ++ cut.behind) (same_some cut.front new cut.front_is);
        again = kept.front;
        unacknowledged_are = kept.is ∙ ap (λ (l : List Publication). kept.front ++ l) (same_some kept.behind cut.behind (kept.behind_is ∙ sym cut.behind_is));
      }
