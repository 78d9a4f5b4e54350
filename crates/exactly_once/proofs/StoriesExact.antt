-- Every story keeps its promises: what is shown of its two handshakes and of the places of its list, in one.
use Rattle.std.proofs.Common.{length, subst}
use Rattle.broker_spec.specs.Place.{Client, Limits}
use Rattle.broker_spec.specs.NobodyTheorems.{IsSteady}
use Rattle.exactly_once.specs.Story.{Story}
use Rattle.exactly_once.specs.StoryTrace.{StoryTrace}
use Rattle.exactly_once.specs.Headline.{PublishedOnce, ExactlyOnce}
use Rattle.exactly_once.proofs.Ends.{numbers_in_order}
use Rattle.exactly_once.proofs.keeping.StoryTrace.{told_stories_are_sound, told_stories_accept}
use Rattle.exactly_once.proofs.carrying.KeepsPlaces.{told_carried}
use Rattle.exactly_once.proofs.carrying.EachPublished.{each_published}
use Rattle.exactly_once.proofs.carrying.Distinct.{published_apart}
use Rattle.exactly_once.specs.Carried.{new_numbers}
use Rattle.lists.specs.Lists.{IsDistinct}
use Rattle.lists.proofs.Identifiers.{distinct_front}

pub told_stories_publish_once : (limits : Limits) → IsSteady limits → (c : Client) (s : Story) → StoryTrace limits c s → PublishedOnce limits s
told_stories_publish_once limits steady c s told =
    let sound = told_stories_are_sound limits steady c s told in
    let carried = told_carried limits steady c s told in
    let in_order = numbers_in_order limits s sound.publisher in
    record {
      each = each_published limits s carried
          (distinct_front (new_numbers s.connections s.past) in_order.rest
          (subst IsDistinct in_order.is (published_apart (length s.keeper.earlier) s.keeper.own carried.numbers.1)));
      in_order = in_order;
    }

pub told_stories_are_exact : (limits : Limits) → IsSteady limits → (c : Client) (s : Story) → StoryTrace limits c s → ExactlyOnce limits s
told_stories_are_exact limits steady c s told =
    record { publishers = told_stories_publish_once limits steady c s told; subscribers = told_stories_accept limits steady c s told }
